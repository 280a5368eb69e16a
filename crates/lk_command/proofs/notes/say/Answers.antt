use Rattle.lk_command.proofs.Said.{said_or_cut}
use Rattle.lk_command.proofs.notes.say.Goals as goal

pub returns : goal.returns
returns g c = said_or_cut c.put.result c.put.ensures.ok c.put.ensures.cause.failed c.put.ensures.err
