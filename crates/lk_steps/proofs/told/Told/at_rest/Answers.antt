use Rattle.lk_steps.proofs.Ready.{ready_at_rest}
use Rattle.lk_steps.proofs.told.Told.at_rest.Goals as goal

pub returns-clause-ready : goal.returns-clause-ready
returns-clause-ready c = ready_at_rest c.args.setup c.in_ok-machine.machine c.len-locks.result c.in_ok-machine.ensures c.rest_shows.ensures.rest c.requires c.len-locks.ensures
