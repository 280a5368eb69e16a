use Rattle.lk_run.proofs.Names.{N1, Number, Any, calls_of}
use Rattle.lk_domain.specs.Calls.{slows}
use Rattle.lk_run.proofs.Rows as row
use Rattle.lk_run.proofs.Calling as on
use Rattle.lk_run.proofs.call.Call.enter_bare.Goals as goal

pub enter_bare-requires-clause-row : goal.enter_bare-requires-clause-row
enter_bare-requires-clause-row c = record { at = on.at_row c.requires.waits; high = c.requires.full }

pub returns : goal.returns
returns c =
    let n = slows (calls_of c.args.cpu.now).frames in
    on.steps_by c.requires.waits.domain c.enter_bare.ensures.rest (Number n) (λ i. (c.enter_bare.ensures.row.by i).0) N1 Any (λ e. cc e)
    (λ f has. row.enters_bare _ _ f c.requires.waits.domain.awake n c.requires.full)
