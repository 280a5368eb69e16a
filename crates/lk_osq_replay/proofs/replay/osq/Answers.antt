use Rattle.lk_osq_replay.proofs.Finished.{finished}
use Rattle.lk_osq_replay.proofs.replay.osq.Goals as goal

pub returns-in-Ok-clause-outcome : goal.returns-in-Ok-clause-outcome
returns-in-Ok-clause-outcome g c =
    let done = c.in-Ok.ensures.done in
    rw c.acts.ensures (finished _ _ c.in-Ok.script.stage done.0 done.1 done.2)
