use Rattle.std.proofs.Common.{arith}
use Rattle.lk_replay.proofs.Answered.{ended_whole, ended_cut}
use Rattle.lk_replay.proofs.replaying.Replaying.close.Goals as goal

pub returns-in-Ok-clause-outcome : goal.returns-in-Ok-clause-outcome
returns-in-Ok-clause-outcome g c = λ input left held reads reads_now writes s before.
    rw c.counts.ensures (ended_whole input left held _ _ reads reads_now writes _ c.args.self.now s (rw c.counts.ensures at c.in-Ok.ensures.ok))

pub returns-in-Err-clause-outcome : goal.returns-in-Err-clause-outcome
returns-in-Err-clause-outcome g c = λ input left held reads reads_now writes s before.
    let rose = c.in-Err.ensures.cause.failed in
    ended_cut input left held _ _ reads reads_now writes _ c.args.self.now s (omega (arith, rose, before)) (rw c.counts.ensures at c.in-Err.ensures.err)
