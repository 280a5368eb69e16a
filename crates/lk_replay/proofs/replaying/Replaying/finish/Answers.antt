use Rattle.std.proofs.Common.{arith}
use Rattle.lk_replay.proofs.Answered.{causes_sooner}
use Rattle.lk_replay.proofs.replaying.Replaying.finish.Goals as goal

pub returns-in-Ok-clause-outcome : goal.returns-in-Ok-clause-outcome
returns-in-Ok-clause-outcome g c = λ input held s.
    let read = c.in-Ok.ensures in
    c.close.ensures.outcome input _ held _ _ _ (read.stops input held s) read.causes.writes_later

pub returns-in-Ok-clause-causes : goal.returns-in-Ok-clause-causes
returns-in-Ok-clause-causes g c =
    let read = c.in-Ok.ensures.causes in
    causes_sooner _ _ _ _ _ c.close.result read.writes_later (c.close.ensures.causes _ _ read.reads_later)

pub returns-clause-outcome : goal.returns-clause-outcome
returns-clause-outcome g c = λ input held s.
    let read = c.in-Err.ensures in
    c.cut.ensures.outcome input _ held _ _ _ (read.stops input held s) read.causes.rose read.causes.writes_later

pub returns-clause-causes : goal.returns-clause-causes
returns-clause-causes g c =
    let read = c.in-Err.ensures.causes in
    let later = read.writes_later in
    let cut = c.cut.ensures.later in record {
      reads_later = read.reads_later;
      writes_later = omega (arith, later, cut);
      rose = c.cut.ensures.rose _ _ _ read.rose read.writes_later;
    }
