use Rattle.std.proofs.Common.{arith}
use Rattle.lk_stream.proofs.Answered.{ended_whole, ended_cut}
use Rattle.lk_stream.proofs.stream.Stream.close.Goals as goal

pub returns-in-Ok-clause-done : goal.returns-in-Ok-clause-done
returns-in-Ok-clause-done g c = λ input left held reads reads_now writes s. (
  s.said,
  c.in-Ok.ensures.shown s.said s.shown,
  ended_whole _ _ input left held _ _ reads reads_now writes _ _ s
      (c.in-Ok.ensures.ok s.said s.shown),
)

pub returns-in-Err-clause-cut : goal.returns-in-Err-clause-cut
returns-in-Err-clause-cut g c = λ input left held reads reads_now writes s before.
    let rose = c.in-Err.ensures.cause.failed in
    ended_cut _ _ input left held _ _ reads reads_now writes _ _ s (omega (arith, rose, before))
    (c.in-Err.ensures.err s.said s.shown)
