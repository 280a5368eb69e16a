use Rattle.std.proofs.Common.{arith}
use Rattle.lk_audit.proofs.Turns.{stops_sooner}
use Rattle.lk_audit.proofs.history.read_on.Goals as goal

pub lines-preserved : goal.lines-preserved
lines-preserved g c =
    let turned = c.in-Ok-true.ensures in
    let so_far = c.lines.invariant in
    record {
      goes_on = turned.goes_on;
      stands = λ input s. rw c.in-Ok-true.field-0-test at (turned.turns input (so_far.stands input s));
      later = omega (arith, so_far.later, turned.later);
    }

pub returns-in-Ok-false-clause-stops : goal.returns-in-Ok-false-clause-stops
returns-in-Ok-false-clause-stops g c = λ input s.
    rw c.in-Ok-false.field-0-test at (c.in-Ok-false.ensures.turns input (c.lines.invariant.stands input s))

pub returns-in-Err-clause-stops : goal.returns-in-Err-clause-stops
returns-in-Err-clause-stops g c = λ input s.
    stops_sooner input _ _ _ c.in-Err.fault c.lines.invariant.later (c.in-Err.ensures.turns input (c.lines.invariant.stands input s))
