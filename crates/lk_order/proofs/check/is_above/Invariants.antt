use Rattle.lk_order.specs.Checked.{rank_in, IsAboveSoFar}
use Rattle.lk_order.proofs.check.is_above.Given as goal

abbrev pub invariant-loop-at : goal.invariant-loop-at
invariant-loop-at l = IsAboveSoFar (rank_in l.ranks) l.op l.ops.items l.«at»
