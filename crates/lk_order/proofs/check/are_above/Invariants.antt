use Rattle.lk_order.specs.Checked.{rank_in, AllAboveSoFar}
use Rattle.lk_order.proofs.check.are_above.Given as goal

abbrev pub invariant-loop-at : goal.invariant-loop-at
invariant-loop-at l = AllAboveSoFar (rank_in l.ranks) l.handler.items l.ops.items l.«at»
