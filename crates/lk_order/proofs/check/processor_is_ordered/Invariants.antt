use Rattle.std.proofs.Common.{ℕ, ◌<◌}
use Rattle.lk_order.specs.Checked.{rank_in, IsInOrder}
use Rattle.lk_order.proofs.check.processor_is_ordered.Given as goal

abbrev pub invariant-loop-number : goal.invariant-loop-number
invariant-loop-number l = (h : ℕ) → h < l.number → IsInOrder (rank_in l.ranks) l.setup l.cpu h
