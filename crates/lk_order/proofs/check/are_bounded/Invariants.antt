use Rattle.std.proofs.Common.{ℕ, ◌<◌}
use Rattle.lk_order.specs.Checked.{rank_in}
use Rattle.lk_order.proofs.check.are_bounded.Given as goal

abbrev pub invariant-loop-rank : goal.invariant-loop-rank
invariant-loop-rank l = (i : ℕ) → i < l.rank-index → rank_in l.ranks i < 32
