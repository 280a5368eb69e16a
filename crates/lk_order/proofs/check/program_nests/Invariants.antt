use Rattle.std.proofs.Common.{ℕ, ◌<◌}
use Rattle.lk_order.specs.Checked.{rank_in, Nests}
use Rattle.lk_order.proofs.check.program_nests.Given as goal

abbrev pub invariant-loop-lock : goal.invariant-loop-lock
invariant-loop-lock l = (i : ℕ) → i < l.lock → Nests (rank_in l.ranks) l.ops.items i
