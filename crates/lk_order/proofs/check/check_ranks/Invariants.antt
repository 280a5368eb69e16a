use Rattle.std.proofs.Common.{ℕ, ◌<◌, ◌≤◌}
use Rattle.lk_rows.specs.Programs.{handlers_of}
use Rattle.lk_order.specs.Checked.{rank_in, IsInOrder}
use Rattle.lk_order.proofs.check.check_ranks.Given as goal

abbrev pub invariant-loop-cpu : goal.invariant-loop-cpu
invariant-loop-cpu l = (p : ℕ) → p < l.cpu → (h : ℕ) → h ≤ handlers_of l.setup p → IsInOrder (rank_in l.ranks) l.setup p h
