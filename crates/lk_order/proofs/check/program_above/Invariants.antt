use Rattle.std.proofs.Common.{ℕ, ◌<◌}
use Rattle.lk_rows.specs.Programs.{program_at}
use Rattle.lk_order.specs.Checked.{rank_in, AllAbove}
use Rattle.lk_order.proofs.check.program_above.Given as goal

abbrev pub invariant-loop-below : goal.invariant-loop-below
invariant-loop-below l = (g : ℕ) → g < l.below → AllAbove (rank_in l.ranks) l.handler.items (program_at l.setup l.cpu g)
