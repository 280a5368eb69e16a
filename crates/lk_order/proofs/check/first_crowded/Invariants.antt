use Rattle.std.proofs.Common.{ℕ, ◌<◌, ◌≤◌}
use Rattle.lk_rows.specs.Programs.{handlers_of}
use Rattle.lk_order.proofs.check.first_crowded.Given as goal

abbrev pub invariant-loop-cpu : goal.invariant-loop-cpu
invariant-loop-cpu l = (p : ℕ) → p < l.cpu → handlers_of l.setup p ≤ 3
