use Rattle.std.proofs.Common.{◌≡◌, ◌≢◌, ◌<◌, ℕ, Some, slice_get}
use Rattle.lk_reach.proofs.Names.{CpuState, row_of}
use Rattle.lk_reach.proofs.space.has_row.Given as goal

-- no part so far makes the row
abbrev pub invariant-loop-at : goal.invariant-loop-at
invariant-loop-at l =
    (i : ℕ) (x : CpuState) → i < l.«at» → slice_get l.parts i ≡ Some x → row_of x ≢ Some l.row
