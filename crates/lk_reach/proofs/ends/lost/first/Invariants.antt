use Rattle.std.proofs.Common.{◌≡◌, ◌<◌, ℕ, Some, true, slice_get}
use Rattle.lk_reach.proofs.ends.lost.first.Given as goal

-- none of the marks so far is set
abbrev pub invariant-loop-at : goal.invariant-loop-at
invariant-loop-at l = (j : ℕ) → j < l.«at» → slice_get l.marks.items j ≡ Some true → ⊥
