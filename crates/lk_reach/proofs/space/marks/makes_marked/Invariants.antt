use Rattle.std.proofs.Common.{◌<◌, ℕ}
use Rattle.lk_reach.specs.Rows.{MakesAt}
use Rattle.lk_reach.proofs.space.marks.makes_marked.Given as goal

-- none of the marked parts so far makes the row
abbrev pub invariant-loop-at : goal.invariant-loop-at
invariant-loop-at l = (i : ℕ) → i < l.«at» → MakesAt l.parts l.marks.items l.row i → ⊥
