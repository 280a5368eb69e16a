use Rattle.std.proofs.Common.{◌≡◌, ◌<◌, ℕ, Some, slice_get}
use Rattle.lk_reach.specs.Space.{IsLikePart}
use Rattle.lk_reach.proofs.space.Space.are_like.Given as goal

-- the parts so far are like those
abbrev pub invariant-loop-at : goal.invariant-loop-at
invariant-loop-at l = (p i j : ℕ) → p < l.«at» → slice_get l.parts p ≡ Some i → slice_get l.others p ≡ Some j
    → IsLikePart l.self.classes i j
