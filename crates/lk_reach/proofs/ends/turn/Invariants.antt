use Rattle.std.proofs.Common.{◌≡◌, ◌<◌, ◌≤◌, ℕ, Bool, Some, length, not, slice_get}
use Rattle.lk_reach.proofs.ends.turn.Given as goal

-- the marks so far are turned round, and the rest are as before
abbrev pub invariant-loop-at : goal.invariant-loop-at
invariant-loop-at l = record {
  count : length l.marks.items ≡ length l.fn.marks.items;
  turned : (k : ℕ) (mark : Bool) → k < l.«at» → slice_get l.marks.items k ≡ Some mark → slice_get l.fn.marks.items k ≡ Some (not mark);
  rest : (k : ℕ) (mark : Bool) → l.«at» ≤ k → slice_get l.marks.items k ≡ Some mark → slice_get l.fn.marks.items k ≡ Some mark;
}
