use Rattle.std.proofs.Common.{◌≡◌, ◌<◌, ℕ, Some, length, slice_get}
use Rattle.lk_reach.proofs.Names.{CpuState, is_over}
use Rattle.lk_reach.proofs.space.marks.overs.Given as goal

-- each mark so far says whether its part is done
abbrev pub invariant-loop-at : goal.invariant-loop-at
invariant-loop-at l = record {
  count : length l.marks.items ≡ l.«at»;
  each : (i : ℕ) (x : CpuState) → i < l.«at» → slice_get l.parts i ≡ Some x → slice_get l.marks.items i ≡ Some (is_over x);
}
