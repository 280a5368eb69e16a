use Rattle.std.proofs.Common.{◌≡◌, ◌<◌, ℕ, Some, false, slice_get}
use Rattle.lk_reach.proofs.Names.{StaysAt, IsSuch, AreGoing}
use Rattle.lk_reach.proofs.ends.staying.mark_going.Given as goal

-- of the states so far each that is not marked stays
abbrev pub invariant-loop-state : goal.invariant-loop-state
invariant-loop-state l = record {
  such : IsSuch l.fn.machine.setup l.machine;
  going : AreGoing l.plan l.fn.machine.setup l.space l.marks.items;
  stays : (k : ℕ) → k < l.state → slice_get l.marks.items k ≡ Some false → StaysAt l.book k;
}
