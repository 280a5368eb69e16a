use Rattle.std.proofs.Common.{◌≡◌, Some, slice_get}
use Rattle.lk_reach.proofs.Names.{Key}
use Rattle.lk_reach.specs.Rows.{AreUsedNow}
use Rattle.lk_reach.proofs.space.Space.mark_parts.Given as goal

-- the parts of the processors so far are marked
abbrev pub invariant-loop-cpu : goal.invariant-loop-cpu
invariant-loop-cpu l = (key : Key) → slice_get l.self.keys l.state ≡ Some key
    → AreUsedNow key l.fn.marks.items l.marks.items l.cpu
