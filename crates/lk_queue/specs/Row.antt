-- What the proofs of this crate's rows say.
use Rattle.std.specs.Prelude.{Option, Some, None}
use Rattle.lk_word.specs.declared.spin_word.NodeName.{NodeName}
use Rattle.lk_rows.specs.declared.parts.Frame.{Frame}
use Rattle.lk_rows.specs.Machine.{Machine, HasNode}
use Rattle.lk_rows.specs.Row.{Lead, Goes, gone}

-- the frame after a lead that stays in its operation
abbrev pub frame_after : Frame → Lead → Frame
frame_after f (Goes c cs) = gone f c cs
frame_after f _ = f

-- the node that a frame has got is there, if it has got one
abbrev pub HasOwn : Machine → Option NodeName → Type 0
HasOwn m None = Unit {0}
HasOwn m (Some n) = HasNode m n
