-- What the code of this crate's rows needs of the machine; all of it holds of a sound one.
use Rattle.std.specs.Prelude.{◌≡◌, ◌<◌, ◌+◌, ◌^◌, ℕ, Some, true, is_some}
use Rattle.lk_rows.specs.declared.parts.Frame.{Frame}
use Rattle.lk_rows.specs.declared.parts.Pc.TheVariants.{C2, C7}
use Rattle.lk_rows.specs.Machine.{Machine, HasNode, node_at, top_frame}
use Rattle.lk_rows.specs.Moves.{node_of}
use Rattle.lk_machine.specs.Ready.{IsReady}
use Rattle.lk_rows.specs.Row.{Lead, Goes, gone}

-- the frame after a lead that stays in its operation
abbrev pub frame_after : Frame → Lead → Frame
frame_after f (Goes c cs) = gone f c cs
frame_after f _ = f

-- The machine can make the row; the head has a node; it may pass over one waiter more; and where waiters stand aside once it hands
-- off, the run may be one handoff longer.
pub record IsCnaReady (m : Machine) (p : ℕ) : Type 0 where
  pub ready : IsReady m p
  pub own : HasNode m (node_of (top_frame m p).me)
  pub few : (top_frame m p).place ≡ Some C2 → (top_frame m p).k + 1 < 2 ^ 32
  pub short : (top_frame m p).place ≡ Some C7 → is_some (top_frame m p).second ≡ true → (node_at m (node_of (top_frame m p).me)).runs + 1 < 2 ^ 32
