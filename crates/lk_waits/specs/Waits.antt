-- At which rows a frame may stand still, and what it means that it does.
use Rattle.std.specs.Prelude.{◌≡◌, ◌⊎◌, Some, None, Bool, true, false}
use Rattle.lk_names.specs.declared.names.Waiter.{Waiter}
use Rattle.lk_names.specs.declared.names.LockName.{LockName}
use Rattle.lk_rows.specs.declared.parts.Frame.{Frame}
use Rattle.lk_rows.specs.declared.parts.Pc.{Pc}
use Rattle.lk_rows.specs.declared.parts.Pc.TheVariants.{V1, P3, G6, G7, G10}
use Rattle.lk_rows.specs.declared.parts.Pc.TheVariants.{N1, C1, C3, C10, H1, E14, W6, E12, R2, R5, Wr5}
use Rattle.lk_rows.specs.declared.parts.Pc.TheVariants.{E2, E3, E4, E5, E10, E11}
use Rattle.lk_rows.specs.declared.parts.Why.TheVariants as why
use Rattle.lk_rows.specs.rows.Cna.{is_last}
use Rattle.lk_rows.specs.Moves.{node_of, rw_name}
use Rattle.lk_law.specs.Families.{is_rw_row}
use Rattle.lk_law.specs.SpinWorld.{HasNoneAbove}
use Rattle.lk_law.specs.Steps.{row_in}
use Rattle.lk_law.specs.World.{World}

-- the row is a poll: what it meets may leave the frame where it was; or lead it around, of a head that
-- chooses its successor from C1 by C3 and C10 back to C1, of a head whose lock was stolen from E2 by E3,
-- E4, E5, E10 and E11 back to E2
abbrev pub polls : Pc → Bool
polls V1 = true
polls P3 = true
polls G6 = true
polls G7 = true
polls G10 = true
polls N1 = true
polls C1 = true
polls C3 = true
polls C10 = true
polls H1 = true
polls E2 = true
polls E3 = true
polls E4 = true
polls E5 = true
polls E10 = true
polls E11 = true
polls W6 = true
polls E12 = true
polls E14 = true
polls R2 = true
polls R5 = true
polls Wr5 = true
polls _ = false

-- the lock on whose word or queue a frame at a row is at work: that of its operation, or the wait
-- lock of it
abbrev pub lock_at : Pc → Frame → LockName
lock_at c f = if_rw (is_rw_row c) f
  where
    if_rw : Bool → Frame → LockName
    if_rw true f = rw_name f.lock.index
    if_rw false f = f.lock

-- w is the newest frame of its processor, f, and stands at the row c
pub record IsTop (m : World) (w : Waiter) (f : Frame) (c : Pc) : Type 0 where
  pub live : m.frame w ≡ Some f
  pub above : HasNoneAbove m w
  pub place : f.place ≡ Some c

-- the next step of the newest frame leaves the frame as it was
abbrev pub StandsStill : World → Waiter → Frame → Pc → Type 0
StandsStill m w f c = (row_in m w f c).0.frame w ≡ Some f

-- no step of any processor takes its newest frame anywhere
abbrev pub IsStuck : World → Type 0
IsStuck m = (w : Waiter) (f : Frame) (c : Pc) → IsTop m w f c → StandsStill m w f c

-- A head that chooses its successor turns on the spot, or is about to: nobody is linked behind it, and
-- there is no secondary queue, or it cannot return, since the tail is another's or pending is set.
abbrev pub IsBarred : World → Frame → Pc → Type 0
IsBarred m f C1 = ((m.node (node_of f.me)).next ≡ None)
    × ((f.second ≡ None) ⊎ (is_last f (m.word f.lock) ≡ false))
IsBarred m f C3 = ((m.node (node_of f.me)).next ≡ None)
    × (is_last f (m.word f.lock) ≡ false) × (f.why ≡ why.Promotion)
IsBarred m f C10 = ((m.node (node_of f.me)).next ≡ None) × (is_last f (m.word f.lock) ≡ false)
IsBarred m f c = ⊥

-- no newest frame goes anywhere, but such heads around
abbrev pub IsAtBay : World → Type 0
IsAtBay m = (w : Waiter) (f : Frame) (c : Pc) → IsTop m w f c → StandsStill m w f c ⊎ IsBarred m f c
