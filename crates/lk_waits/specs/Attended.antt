-- What every row keeps of those that wait, in whichever family: the rule of running locks has it.
use Rattle.std.specs.Prelude.{◌≡◌, ◌≤◌, Some, Bool, true, false}
use Rattle.lk_names.specs.History.{LockHistory}
use Rattle.lk_names.specs.declared.names.Waiter.{Waiter}
use Rattle.lk_names.specs.declared.names.LockName.{LockName}
use Rattle.lk_rows.specs.declared.parts.Frame.{Frame}
use Rattle.lk_rows.specs.declared.parts.Pc.{Pc}
use Rattle.lk_rows.specs.declared.parts.Pc.TheVariants.{N1, N2}
use Rattle.lk_law.specs.Agree.{halts}
use Rattle.lk_law.specs.Cna.{moves_aside}
use Rattle.lk_law.specs.Premises.{IsThen}
use Rattle.lk_law.specs.SpinWorld.{HasNoneAbove, IsSoundSpinWorld}
use Rattle.lk_law.specs.Steps.{row_in}
use Rattle.lk_law.specs.World.{World}
use Rattle.lk_waits.specs.Aside.{IsFollowedAsideBy}
use Rattle.lk_waits.specs.Followed.{IsHeadLed}
use Rattle.lk_waits.specs.Halting.{IsHeadServed}

-- a waiter has found no node left, and polls beside the queue
abbrev pub is_bare : Pc → Bool
is_bare N1 = true
is_bare N2 = true
is_bare _ = false

-- Nobody does so in one of the first four contexts of a processor, which has four nodes.
abbrev pub IsDeep : World → Type 0
IsDeep m = (w : Waiter) (f : Frame) (c : Pc) → m.frame w ≡ Some f → f.place ≡ Some c → is_bare c ≡ true → 4 ≤ w.ctx

-- Each head that waits for its successor has one, or one is coming, or a waiter without a node polls for its
-- lock, in the fifth context of its processor or above. Where waiters are moved aside, such a head may have
-- a secondary queue that may return. Where processors halt, each head that halts is awaited.
pub record IsAttended (m : World) : Type 0 where
  pub led : halts m.mode ≡ false → moves_aside m.mode ≡ false → IsHeadLed m
  pub aside : halts m.mode ≡ false → moves_aside m.mode ≡ true → IsFollowedAsideBy true m
  pub deep : halts m.mode ≡ false → IsDeep m
  pub served : halts m.mode ≡ true → IsHeadServed m

-- Every row of the newest frame of a processor keeps that, whether it finds a node left or not.
abbrev pub RowKeepsAttended : Pc → Type 0
RowKeepsAttended c = (m : World) (hs : LockName → LockHistory) (w : Waiter) (f : Frame)
    → IsSoundSpinWorld m hs → HasNoneAbove m w → m.frame w ≡ Some f → f.place ≡ Some c
    → (f.lock.wait ≡ true → IsThen f.then)
    → IsAttended m → IsAttended (row_in m w f c).0
