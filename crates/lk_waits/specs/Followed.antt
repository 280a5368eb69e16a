-- The lost successor is not there: what keeps it so.
use Rattle.std.specs.Prelude.{◌≡◌, ◌≢◌, ◌<◌, Some, None, true, false}
use Rattle.lk_names.specs.History.{LockHistory}
use Rattle.lk_names.specs.declared.names.Waiter.{Waiter}
use Rattle.lk_names.specs.declared.names.LockName.{LockName}
use Rattle.lk_rows.specs.declared.parts.Frame.{Frame}
use Rattle.lk_rows.specs.declared.parts.Pc.{Pc}
use Rattle.lk_rows.specs.declared.parts.Pc.TheVariants.{G1, G7, N1, N2}
use Rattle.lk_law.specs.Agree.{halts}
use Rattle.lk_law.specs.Cna.{moves_aside}
use Rattle.lk_law.specs.SpinWorld.{IsSoundSpinWorld}
use Rattle.lk_law.specs.Steps.{row_in}
use Rattle.lk_law.specs.Premises.{IsThen}
use Rattle.lk_law.specs.World.{World}
use Rattle.lk_waits.specs.Order.{IsFollowed, IsFollowedBy}

-- A head that looks at the word has not heard of a secondary queue.
abbrev pub IsUnaware : World → Type 0
IsUnaware m = (w : Waiter) (f : Frame) → m.frame w ≡ Some f → f.place ≡ Some G7 → f.second ≡ None

-- Each head that waits for a successor has one, or one is coming; and a head that looks at the word
-- has not heard of a secondary queue.
pub record IsHeadFollowed (m : World) : Type 0 where
  pub followed : IsFollowed m
  pub unaware : IsUnaware m
  -- and nobody waits without a node
  pub noded : (w : Waiter) (f : Frame)
      → m.frame w ≡ Some f
      → (f.place ≢ Some N1) × (f.place ≢ Some N2)

-- Where nobody is moved aside and no processor halts, every row of a frame that finds a node left
-- keeps that.
abbrev pub RowKeepsFollowed : Pc → Type 0
RowKeepsFollowed c = (m : World) (hs : LockName → LockHistory) (w : Waiter) (f : Frame)
    → IsSoundSpinWorld m hs → halts m.mode ≡ false → moves_aside m.mode ≡ false
    → m.frame w ≡ Some f → f.place ≡ Some c
    → (f.lock.wait ≡ true → IsThen f.then)
    → (c ≡ G1 → m.queued w.cpu < 4)
    → IsHeadFollowed m → IsHeadFollowed (row_in m w f c).0

-- Each head that waits for a successor has one, or one is coming, or a waiter without a node polls for its
-- lock.
pub record IsHeadLed (m : World) : Type 0 where
  pub followed : IsFollowedBy true m
  pub unaware : IsUnaware m

-- So every row keeps that, whether its frame finds a node left or not.
abbrev pub RowKeepsLed : Pc → Type 0
RowKeepsLed c = (m : World) (hs : LockName → LockHistory) (w : Waiter) (f : Frame)
    → IsSoundSpinWorld m hs → halts m.mode ≡ false → moves_aside m.mode ≡ false
    → m.frame w ≡ Some f → f.place ≡ Some c
    → (f.lock.wait ≡ true → IsThen f.then)
    → IsHeadLed m → IsHeadLed (row_in m w f c).0
