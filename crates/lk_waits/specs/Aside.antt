-- The theorem for the family in which waiters are moved aside.
use Rattle.std.specs.Prelude.{◌<◌, ◌≡◌, ◌⊎◌, ℕ, Some, Bool, true, false, is_some}
use Rattle.lk_names.specs.History.{LockHistory}
use Rattle.lk_names.specs.declared.names.Waiter.{Waiter}
use Rattle.lk_names.specs.declared.names.LockName.{LockName}
use Rattle.lk_rows.specs.declared.parts.Frame.{Frame}
use Rattle.lk_rows.specs.declared.parts.Pc.{Pc}
use Rattle.lk_rows.specs.declared.parts.Pc.TheVariants.{C1, C3, C10, G1, G9}
use Rattle.lk_rows.specs.declared.parts.Why.{Why}
use Rattle.lk_rows.specs.declared.parts.Why.TheVariants as why
use Rattle.lk_rows.specs.Moves.{is_node, node_of}
use Rattle.lk_law.specs.Agree.{halts}
use Rattle.lk_law.specs.Cna.{moves_aside}
use Rattle.lk_law.specs.SoundWorld.{IsSoundWorld}
use Rattle.lk_law.specs.SpinWorld.{IsSoundSpinWorld}
use Rattle.lk_law.specs.Premises.{IsThen}
use Rattle.lk_law.specs.Steps.{row_in}
use Rattle.lk_law.specs.World.{World}
use Rattle.lk_waits.specs.Waits.{IsTop, IsAtBay}
use Rattle.lk_waits.specs.Order.{IsTidy, IsRanked, SomebodyComesBy, HoldsOutside}

-- a head that has taken the lock, or is about to, and may find nobody behind it
abbrev pub is_alone_row : Pc → Why → Bool
is_alone_row G9 y = true
is_alone_row C1 y = true
is_alone_row C3 why.Promotion = true
is_alone_row C10 y = true
is_alone_row c y = false

-- Such a head whose node is the tail has a secondary queue that may return, since pending is not set;
-- or somebody comes; or, if bare is yes, a waiter without a node polls for its lock.
abbrev pub IsFollowedAsideBy : Bool → World → Type 0
IsFollowedAsideBy bare m = (w : Waiter) (f : Frame) (c : Pc) → m.frame w ≡ Some f → f.place ≡ Some c
    → is_alone_row c f.why ≡ true → is_node (m.word f.lock).tail (node_of f.me) ≡ true
    → ((is_some f.second ≡ true) × ((m.word f.lock).pending ≡ false)) ⊎ SomebodyComesBy bare m f.lock

abbrev pub IsFollowedAside : World → Type 0
IsFollowedAside m = IsFollowedAsideBy false m

-- In an ordered world of `cna` in which every newest frame stands still or turns on the spot: where one
-- stands at a row, some context holds a lock outside.
abbrev pub AtBayWaitForOutside : Type 0
AtBayWaitForOutside = (level : LockName → ℕ) (bound : ℕ) (m : World) (hs : LockName → LockHistory)
    → IsSoundWorld m hs → halts m.mode ≡ false → moves_aside m.mode ≡ true
    → IsTidy m → IsRanked level bound m → IsFollowedAside m → IsAtBay m
    → (w : Waiter) (f : Frame) (c : Pc) → IsTop m w f c → HoldsOutside m

-- Where waiters are moved aside and no processor halts, every row of a frame that finds a node left keeps
-- it.
abbrev pub RowKeepsAside : Pc → Type 0
RowKeepsAside c = (m : World) (hs : LockName → LockHistory) (w : Waiter) (f : Frame)
    → IsSoundSpinWorld m hs → halts m.mode ≡ false → moves_aside m.mode ≡ true
    → m.frame w ≡ Some f → f.place ≡ Some c
    → (f.lock.wait ≡ true → IsThen f.then)
    → (c ≡ G1 → m.queued w.cpu < 4)
    → IsFollowedAside m → IsFollowedAside (row_in m w f c).0

-- So every row keeps it, whether its frame finds a node left or not, where who polls without a node counts.
abbrev pub RowKeepsLedAside : Pc → Type 0
RowKeepsLedAside c = (m : World) (hs : LockName → LockHistory) (w : Waiter) (f : Frame)
    → IsSoundSpinWorld m hs → halts m.mode ≡ false → moves_aside m.mode ≡ true
    → m.frame w ≡ Some f → f.place ≡ Some c
    → (f.lock.wait ≡ true → IsThen f.then)
    → IsFollowedAsideBy true m → IsFollowedAsideBy true (row_in m w f c).0
