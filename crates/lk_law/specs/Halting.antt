-- What running processors that halt rest on besides: that a head which has halted on a free lock
-- is owed a kick, said of the world alone, without a history of events; and that the node behind
-- that of a head is used.
use Rattle.std.specs.Prelude.{◌≡◌, ◌⊎◌, ℕ, Some, true, slice_get}
use Rattle.lk_names.specs.History.{LockHistory}
use Rattle.lk_names.specs.declared.names.Waiter.{Waiter}
use Rattle.lk_names.specs.declared.names.LockName.{LockName}
use Rattle.lk_word.specs.declared.spin_word.NodeName.{NodeName}
use Rattle.lk_word.specs.declared.spin_word.Locked.TheVariants.{Free}
use Rattle.lk_rows.specs.declared.parts.Frame.{Frame}
use Rattle.lk_rows.specs.declared.parts.Pc.TheVariants.{E14}
use Rattle.lk_rows.specs.Moves.{node_of}
use Rattle.lk_law.specs.Agree.{halts}
use Rattle.lk_law.specs.Kicked.{Owes}
use Rattle.lk_law.specs.Known.{IsOwnNode}
use Rattle.lk_law.specs.Places.{post_of}
use Rattle.lk_law.specs.Premises.{Uses}
use Rattle.lk_law.specs.Pv.{at_halt}
use Rattle.lk_law.specs.SpinWorld.{IsSoundSpinWorld}
use Rattle.lk_law.specs.World.{World}

-- a kick of the processor is remembered, or a frame is about to make it
abbrev pub IsKicked : World → ℕ → Type 0
IsKicked m p = (m.kicked p ≡ true) ⊎ ((u : Waiter) × Owes m p u)

-- In every sound world the first of the queue of a free lock, which is about to halt or has halted,
-- is owed a kick.
abbrev pub SleepingFrontIsKicked : Type 0
SleepingFrontIsKicked = (m : World) (hs : LockName → LockHistory) (l : LockName)
    (w : Waiter) (f : Frame)
    → halts m.mode ≡ true → IsSoundSpinWorld m hs → (m.word l).locked ≡ Free
    → slice_get (hs l).main 0 ≡ Some w → m.frame w ≡ Some f → at_halt (post_of f) ≡ true
    → IsKicked m w.cpu

-- Where processors halt and a head looks for the next, the node that its own link names is used.
abbrev pub HaltingLinkIsUsed : Type 0
HaltingLinkIsUsed = (m : World) (hs : LockName → LockHistory) (w : Waiter) (f : Frame)
    (n : NodeName)
    → IsSoundSpinWorld m hs → m.frame w ≡ Some f → f.place ≡ Some E14
    → (m.node (node_of f.me)).next ≡ Some n → (u : Waiter) × Uses m u n × IsOwnNode u n
