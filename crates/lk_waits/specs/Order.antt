-- The order in which locks are waited for, and the theorem that no schedule of an ordered world
-- comes to a deadlock.
use Rattle.std.specs.Prelude.{◌≡◌, ◌≢◌, ◌<◌, ◌≤◌, ◌⊎◌, ◌+◌, ◌*◌, ℕ, Some, None, Bool, true, false}
use Rattle.std.specs.Prelude.{if◌then◌else◌}
use Rattle.lk_names.specs.History.{LockHistory}
use Rattle.lk_names.specs.declared.holder.Manner.{Manner}
use Rattle.lk_names.specs.declared.holder.Manner.TheVariants.{Reads}
use Rattle.lk_names.specs.declared.names.Waiter.{Waiter}
use Rattle.lk_names.specs.declared.names.LockName.{LockName}
use Rattle.lk_rows.specs.declared.parts.Frame.{Frame}
use Rattle.lk_rows.specs.declared.parts.Pc.{Pc}
use Rattle.lk_rows.specs.declared.parts.Pc.TheVariants.{P2, G1, G2, G3, G4, G9, G10, N1, N2, R2}
use Rattle.lk_rows.specs.Moves.{is_node, node_of}
use Rattle.lk_law.specs.Agree.{halts}
use Rattle.lk_law.specs.Cna.{moves_aside}
use Rattle.lk_law.specs.Premises.{IsShallow}
use Rattle.lk_law.specs.SoundWorld.{IsSoundWorld}
use Rattle.lk_law.specs.SpinWorld.{HasNoneAbove}
use Rattle.lk_law.specs.World.{World}
use Rattle.lk_waits.specs.Waits.{polls, lock_at, IsTop, IsStuck}

-- No context is above the sixth; and the frame of an interrupt stands at a row, since it goes with
-- its program.
pub record IsTidy (m : World) : Type 0 where
  pub shallow : (p : ℕ) → IsShallow m p
  pub handlers : (u : Waiter) (f : Frame)
      → m.frame u ≡ Some f
      → 0 < u.ctx
      → (c : Pc) × (f.place ≡ Some c)

-- A context holds a lock while its processor is at no row: between two operations of a program, or,
-- on running processors, outside of every call. What is to come is not the lock's to say.
pub record HoldsOutside (m : World) : Type 0 where
  pub by : Waiter
  pub lock : LockName
  pub way : Manner
  pub holds : m.held by lock ≡ Some way
  pub out : (f : Frame) → m.frame by ≡ Some f → f.place ≡ None
  pub newest : HasNoneAbove m by

-- Nobody does so.
abbrev pub HoldsInside : World → Type 0
HoldsInside m = HoldsOutside m → ⊥

-- A level for each lock, below a bound: the newest frame of a processor polls for a lock only where
-- its level is above that of each lock which a context of the processor holds, and of each on which
-- an interrupted one is at work. But a reader in an interrupt, which waits for the writer alone, may
-- poll for a lock that the contexts below it hold as readers, or are at work on.
pub record IsRanked (level : LockName → ℕ) (bound : ℕ) (m : World) : Type 0 where
  pub below : (l : LockName) → level l < bound
  pub holds : (w u : Waiter) (f : Frame) (c : Pc) (k : LockName) (way : Manner)
      → IsTop m w f c
      → polls c ≡ true
      → u.cpu ≡ w.cpu
      → m.held u k ≡ Some way
      → (level k < level (lock_at c f)) ⊎ ((c ≡ R2) × (way ≡ Reads) × (k ≡ lock_at c f))
  pub works : (w u : Waiter) (f g : Frame) (c d : Pc)
      → IsTop m w f c
      → polls c ≡ true
      → u.cpu ≡ w.cpu
      → u ≢ w
      → m.frame u ≡ Some g
      → g.place ≡ Some d
      → (level (lock_at d g) < level (lock_at c f))
      ⊎ ((c ≡ R2) × (level (lock_at d g) ≤ level (lock_at c f)))

-- the level of a lock, by its rank: that of a wait lock is below that of its reader-writer lock
abbrev pub level_of : (ℕ → ℕ) → LockName → ℕ
level_of rank l = rank l.index * 2 + (if l.wait then 0 else 1)

-- a head that has found, or supposed, another behind it
abbrev pub is_led_on : Pc → Bool
is_led_on G9 = true
is_led_on G10 = true
is_led_on _ = false

-- a waiter on its way to the queue, from the pending bit; and, if bare is yes, also one that has found no
-- node left, and polls beside the queue
abbrev pub comes_by : Bool → Pc → Bool
comes_by bare P2 = true
comes_by bare G1 = true
comes_by bare G2 = true
comes_by bare G3 = true
comes_by bare G4 = true
comes_by bare N1 = bare
comes_by bare N2 = bare
comes_by bare _ = false

abbrev pub is_coming : Pc → Bool
is_coming c = comes_by false c

-- somebody is on the way to the lock's queue, or, if bare is yes, polls beside it
pub record SomebodyComesBy (bare : Bool) (m : World) (l : LockName) : Type 0 where
  pub by : Waiter
  pub frame : Frame
  pub place : Pc
  pub live : m.frame by ≡ Some frame
  pub at : frame.place ≡ Some place
  pub lock : frame.lock ≡ l
  pub comes : comes_by bare place ≡ true

abbrev pub SomebodyComes : World → LockName → Type 0
SomebodyComes m l = SomebodyComesBy false m l

-- A head that waits for a successor has one, or one is coming; or, if bare is yes, a waiter without a node
-- polls for its lock.
abbrev pub IsFollowedBy : Bool → World → Type 0
IsFollowedBy bare m = (w : Waiter) (f : Frame) (c : Pc) → m.frame w ≡ Some f → f.place ≡ Some c
    → is_led_on c ≡ true → is_node (m.word f.lock).tail (node_of f.me) ≡ true
    → SomebodyComesBy bare m f.lock

-- It has one, or one is coming: the lost successor is not there.
abbrev pub IsFollowed : World → Type 0
IsFollowed m = IsFollowedBy false m

-- In an ordered world, of a family in which no processor halts and nobody is moved aside, that is
-- stuck: where a newest frame stands at a row, some context holds a lock outside.
abbrev pub StuckWaitForOutside : Type 0
StuckWaitForOutside = (level : LockName → ℕ) (bound : ℕ) (m : World) (hs : LockName → LockHistory)
    → IsSoundWorld m hs → halts m.mode ≡ false → moves_aside m.mode ≡ false
    → IsTidy m → IsRanked level bound m → IsFollowed m → IsStuck m
    → (w : Waiter) (f : Frame) (c : Pc) → IsTop m w f c → HoldsOutside m

-- So where nobody does, every newest frame has ended: nobody waits.
abbrev pub NoDeadlock : Type 0
NoDeadlock = (level : LockName → ℕ) (bound : ℕ) (m : World) (hs : LockName → LockHistory)
    → IsSoundWorld m hs → halts m.mode ≡ false → moves_aside m.mode ≡ false
    → IsTidy m → IsRanked level bound m → IsFollowed m → HoldsInside m → IsStuck m
    → (w : Waiter) (f : Frame) (c : Pc) → IsTop m w f c → ⊥
