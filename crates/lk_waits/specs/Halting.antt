-- The theorem for the family that halts processors.
use Rattle.std.specs.Prelude.{◌≡◌, ◌⊎◌, ℕ, Some, Bool, true, false}
use Rattle.lk_names.specs.History.{LockHistory}
use Rattle.lk_names.specs.declared.names.Waiter.{Waiter}
use Rattle.lk_names.specs.declared.names.LockName.{LockName}
use Rattle.lk_word.specs.declared.spin_word.Locked.TheVariants.{Held, Slow}
use Rattle.lk_rows.specs.declared.parts.Flag.{Flag}
use Rattle.lk_rows.specs.declared.parts.Frame.{Frame}
use Rattle.lk_rows.specs.declared.parts.Pc.{Pc}
use Rattle.lk_rows.specs.declared.parts.Pc.TheVariants.{W6, E2, E3, E4, E5, E10, E11, E12, E14}
use Rattle.lk_rows.specs.declared.parts.Pc.TheVariants.{K1, K2, U5}
use Rattle.lk_rows.specs.Acts.{stands_halting}
use Rattle.lk_rows.specs.Moves.{is_node, node_of}
use Rattle.lk_rows.specs.rows.Pv.{is_set}
use Rattle.lk_law.specs.Agree.{halts}
use Rattle.lk_law.specs.Premises.{IsNewest, IsThen, roused}
use Rattle.lk_law.specs.SoundWorld.{IsSoundWorld}
use Rattle.lk_law.specs.SpinWorld.{IsSoundSpinWorld}
use Rattle.lk_law.specs.Steps.{row_in, put_kicked}
use Rattle.lk_law.specs.World.{World}
use Rattle.lk_waits.specs.Waits.{IsTop, StandsStill}
use Rattle.lk_waits.specs.Order.{IsTidy, IsRanked, HoldsOutside}

-- a head goes around these rows, and does not halt, as long as another holds a lock that is not slow
abbrev pub goes_around : Pc → Bool
goes_around E2 = true
goes_around E3 = true
goes_around E4 = true
goes_around E5 = true
goes_around E10 = true
goes_around E11 = true
goes_around _ = false

-- The lock of a head was stolen after it had entered the lock into the hash. Who stole it does not know
-- that the head is there: the byte is held, and not slow. So the head does not halt, and goes around.
abbrev pub IsRobbed : World → Frame → Pc → Type 0
IsRobbed m f c = (goes_around c ≡ true) × (f.hashed ≡ true) × ((m.word f.lock).locked ≡ Held)

-- The next step of the processor of a newest frame leads it nowhere. The processor has halted, and no
-- kick of it is remembered; or the frame stands at a row that does not halt, and stays there; or it is a
-- head that goes around.
abbrev pub LeadsNowhere : World → Waiter → Frame → Pc → Type 0
LeadsNowhere m w f c = ((m.halted w.cpu ≡ true) × (m.kicked w.cpu ≡ false))
    ⊎ ((stands_halting (Some c) ≡ false) × StandsStill m w f c)
    ⊎ IsRobbed m f c

-- no step of any processor leads its newest frame anywhere
abbrev pub IsAtRest : World → Type 0
IsAtRest m = (w : Waiter) (f : Frame) (c : Pc) → IsTop m w f c → LeadsNowhere m w f c

-- the frame is at the row at which it kicks processor p, since it has freed this lock
pub record OwesKick (m : World) (l : LockName) (p : ℕ) : Type 0 where
  pub by : Waiter
  pub frame : Frame
  pub live : m.frame by ≡ Some frame
  pub at : frame.place ≡ Some U5
  pub lock : frame.lock ≡ l
  pub target : (node_of frame.target).cpu ≡ p

-- a holder that has handed off is about to look whether the new head has halted, or to say so in the
-- lock's byte; a head at E12 was no such waiter, but entered its lock into the hash itself
abbrev pub looks_after : Pc → Pc → Bool
looks_after W6 K1 = true
looks_after W6 K2 = true
looks_after c d = false

-- somebody is about to look after the head of this lock, which halts at the row c
pub record IsLookedAfter (m : World) (l : LockName) (c : Pc) : Type 0 where
  pub by : Waiter
  pub frame : Frame
  pub place : Pc
  pub live : m.frame by ≡ Some frame
  pub at : frame.place ≡ Some place
  pub lock : frame.lock ≡ l
  pub looks : looks_after c place ≡ true

-- the row is one at which a head is about to halt or has halted, with this flag in its node: a waiter of
-- the queue is the head where its flag is set
abbrev pub halts_as_head : Pc → Flag → Bool
halts_as_head E12 x = true
halts_as_head W6 x = is_set x
halts_as_head _ x = false

-- What ends the wait of a head that halts: the byte says slow, so that who frees the lock finds the head
-- in the hash; or somebody looks after the head; or a kick of its processor is remembered; or who has
-- freed this very lock is about to kick it.
abbrev pub IsAwaited : World → LockName → Pc → ℕ → Type 0
IsAwaited m l c p = ((m.word l).locked ≡ Slow) ⊎ IsLookedAfter m l c ⊎ (m.kicked p ≡ true) ⊎ OwesKick m l p

-- Each head that looks for its successor has one, and each head that halts is awaited.
pub record IsHeadServed (m : World) : Type 0 where
  pub followed : (w : Waiter) (f : Frame)
      → m.frame w ≡ Some f
      → f.place ≡ Some E14
      → is_node (m.word f.lock).tail (node_of f.me) ≡ false
  pub awaited : (w : Waiter) (f : Frame) (c : Pc)
      → m.frame w ≡ Some f
      → f.place ≡ Some c
      → halts_as_head c (m.node (node_of f.me)).flag ≡ true
      → IsAwaited m f.lock c w.cpu

-- In an ordered world of `pv` in which each step leads nowhere: where a newest frame stands at a row,
-- some context holds a lock outside.
abbrev pub AtRestWaitForOutside : Type 0
AtRestWaitForOutside = (level : LockName → ℕ) (bound : ℕ) (m : World) (hs : LockName → LockHistory)
    → IsSoundWorld m hs → halts m.mode ≡ true
    → IsTidy m → IsRanked level bound m → IsHeadServed m → IsAtRest m
    → (w : Waiter) (f : Frame) (c : Pc) → IsTop m w f c → HoldsOutside m

-- Where processors halt, every row keeps it that heads are served.
abbrev pub RowKeepsServed : Pc → Type 0
RowKeepsServed c = (m : World) (hs : LockName → LockHistory) (w : Waiter) (f : Frame)
    → IsSoundSpinWorld m hs → halts m.mode ≡ true
    → m.frame w ≡ Some f → f.place ≡ Some c
    → (f.lock.wait ≡ true → IsThen f.then)
    → IsHeadServed m → IsHeadServed (row_in m w f c).0

-- So does the end of a halt, by an interrupt or a nudge, and by a kick, which is remembered no more.
abbrev pub EndsKeepServed : Type 0
EndsKeepServed = (m : World) (hs : LockName → LockHistory) (w : Waiter) (f : Frame)
    → IsSoundSpinWorld m hs → IsNewest m w → m.frame w ≡ Some f → m.halted w.cpu ≡ true
    → IsHeadServed m
    → IsHeadServed (roused m w f) × IsHeadServed (put_kicked (roused m w f) w.cpu false)
