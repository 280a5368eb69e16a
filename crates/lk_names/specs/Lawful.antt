-- When a history is lawful. Each law speaks of every prefix of the history, and so of what stands after every act.
use Rattle.std.specs.Prelude.{◌≡◌, ℕ, ◌≤◌, ◌==◌, ◌⊎◌, ◌||◌, nat_lt, Some, Bool, true, false, List, [], ◌∷◌, ◌++◌, not, length, if◌then◌else◌, slice_get, slice_index_or, count_by, All, Contains}
use Rattle.std.proofs.Common.{suc}
use Rattle.lk_names.specs.History.{LockHistory, is_writer, history_of, lock_of}
use Rattle.lk_names.specs.declared.holder.Manner.{Manner}
use Rattle.lk_names.specs.declared.holder.Manner.TheVariants.{Spins, Reads, Writes}
use Rattle.lk_names.specs.declared.holder.Holder.{Holder}
use Rattle.lk_names.specs.Kicks.{sleeps, IsOwed}
use Rattle.lk_names.specs.declared.names.Format.{Format}
use Rattle.lk_names.specs.declared.names.Format.TheVariants.{One, Two}
use Rattle.lk_names.specs.declared.names.Mode.{Mode}
use Rattle.lk_names.specs.declared.names.Mode.TheVariants.{Cna, Pv}
use Rattle.lk_names.specs.declared.names.Waiter.{Waiter}
use Rattle.lk_names.specs.declared.names.LockName.{LockName}
use Rattle.lk_names.specs.declared.events.Event.{Event}
use Rattle.lk_names.specs.declared.events.How.{How}
use Rattle.lk_names.specs.declared.events.How.TheVariants.{Head, Sole}
use Rattle.lk_names.specs.declared.events.What.{What}
use Rattle.lk_names.specs.declared.events.What.TheVariants.{Take, Release, Arrive, Pass, Flush, Promote, Leave, RTake, RRelease, WTake, WRelease}

-- what the laws read of a setup: the format, the lock family, the socket of each processor, and how
-- many handoffs may pass a moved waiter by
pub record Rules : Type 0 where
  pub format : Format
  pub mode : Mode
  pub sockets : List ℕ
  pub threshold : ℕ

-- the fact holds of the events up to each moment
abbrev pub AtEachMoment : (List Event → Type 0) → List Event → Type 0
AtEachMoment P es = (before after : List Event) → es ≡ before ++ after → P before

-- the fact holds of each event and those before it
abbrev pub OfEachEvent : (List Event → Event → Type 0) → List Event → Type 0
OfEachEvent P es = (before after : List Event) (e : Event) → es ≡ before ++ e ∷ after → P before e

-- the holder admits no other: it holds a spinlock, or writes
abbrev pub writes : Holder → Bool
writes h = is_writer h.manner

-- only readers hold the lock, or one waiter alone
abbrev pub IsShared : List Holder → Type 0
IsShared hs = (count_by writes hs ≡ 0) ⊎ (length hs ≡ 1)

-- the waiter holds the lock in this manner
abbrev pub HoldsSo : LockHistory → Waiter → Manner → Type 0
HoldsSo h w m = Contains h.holders (record { waiter = w; manner = m })

-- the waiter holds the lock, in whatever manner
abbrev pub Holds : LockHistory → Waiter → Type 0
Holds h w = (m : Manner) × HoldsSo h w m

-- who takes does not hold the lock, and who releases holds it in that manner
abbrev pub OwnsUp : LockHistory → Waiter → What → Type 0
OwnsUp h w (Take l how) = ¬ Holds h w
OwnsUp h w (RTake l how) = ¬ Holds h w
OwnsUp h w (WTake l how) = ¬ Holds h w
OwnsUp h w (Release l owing) = HoldsSo h w Spins
OwnsUp h w (RRelease l) = HoldsSo h w Reads
OwnsUp h w (WRelease l) = HoldsSo h w Writes
OwnsUp h w _ = Unit {0}

-- At each moment each lock has at most one writer, and no reader beside a writer; each release is by a waiter that holds the
-- lock in that manner; and no waiter takes a lock that it holds.
pub record IsExclusive (es : List Event) : Type 0 where
  pub shared : AtEachMoment (λ before. (l : LockName) → IsShared (history_of l before).holders) es
  pub owned : OfEachEvent (λ before e. (l : LockName) → lock_of e.what ≡ Some l → OwnsUp (history_of l before) e.by e.what) es

-- the waiter stands in neither queue
abbrev pub IsOutside : LockHistory → Waiter → Type 0
IsOutside h w = (¬ Contains h.main w) × (¬ Contains h.second w)

-- the waiter is the head
abbrev pub IsFront : LockHistory → Waiter → Type 0
IsFront h w = slice_get h.main 0 ≡ Some w

-- how many of these waiters, first to last, are far and have a waiter behind them
abbrev pub movable : (Waiter → Bool) → List Waiter → ℕ
movable far [] = 0
movable far (u ∷ []) = 0
movable far (u ∷ v ∷ us) = if far u then suc (movable far (v ∷ us)) else 0

-- whether two processors stand on the same socket
abbrev pub same_socket : List ℕ → ℕ → ℕ → Bool
same_socket sockets p q = slice_index_or sockets p 0 == slice_index_or sockets q 0

-- whether a waiter in this context is never moved aside: in the second format, one in an interrupt
abbrev pub stays : Format → ℕ → Bool
stays One ctx = false
stays Two ctx = nat_lt 0 ctx

-- whether the waiter is local to the processor: it is never moved aside, or stands on the same
-- socket
abbrev pub is_local : Format → List ℕ → ℕ → Waiter → Bool
is_local format sockets p u = stays format u.ctx || same_socket sockets p u.cpu

-- whether the waiter is not local to the head
abbrev pub is_far : Rules → Waiter → Waiter → Bool
is_far rules front u = not (is_local rules.format rules.sockets front.cpu u)

-- How many waiters a handoff may move aside: in `cna` those right behind the head that are not
-- local to it and have a waiter behind them, else none.
abbrev pub lawful_moves : Rules → List Waiter → ℕ
lawful_moves rules main = by_mode rules.mode
  where
    behind : List Waiter → ℕ
    behind [] = 0
    behind (w ∷ ws) = movable (is_far rules w) ws

    by_mode : Mode → ℕ
    by_mode Cna = behind main
    by_mode _ = 0

-- a take by the queue is by its head, and another by a waiter that stands in no queue
abbrev pub TakesInOrder : LockHistory → Waiter → How → Type 0
TakesInOrder h w Head = IsFront h w
TakesInOrder h w Sole = IsFront h w
TakesInOrder h w _ = IsOutside h w

-- what the order of the queue asks of an event on the lock
abbrev pub InOrder : Rules → LockHistory → Waiter → What → Type 0
InOrder rules h w (Take l how) = TakesInOrder h w how
InOrder rules h w (Release l owing) = IsOutside h w
InOrder rules h w (Arrive l) = IsOutside h w × ¬ Holds h w
InOrder rules h w (Pass l to k) = IsFront h w × Holds h w × (k ≤ lawful_moves rules h.main) × (slice_get h.main (suc k) ≡ Some to)
InOrder rules h w (Flush l) = IsFront h w × Holds h w
InOrder rules h w (Promote l) = IsFront h w × Holds h w
InOrder rules h w (Leave l) = IsFront h w × Holds h w
InOrder rules h w _ = Unit {0}

-- Who arrives, releases or takes past the queue stands in no queue; who takes by the queue, hands off, flushes, promotes or
-- leaves is its head; and a handoff names the next and moves no more than is lawful.
abbrev pub IsOrdered : Rules → List Event → Type 0
IsOrdered rules es = OfEachEvent (λ before e. (l : LockName) → lock_of e.what ≡ Some l → InOrder rules (history_of l before) e.by e.what) es

-- at each moment no waiter that stands aside has seen more handoffs than the threshold
abbrev pub IsBounded : ℕ → List Event → Type 0
IsBounded threshold es = AtEachMoment (λ before. (l : LockName) → All (λ n. n ≤ threshold) (history_of l before).passes) es

-- a head that sleeps while nobody holds its lock is owed a kick
abbrev pub FrontIsOwed : List Event → LockName → Type 0
FrontIsOwed before l = (w : Waiter) → IsFront (history_of l before) w → (history_of l before).holders ≡ [] → sleeps w before ≡ true → IsOwed w.cpu before

-- at each moment every head that sleeps while nobody holds its lock is owed a kick
abbrev pub IsKickedOn : List Event → Type 0
IsKickedOn es = AtEachMoment (λ before. (l : LockName) → FrontIsOwed before l) es

-- exclusive, in order, bounded, and in `pv` no head is left asleep
pub record IsLawful (rules : Rules) (es : List Event) : Type 0 where
  pub exclusive : IsExclusive es
  pub ordered : IsOrdered rules es
  pub bounded : IsBounded rules.threshold es
  pub kicked : rules.mode ≡ Pv → IsKickedOn es
