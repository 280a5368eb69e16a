-- What contracts see of a judge, and what it says of the events that it has taken.
use Rattle.std.specs.Prelude.{◌≡◌, ℕ, ◌+◌, ◌*◌, ◌^◌, ◌<◌, ◌≤◌, Option, Some, None, List, length, slice_get, All}
use Rattle.std.specs.Option.{option_or}
use Rattle.lk_names.specs.Names.{place_of}
use Rattle.lk_names.specs.History.{LockHistory, no_history, lock_of, told, history_of}
use Rattle.lk_names.specs.Kicks.{kicks_of, kicks_told}
use Rattle.lk_names.specs.Lawful.{Rules, IsLawful}
use Rattle.lk_abs.specs.Breaches.{first_breach}
use Rattle.lk_abs.specs.NoKick.{unkicked}
use Rattle.lk_abs.specs.Remembered.{state_of, IsKept, IsNamed}
use Rattle.lk_names.specs.declared.names.LockName.{LockName}
use Rattle.lk_names.specs.declared.events.Breach.{Breach}
use Rattle.lk_names.specs.declared.events.Event.{Event}
use Rattle.lk_abs.specs.declared.kick_record.KickRecord.{KickRecord}

-- what is kept of a lock: what the events so far say of it, and how many waiters its queue has room for
pub record KeptLock : Type 0 where
  pub history : LockHistory
  pub room : ℕ

-- the rules that a judge goes by, and what it keeps of each declared lock and its wait lock, and of halts and kicks
pub record JudgeState : Type 0 where
  pub rules : Rules
  pub locks : List KeptLock
  pub kicks : KickRecord

-- how many events the judge has taken
abbrev pub taken_by : JudgeState → ℕ
taken_by j = j.kicks.told

-- the parts of a judge fit together: there is room for each waiter, and a name for each lock
pub record FitsTogether (rules : Rules) (locks : List KeptLock) (kicks : KickRecord) : Type 0 where
  pub threshold : rules.threshold ≤ 65535
  pub rooms : All (λ k. k.room ≡ length rules.sockets * 6) locks
  pub few : length locks ≤ 64
  pub kept : IsKept kicks
  pub processors : length kicks.owing.items ≡ length rules.sockets

-- the name of a declared lock that the judge has, or of the wait lock of one
abbrev pub IsDeclared : JudgeState → LockName → Type 0
IsDeclared j l = place_of l < length j.locks

-- An event that the judge can be asked about: by a waiter in range, of processors in range, and if on a lock, on a declared one;
-- and fewer than 2^63 events were taken.
pub record IsInRange (j : JudgeState) (e : Event) : Type 0 where
  pub named : IsNamed (length j.rules.sockets) e
  pub lock : (l : LockName) → lock_of e.what ≡ Some l → IsDeclared j l
  pub few : taken_by j < 2 ^ 63

-- what is said of a lock, and nothing of one that is not kept
abbrev pub kept_history : Option KeptLock → LockHistory
kept_history None = no_history
kept_history (Some k) = k.history

-- what the events that the judge has taken say of a lock, and nothing of one that is not declared
abbrev pub history_at : JudgeState → LockName → LockHistory
history_at j l = kept_history (slice_get j.locks (place_of l))

-- the first clause of the table that an event on this lock, or on none, breaks
abbrev pub breach_on : JudgeState → Option LockName → Event → Option Breach
breach_on j None e = None
breach_on j (Some l) e = first_breach j.rules (history_at j l) e.by e.what

-- the first clause of the table that the event breaks, after those that the judge has taken
abbrev pub table_breach : JudgeState → Event → Option Breach
table_breach j e = breach_on j (lock_of e.what) e

-- in `pv`, the first declared lock, by number, whose head the event leaves asleep
abbrev pub kick_breach : JudgeState → Event → Option Breach
kick_breach j e = unkicked j.rules.mode (kicks_told (state_of j.kicks) e) (λ l. told l (history_at j l) e) (length j.locks)

-- the first clause that the event breaks, after those that the judge has taken
abbrev pub breach_of : JudgeState → Event → Option Breach
breach_of j e = option_or (table_breach j e) (kick_breach j e)

-- a history, its earliest event first
abbrev pub Events : Type 0
Events = List Event

-- the histories of the locks are told on by the event, and nothing else changes
pub record TellsLocks (old new : JudgeState) (e : Event) : Type 0 where
  pub rules : new.rules ≡ old.rules
  pub locks : length new.locks ≡ length old.locks
  pub told : (l : LockName) → history_at new l ≡ told l (history_at old l) e
  pub kicks : new.kicks ≡ old.kicks

-- the judge has taken one event more
pub record TakesOne (old new : JudgeState) (e : Event) : Type 0 where
  pub rules : new.rules ≡ old.rules
  pub locks : length new.locks ≡ length old.locks
  pub told : (l : LockName) → history_at new l ≡ told l (history_at old l) e
  pub kicks : state_of new.kicks ≡ kicks_told (state_of old.kicks) e
  pub taken : taken_by new ≡ taken_by old + 1

-- the events that the judge has taken are these, and they are lawful; of a lock that is not declared they say nothing
pub record HasTaken (j : JudgeState) (es : Events) : Type 0 where
  pub lawful : IsLawful j.rules es
  pub shows : (l : LockName) → history_at j l ≡ history_of l es
  pub kicks : state_of j.kicks ≡ kicks_of es
  pub taken : taken_by j ≡ length es
