-- How a processor stands that takes locks with values.
use Rattle.std.specs.Prelude.{◌≡◌, ℕ, ◌+◌, ◌*◌, ◌<◌, Bool, true, false, List, [], ◌∷◌, Some, None}
use Rattle.std.specs.Prelude.{length, slice_get, slice_index_or}
use Rattle.atomic_table.specs.Seated.{TableId}
use Rattle.atomic_table.specs.declared.shared.Seat.{Seat}
use Rattle.lk_names.specs.declared.holder.Manner.{Manner}
use Rattle.lk_names.specs.declared.holder.Manner.TheVariants.{Spins, Reads, Writes}
use Rattle.lk_names.specs.declared.names.Kind.{Kind}
use Rattle.lk_names.specs.declared.names.Kind.TheVariants.{Rw}
use Rattle.lk_law.specs.Agree.{halts}
use Rattle.lk_rows.specs.declared.setup.Verb.{Verb}
use Rattle.lk_rows.specs.declared.setup.Verb.TheVariants.{Lock, Read, TryWrite, Write}
use Rattle.lk_rows.specs.declared.parts.Pc.{Pc}
use Rattle.lk_rows.specs.declared.parts.Pc.TheVariants.{Z1, Z2}
use Rattle.lk_domain.specs.Calls.{Terms, Mark, Hold, hold, Calls, holds_in, lock_name, terms_of}
use Rattle.lk_domain.specs.Paths.{HasMissed, HasTaken}
use Rattle.lk_domain.specs.Plans.{cpus_of, locks_of, kind_at}
use Rattle.lk_domain.specs.Seats.{IsIn, IsSame, KeepsRest, calls_of, ledger_of, view_of}
use Rattle.lk_domain.specs.Turns.{HasLeft, MadeIn, is_let}
use Rattle.lk_domain.specs.Values.{IsClear, bringing, cell_of, outs_of}
use Rattle.lk_domain.specs.Views.{newcomer}
use Rattle.lk_domain.specs.declared.cpu.Cpu.{Cpu}
use Rattle.lk_domain.specs.declared.domain.Domain.{Domain}
use Rattle.lk_domain.specs.declared.plan.Plan.{Plan}
use Rattle.lk_pvdomain.specs.PvCalls.{IsResting}
use Rattle.lk_run.specs.Entering.{HasEntered}
use Rattle.lk_lock.specs.Turns.{HasLocked, HasPassed, HasTurned, HasUnlocked}

-- the locks that a processor holds
abbrev pub holds_of : Cpu → List Hold
holds_of cpu = (calls_of cpu).holds

-- The processor is one of the domain, in no call, and the journal of the ledger is not out with it. Where
-- processors halt it has not halted.
pub record IsReady (domain : Domain) (cpu : Cpu) : Type 0 where
  pub domain_is : IsIn cpu domain
  pub frames : (calls_of cpu).frames ≡ []
  pub rests : halts domain.plan.mode ≡ true → IsResting (calls_of cpu)
  pub home : (ledger_of cpu).out ≡ None

-- the processor i of the domain is ready, and holds nothing
pub record Rests (domain : Domain) (i : ℕ) (cpu : Cpu) : Type 0 where
  pub ready : IsReady domain cpu
  pub number : cpu.number ≡ i
  pub who : (view_of cpu).who ≡ newcomer domain.plan i
  pub holds : holds_of cpu ≡ []

-- processors that do so, in order of their numbers
abbrev pub AllRest : Domain → List Cpu → Type 0
AllRest domain cpus = (i : ℕ) (d : Cpu) → i < length cpus → Rests domain i (slice_index_or cpus i d)

-- the lock of this number is of this kind, and its value lies in the cell of this name
pub record IsUnder (k : Plan) (kind : Kind) (l : ℕ) (cell : TableId) : Type 0 where
  pub low : l < locks_of k
  pub kind_is : kind_at k l ≡ kind
  pub cell_is : cell_of k l ≡ Some cell

-- the lock of this number is of this kind
pub record IsOfKind (k : Plan) (kind : Kind) (l : ℕ) : Type 0 where
  pub low : l < locks_of k
  pub kind_is : kind_at k l ≡ kind

-- The reader-writer lock of this number has a copy of its value for each processor, and its values lie in
-- the cells of these names.
pub record IsSharedUnder (k : Plan) (l : ℕ) (cells : List TableId) : Type 0 where
  pub low : l < locks_of k
  pub kind_is : kind_at k l ≡ Rw
  pub many : length cells ≡ 1 + cpus_of k
  pub cells_are : (h : ℕ) (cell : TableId) → slice_get cells h ≡ Some cell
      → cell_of k (h * locks_of k + l) ≡ Some cell

-- The processor is the one that it was: it holds what it held, and has the values out that it had.
pub record IsAsBefore (before now : Cpu) : Type 0 where
  pub same : IsSame before now
  pub holds : holds_of now ≡ holds_of before

-- the hold of a lock by a task, whose value is out
abbrev pub out_with : ℕ → Manner → ℕ → Hold
out_with l m n = record { ctx = 0; lock = lock_name l; manner = m; nth = n; out = true }

-- It holds one lock more than before, in this manner, and no value of that lock is out.
pub record IsHolding (l : ℕ) (m : Manner) (before now : Cpu) : Type 0 where
  pub same : IsSame before now
  pub nth : ℕ
  pub holds : holds_of now ≡ hold 0 (lock_name l) m nth ∷ holds_of before
  pub fresh : holds_in (holds_of before) l ≡ false

-- It holds one lock more than before, in this manner, and has its own value out.
pub record IsInside (l : ℕ) (m : Manner) (before now : Cpu) : Type 0 where
  pub table : now.seat.table_id ≡ before.seat.table_id
  pub id : now.seat.id ≡ before.seat.id
  pub number : now.number ≡ before.number
  pub who : (view_of now).who ≡ record (view_of before).who { outs = l ∷ outs_of (view_of before) }
  pub nth : ℕ
  pub holds : holds_of now ≡ out_with l m nth ∷ holds_of before
  pub fresh : holds_in (holds_of before) l ≡ false
  pub apart : IsClear (view_of before).who.plan l (outs_of (view_of before))

-- The processor, which was ready, waits for the lock: the first row of the call that takes it in this manner met
-- this word.
pub record WaitsSince (domain : Domain) (m : Manner) (l met : ℕ) (old now : Cpu) : Type 0 where
  pub ready : IsReady domain old
  pub free : holds_in (holds_of old) l ≡ false
  pub rest : KeepsRest old now
  pub other : is_let m met ≡ false
  pub made : MadeIn m l old met now

-- A call v has taken the spinlock, by a path of its rows, and no other.
pub record TakesLock (domain : Domain) (v : Verb) (l : ℕ) (old new : Cpu) : Type 0 where
  pub ready : IsReady domain new
  pub holding : IsHolding l Spins old new
  pub path : HasLocked (terms_of domain.plan) old.number v l (calls_of old) (calls_of new)

-- A try has missed it.
pub record MissesLock (domain : Domain) (l : ℕ) (old new : Cpu) : Type 0 where
  pub ready : IsReady domain new
  pub before : IsAsBefore old new
  pub missed : HasPassed (terms_of domain.plan) old.number l (calls_of old) (calls_of new)

-- It was freed, which had been taken last.
pub record FreesLock (domain : Domain) (l : ℕ) (old new : Cpu) : Type 0 where
  pub ready : IsReady domain new
  pub before : (before : Cpu) → IsHolding l Spins before old → IsAsBefore before new
  pub freed : HasUnlocked (terms_of domain.plan) old.number l (calls_of old) (calls_of new)

-- what the calls of the processor are as soon as the value of the lock, which is out, is home
abbrev pub home_calls : ℕ → Cpu → Calls
home_calls l cpu = (bringing l (view_of cpu)).calls

-- The call v has taken the spinlock by a path of its rows, and no other lock; and then the value went out.
abbrev pub HasGoneIn : Terms → ℕ → Verb → ℕ → Calls → Cpu → Type 0
HasGoneIn t p v l old new = HasLocked t p v l old (home_calls l new)

-- The call v has taken a reader-writer lock in this manner by a path of its rows, and no other lock but its
-- wait lock: that too, where it freed it behind the path.
pub record HasComeIn (t : Terms) (p : ℕ) (v : Verb) (l : ℕ) (m : Manner) (old new : Calls) : Type 0 where
  pub upto : List Mark
  pub entered : HasEntered t p v l m upto old new
  pub once : new.taken ≡ old.taken + (1 + length entered.behind)

-- A reader-writer lock was taken by its writer at one try, and freed by the row Z2. There was no other
-- acquisition meanwhile.
pub record HasWrittenOnce (t : Terms) (p : ℕ) (l : ℕ) (old new : Calls) : Type 0 where
  pub inside : Calls
  pub taken : HasTaken t p TryWrite l Writes old inside
  pub once : inside.taken ≡ old.taken + 1
  pub left : HasLeft Z2 l inside new

-- It was taken in this manner by a path of its rows, and freed by this row. There was no other acquisition
-- meanwhile but that of its wait lock, where the path has it.
pub record HasBeenIn (t : Terms) (p : ℕ) (v : Verb) (l : ℕ) (m : Manner) (c : Pc) (old new : Calls) : Type 0 where
  pub inside : Calls
  pub entered : HasComeIn t p v l m old inside
  pub left : HasLeft c l inside new

-- its writer did so, who frees it by the row Z2
abbrev pub HasWritten : Terms → ℕ → Verb → ℕ → Calls → Calls → Type 0
HasWritten t p v l old new = HasBeenIn t p v l Writes Z2 old new

-- a reader, who frees it by the row Z1
abbrev pub HasRead : Terms → ℕ → Verb → ℕ → Calls → Calls → Type 0
HasRead t p v l old new = HasBeenIn t p v l Reads Z1 old new

-- A call v has come into a reader-writer lock, in this manner; its writer has at one try, or has missed it; and
-- it has left by this row the lock that was taken last.

pub record EntersLock (domain : Domain) (v : Verb) (l : ℕ) (m : Manner) (old new : Cpu) : Type 0 where
  pub ready : IsReady domain new
  pub holding : IsHolding l m old new
  pub path : HasComeIn (terms_of domain.plan) old.number v l m (calls_of old) (calls_of new)

pub record EntersOnce (domain : Domain) (l : ℕ) (old new : Cpu) : Type 0 where
  pub ready : IsReady domain new
  pub holding : IsHolding l Writes old new
  pub path : HasTaken (terms_of domain.plan) old.number TryWrite l Writes (calls_of old) (calls_of new)
  pub once : (calls_of new).taken ≡ (calls_of old).taken + 1

pub record StaysOut (domain : Domain) (l : ℕ) (old new : Cpu) : Type 0 where
  pub ready : IsReady domain new
  pub before : IsAsBefore old new
  pub missed : HasMissed (terms_of domain.plan) old.number TryWrite l (calls_of old) (calls_of new)

pub record LeavesLock (domain : Domain) (c : Pc) (l : ℕ) (m : Manner) (old new : Cpu) : Type 0 where
  pub ready : IsReady domain new
  pub before : (before : Cpu) → IsHolding l m before old → IsAsBefore before new
  pub left : HasLeft c l (calls_of old) (calls_of new)

-- By the manner in which a turn holds its lock: the lock was taken, by a call that waits until it has it, and no
-- other was but the wait lock that such a call has taken; it was freed, which had been taken last; and both.

abbrev pub ComesIn : Domain → Manner → ℕ → Cpu → Cpu → Type 0
ComesIn domain Spins l old new = TakesLock domain Lock l old new
ComesIn domain Reads l old new = EntersLock domain Read l Reads old new
ComesIn domain Writes l old new = EntersLock domain Write l Writes old new

abbrev pub GoesOut : Domain → Manner → ℕ → Cpu → Cpu → Type 0
GoesOut domain Spins l old new = FreesLock domain l old new
GoesOut domain Reads l old new = LeavesLock domain Z1 l Reads old new
GoesOut domain Writes l old new = LeavesLock domain Z2 l Writes old new

abbrev pub HasTurnedIn : Manner → Terms → ℕ → ℕ → Calls → Calls → Type 0
HasTurnedIn Spins t p l old new = HasTurned t p Lock l old new
HasTurnedIn Reads t p l old new = HasRead t p Read l old new
HasTurnedIn Writes t p l old new = HasWritten t p Write l old new

-- The processor has made a turn: it took the lock in this manner and freed it, and is ready again.
pub record TurnsLock (domain : Domain) (m : Manner) (l : ℕ) (old new : Cpu) : Type 0 where
  pub ready : IsReady domain new
  pub before : IsAsBefore old new
  pub turned : HasTurnedIn m (terms_of domain.plan) old.number l (calls_of old) (calls_of new)

-- the seat has opened the cell of this name, and has its value
pub record HasOpened {T : Type 0} (cell : TableId) (place : Seat T Bool) : Type 0 where
  pub table : place.table_id ≡ cell
  pub view : place.me.0 ≡ true
  pub value : T
  pub slot : place.me.1 ≡ (0, value) ∷ []
