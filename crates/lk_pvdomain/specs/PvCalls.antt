-- What a call of a processor has done that is over, where processors halt.
use Rattle.std.specs.Prelude.{◌≡◌, ◌<◌, ℕ, true, false, [], ◌∷◌, List, None, if◌then◌else◌}
use Rattle.atomic_table.specs.declared.shared.Seat.{Seat}
use Rattle.lk_names.specs.Names.{same_lock}
use Rattle.lk_names.specs.declared.names.LockName.{LockName}
use Rattle.lk_word.specs.declared.spin_word.NodeName.{NodeName}
use Rattle.lk_rows.specs.declared.setup.Verb.{Verb}
use Rattle.lk_rows.specs.declared.setup.Verb.TheVariants.{Lock, Try, Unlock}
use Rattle.lk_domain.specs.Calls.{Calls, Hold, holds_in, lock_name, Frees, Unchanged}
use Rattle.lk_domain.specs.Keeps.{Slot}
use Rattle.lk_domain.specs.Ledgers.{is_first}
use Rattle.lk_domain.specs.Plans.{locks_of}
use Rattle.lk_domain.specs.Values.{out_in}
use Rattle.lk_domain.specs.declared.domain.Domain.{Domain}
use Rattle.lk_domain.specs.declared.view.View.{View}
use Rattle.lk_domain.specs.declared.cpu.Cpu.{Cpu}
use Rattle.lk_pvdomain.specs.declared.domain.PvDomain.{PvDomain}
use Rattle.lk_pvdomain.specs.PvPaths.{Rests, Start, Took, Ended, first_node, first_of}
use Rattle.lk_pvdomain.specs.PvPlays.{TriedBy, release_fails}

-- the processor is in no call, and has not halted
pub record IsResting (c : Calls) : Type 0 where
  pub frames : c.frames ≡ []
  pub awake : c.halted ≡ false
  pub fresh : c.looked ≡ 0

-- the node of its calls
abbrev pub own_node : Cpu → NodeName
own_node cpu = first_node cpu.number

-- A call of this operation has acquired the lock: its rows lead from the first one to one that grants,
-- and it holds the lock besides what it held. A look at the ledger has begun with lock 0.
pub record HasTakenBy (v : Verb) (d : PvDomain) (l : ℕ) (old new : Cpu) : Type 0 where
  pub took : Took d.domain v l (own_node old) (first_of v l old.seat) new.seat
  pub rests : IsResting new.seat.me.0.calls

abbrev pub HasTaken : PvDomain → ℕ → Cpu → Cpu → Type 0
HasTaken d l old new = HasTakenBy Lock d l old new

-- the same of a call that began so
pub record HasTakenSince (d : PvDomain) (l : ℕ) (s : Start) (new : Cpu) : Type 0 where
  pub took : Took d.domain Lock l (own_node new) s new.seat
  pub rests : IsResting new.seat.me.0.calls

-- A call of `try_lock` has missed it, and holds what it held.
pub record HasMissed (d : PvDomain) (l : ℕ) (old new : Cpu) : Type 0 where
  pub missed : Ended d.domain Try l (own_node old) (first_of Try l old.seat) Unchanged new.seat
  pub rests : IsResting new.seat.me.0.calls

-- A call has released the lock: its rows lead from the first one to one that frees, by U2 alone, or by U4
-- with U5 behind it, which changes nothing of what is held. What it held of the lock is gone. A look at the
-- ledger has ended with lock 0.
pub record HasFreed (d : PvDomain) (l : ℕ) (old new : Cpu) : Type 0 where
  pub ended : Ended d.domain Unlock l (own_node old) (first_of Unlock l old.seat) Frees new.seat
  pub none : holds_in new.seat.me.0.calls.holds l ≡ false
  pub rests : IsResting new.seat.me.0.calls

-- the processor holds the lock, is in no call, and all that lies under the lock is at home
pub record MayFree (d : Domain) (l : ℕ) (own : NodeName) (a : Seat Slot View) : Type 0 where
  pub rests : Rests d own a
  pub low : l < locks_of d.plan
  pub held : holds_in a.me.0.calls.holds l ≡ true
  pub home : is_first (lock_name l) ≡ true → a.me.0.ledger.out ≡ None
  pub value : out_in a.me.0.calls.holds l ≡ false

-- A release that began so has tried once to exchange the word of a lock for which nobody waits, and met
-- this word: it has made the row U2 where the byte is not held, and else nothing.
pub record HasTried (d : Domain) (l : ℕ) (own : NodeName) (s : Start) (met : ℕ) (new : Seat Slot View) : Type 0 where
  pub old : Seat Slot View
  pub start : s ≡ first_of Unlock l old
  pub may : MayFree d l own old
  pub same : (new.table_id ≡ old.table_id) × (new.id ≡ old.id)
  pub tried : TriedBy release_fails Unlock (lock_name l) 1 old.me met new.me

-- and the seat is as it was before that
pub record IsAsItWas (old new : Seat Slot View) : Type 0 where
  pub table : new.table_id ≡ old.table_id
  pub id : new.id ≡ old.id
  pub me : new.me ≡ old.me

-- the holds but those of this lock
abbrev pub without : LockName → List Hold → List Hold
without l [] = []
without l (h ∷ hs) = if same_lock h.lock l then without l hs else h ∷ without l hs
