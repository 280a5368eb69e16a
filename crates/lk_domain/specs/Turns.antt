-- A turn of a processor in no call, by the manner in which it holds its lock.
use Rattle.std.specs.Prelude.{◌≡◌, ℕ, ◌+◌, ◌==◌, false, Bool, [], ◌∷◌, length}
use Rattle.atomic_table.specs.Table.{Me}
use Rattle.lk_names.specs.declared.holder.Manner.{Manner}
use Rattle.lk_names.specs.declared.holder.Manner.TheVariants.{Reads, Spins, Writes}
use Rattle.lk_word.specs.declared.rw_word.RwFields.{RwFields}
use Rattle.lk_rows.specs.declared.parts.Pc.{Pc}
use Rattle.lk_rows.specs.declared.parts.Pc.TheVariants.{Z1, Z2}
use Rattle.lk_rows.specs.declared.setup.Verb.{Verb}
use Rattle.lk_rows.specs.declared.setup.Verb.TheVariants.{Lock, Read, RUnlock, Unlock, Write, WUnlock}
use Rattle.lk_law.specs.Leads.{Shared}
use Rattle.lk_domain.specs.Calls.{Calls, free_of, holds_in, lock_name, mark, moved_to, terms_of}
use Rattle.lk_domain.specs.Keeps.{Slot}
use Rattle.lk_domain.specs.Paths.{HasFreed, HasTaken}
use Rattle.lk_domain.specs.Plays.{Acts, MadeBy}
use Rattle.lk_domain.specs.Rows.{is_free, is_take}
use Rattle.lk_domain.specs.RwPlays.{ActsFor, SharedBy}
use Rattle.lk_domain.specs.RwRows.{joins_by, leaves_by, lets_in, quits_by, seizes_by}
use Rattle.lk_domain.specs.RwSeats.{MadeShared}
use Rattle.lk_domain.specs.Seats.{Made, calls_of, ledger_of}
use Rattle.lk_domain.specs.Values.{copy_at}
use Rattle.lk_domain.specs.declared.cpu.Cpu.{Cpu}
use Rattle.lk_domain.specs.declared.domain.Domain.{Domain}
use Rattle.lk_domain.specs.declared.plan.Plan.{Plan}
use Rattle.lk_domain.specs.declared.view.View.{View}

-- the operation by which the lock is taken
abbrev pub verb_in : Manner → Verb
verb_in Spins = Lock
verb_in Reads = Read
verb_in Writes = Write

-- the first row of that takes the lock if it meets this word
abbrev pub is_let : Manner → ℕ → Bool
is_let Spins met = met == 0
is_let Reads met = lets_in met
is_let Writes met = met == 0

-- the home of the value on which the processor p works: the lock's own, or for a reader the copy for p
abbrev pub home_in : Manner → Plan → ℕ → ℕ → ℕ
home_in Spins k l p = l
home_in Reads k l p = copy_at k l p
home_in Writes k l p = l

-- the seat makes the first row next by which the lock is taken, and has made it

abbrev pub MayTakeIn : Manner → View → ℕ → Type 0
MayTakeIn Spins v l = Acts is_take v Lock l
MayTakeIn Reads v l = ActsFor (joins_by Read) v Read l
MayTakeIn Writes v l = ActsFor (seizes_by Write) v Write l

abbrev pub TakesIn : Manner → ℕ → Me Slot View → ℕ → Me Slot View → Type 0
TakesIn Spins l m met n = MadeBy Lock l m met n
TakesIn Reads l m met n = SharedBy Read l m met n
TakesIn Writes l m met n = SharedBy Write l m met n

-- the processor has
abbrev pub MadeIn : Manner → ℕ → Cpu → ℕ → Cpu → Type 0
MadeIn Spins l old met new = Made Lock l old met new
MadeIn Reads l old met new = MadeShared Read l old met new
MadeIn Writes l old met new = MadeShared Write l old met new

-- the seat makes the one row next by which the lock is freed, and has made it

abbrev pub MayFreeIn : Manner → View → ℕ → Type 0
MayFreeIn Spins v l = Acts is_free v Unlock l
MayFreeIn Reads v l = ActsFor (quits_by RUnlock) v RUnlock l
MayFreeIn Writes v l = ActsFor (leaves_by WUnlock) v WUnlock l

abbrev pub FreesIn : Manner → ℕ → Me Slot View → ℕ → Me Slot View → Type 0
FreesIn Spins l m met n = MadeBy Unlock l m met n
FreesIn Reads l m met n = SharedBy RUnlock l m met n
FreesIn Writes l m met n = SharedBy WUnlock l m met n

-- a reader or the writer has freed the lock, by one row
pub record HasLeft (c : Pc) (l : ℕ) (old new : Calls) : Type 0 where
  pub word : RwFields
  pub trail : new.last ≡ mark c (Shared word) 0 ∷ []
  pub frames : new.frames ≡ old.frames
  pub holds : new.holds
      ≡ free_of (length old.frames) (lock_name l)
      (moved_to (length old.frames) (lock_name l) old.holds)
  pub none : holds_in new.holds l ≡ false
  pub taken : new.taken ≡ old.taken

-- who held the lock in this manner has
abbrev pub HasFreedIn : Manner → ℕ → Calls → Calls → Type 0
HasFreedIn Spins l old new = HasFreed l old new
HasFreedIn Reads l old new = HasLeft Z1 l old new
HasFreedIn Writes l old new = HasLeft Z2 l old new

-- A free lock was taken in this manner by a call that did not wait, and freed by one row, and no other lock
-- was taken. The processor holds what it held.
pub record Turns (domain : Domain) (manner : Manner) (l : ℕ) (old new : Cpu) : Type 0 where
  pub inside : Calls
  pub taken : HasTaken (terms_of domain.plan) old.number (verb_in manner) l manner (calls_of old) inside
  pub once : inside.taken ≡ (calls_of old).taken + 1
  pub freed : HasFreedIn manner l inside (calls_of new)
  pub holds : (calls_of new).holds ≡ (calls_of old).holds
  pub home : (ledger_of new).out ≡ (ledger_of old).out
