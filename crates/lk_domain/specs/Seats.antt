-- What clauses say of a processor and its domain.
use Rattle.std.specs.Prelude.{◌≡◌, ℕ, ◌+◌, ◌<◌, ◌≤◌, List, [], ◌++◌, Some, length, slice_index}
use Rattle.std.specs.Prelude.{slice_index_or, false}
use Rattle.lk_law.specs.Agree.{halts}
use Rattle.lk_names.specs.declared.ledger.Entry.{Entry}
use Rattle.lk_rows.specs.declared.setup.Verb.{Verb}
use Rattle.lk_domain.specs.Calls.{Calls, no_calls}
use Rattle.lk_domain.specs.Places.{AllOf}
use Rattle.lk_names.specs.Journal.{Replays}
use Rattle.lk_domain.specs.Keeps.{balance}
use Rattle.lk_domain.specs.Ledgers.{Ledger, Out, with_share, taken_out}
use Rattle.lk_domain.specs.Ledgers.{brought}
use Rattle.lk_domain.specs.Plans.{cpus_of, accounts_of, share_of}
use Rattle.lk_domain.specs.Plays.{MadeBy}
use Rattle.lk_domain.specs.Seated.{HasLoadedBy, HasSeenBy, HasStoredBy}
use Rattle.lk_domain.specs.Values.{taking, bringing, outs_of, IsClear}
use Rattle.lk_domain.specs.Views.{newcomer}
use Rattle.lk_domain.specs.declared.cpu.Cpu.{Cpu}
use Rattle.lk_domain.specs.declared.domain.Domain.{Domain}
use Rattle.lk_domain.specs.declared.ledger.journal.Journal.{Journal}
use Rattle.lk_domain.specs.declared.plan.Plan.{Plan}
use Rattle.lk_domain.specs.declared.view.View.{View}

-- what the processor knows: all of it, of its calls and locks, and of the ledger

abbrev pub view_of : Cpu → View
view_of cpu = cpu.seat.me.0

abbrev pub calls_of : Cpu → Calls
calls_of cpu = cpu.seat.me.0.calls

abbrev pub ledger_of : Cpu → Ledger
ledger_of cpu = cpu.seat.me.0.ledger

-- the processor is one of the domain
pub record IsIn (cpu : Cpu) (domain : Domain) : Type 0 where
  pub table : cpu.seat.table_id ≡ domain.table.shared.table_id
  pub plan : cpu.seat.me.0.who.plan ≡ domain.plan
  pub low : cpu.number < cpus_of domain.plan

-- it is one of the domain, and the domain's family halts none
pub record IsOf (cpu : Cpu) (domain : Domain) : Type 0 where
  pub table : cpu.seat.table_id ≡ domain.table.shared.table_id
  pub plan : cpu.seat.me.0.who.plan ≡ domain.plan
  pub low : cpu.number < cpus_of domain.plan
  pub awake : halts domain.plan.mode ≡ false

-- it is the same processor of the same domain, with the same slots
pub record IsSame (old new : Cpu) : Type 0 where
  pub table : new.seat.table_id ≡ old.seat.table_id
  pub id : new.seat.id ≡ old.seat.id
  pub number : new.number ≡ old.number
  pub who : new.seat.me.0.who ≡ old.seat.me.0.who

-- but for its calls and the ledger it is as it was
pub record KeepsRest (old new : Cpu) : Type 0 where
  pub same : IsSame old new
  pub slots : new.seat.me.1 ≡ old.seat.me.1

-- the processor has made the row of its call on a lock
pub record Made (verb : Verb) (l : ℕ) (old : Cpu) (met : ℕ) (new : Cpu) : Type 0 where
  pub by : MadeBy verb l old.seat.me met new.seat.me

-- whatever operation the call is that stood so
abbrev pub MadeFrom : (Verb → View → Type 0) → ℕ → Cpu → ℕ → Cpu → Type 0
MadeFrom At l old met new = (verb : Verb) → At verb (view_of old) → Made verb l old met new

-- the processor of this number, of a new domain
pub record IsDealt (domain : Domain) (i : ℕ) (cpu : Cpu) : Type 0 where
  pub domain_is : IsIn cpu domain
  pub number : cpu.number ≡ i
  pub who : cpu.seat.me.0.who ≡ newcomer domain.plan i
  pub calls : calls_of cpu ≡ no_calls
  pub ledger : ledger_of cpu ≡ with_share (share_of domain.plan i)
  pub slots : cpu.seat.me.1 ≡ []

-- in order of their numbers
abbrev pub AreDealt : Domain → List Cpu → Type 0
AreDealt domain cpus = (i : ℕ) (d : Cpu) → i < length cpus
    → IsDealt domain i (slice_index_or cpus i d)

-- the processor is as it was, but for what it knows of the ledger
pub record KeepsCalls (old new : Cpu) : Type 0 where
  pub same : IsSame old new
  pub calls : calls_of new ≡ calls_of old

-- the processor is as it was, in all that it knows
pub record IsStill (old new : Cpu) : Type 0 where
  pub table : new.seat.table_id ≡ old.seat.table_id
  pub id : new.seat.id ≡ old.seat.id
  pub number : new.number ≡ old.number
  pub view : view_of new ≡ view_of old

-- a value of the lock l, whose home is q, is out with the processor, and no value of the lock was before
pub record TakesValueAt (l q : ℕ) (old new : Cpu) : Type 0 where
  pub table : new.seat.table_id ≡ old.seat.table_id
  pub id : new.seat.id ≡ old.seat.id
  pub number : new.number ≡ old.number
  pub view : view_of new ≡ taking l q (view_of old)
  pub apart : IsClear (view_of old).who.plan l (outs_of (view_of old))

-- it is the lock's own
abbrev pub TakesValueOf : ℕ → Cpu → Cpu → Type 0
TakesValueOf l old new = TakesValueAt l l old new

-- the value of the lock that the processor took out last is home
pub record BringsValueOf (l : ℕ) (old new : Cpu) : Type 0 where
  pub table : new.seat.table_id ≡ old.seat.table_id
  pub id : new.seat.id ≡ old.seat.id
  pub number : new.number ≡ old.number
  pub view : view_of new ≡ bringing l (view_of old)

-- a balance was loaded, the version was
abbrev pub HasLoaded : ℕ → Cpu → ℕ → Cpu → Type 0
HasLoaded account old met new = HasLoadedBy account (view_of old) met (view_of new)

abbrev pub HasSeen : Cpu → ℕ → Cpu → Type 0
HasSeen old met new = HasSeenBy (view_of old) met (view_of new)

-- the journal is out with the processor
pub record IsOut (plan : Plan) (old : Ledger) (journal : Journal) (new : Ledger) : Type 0 where
  pub words : List ℕ
  pub ledger : new ≡ taken_out old journal.entries.items journal.entries.room words
  pub replays : Replays plan.balances.items journal.entries.items
  pub long : length words ≡ accounts_of plan
  pub are : (a : ℕ)
      → a < accounts_of plan
      → slice_index words a ≡ balance plan journal.entries.items a
  pub seen : old.seen ≤ length journal.entries.items
  pub room : length journal.entries.items + old.share ≤ journal.entries.room

-- a balance was stored
abbrev pub HasStored : ℕ → ℕ → Cpu → Cpu → Type 0
HasStored account amount old new = HasStoredBy account amount (view_of old) (view_of new)

-- The journal is one that the processor may bring home: the one that it took out, in its room, with
-- entries of its own, which are no more than its share and after which the balances are the words.
pub record MayCome (plan : Plan) (number : ℕ) (g : Ledger) (journal : Journal) : Type 0 where
  pub out : Out
  pub more : List Entry
  pub has : g.out ≡ Some out
  pub items : journal.entries.items ≡ out.list ++ more
  pub worker : AllOf number more
  pub few : length more ≤ g.share
  pub replays : Replays plan.balances.items (out.list ++ more)
  pub words : (a : ℕ)
      → a < accounts_of plan
      → slice_index out.words a ≡ balance plan (out.list ++ more) a
  pub room : journal.entries.room ≡ out.room

-- it is home
abbrev pub CameHome : ℕ → Ledger → Journal → Ledger → Type 0
CameHome number old journal new = (o : Out) (more : List Entry) → old.out ≡ Some o
    → journal.entries.items ≡ o.list ++ more → new ≡ brought old number o more
