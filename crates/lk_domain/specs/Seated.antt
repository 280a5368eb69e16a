-- What a seat asks and is told at the ledger, of whichever processor it is.
use Rattle.std.specs.Prelude.{◌≡◌, ◌≤◌, ◌+◌, ℕ, [], Some, None, slice_index}
use Rattle.atomic_table.specs.Seated.{TableId}
use Rattle.atomic_table.specs.declared.shared.Seat.{Seat}
use Rattle.lk_domain.specs.Keeps.{Slot}
use Rattle.lk_domain.specs.Ledgers.{Out, loaded, sighted, stored}
use Rattle.lk_domain.specs.Plans.{IsRunningPlan}
use Rattle.lk_domain.specs.Plays.{OneState, carried_of}
use Rattle.lk_domain.specs.Values.{homes_of}
use Rattle.lk_domain.specs.Views.{IsNumbered}
use Rattle.lk_domain.specs.Words.{words_of}
use Rattle.lk_domain.specs.declared.plan.Plan.{Plan}
use Rattle.lk_domain.specs.declared.view.View.{View}

-- the table is that of a domain of this plan
pub record IsTableOf (k : Plan) (table : TableId) (key : Plan) : Type 0 where
  pub lawful : IsRunningPlan k
  pub words : table.words ≡ words_of k
  pub slots : table.slots ≡ 1 + homes_of k
  pub key_is : key ≡ k

-- the seat is that of a processor of it, with the places of what it has out
pub record IsSeatOf (k : Plan) (table : TableId) (seat : Seat Slot View) : Type 0 where
  pub table_is : seat.table_id ≡ table
  pub plan_is : seat.me.0.who.plan ≡ k
  pub number : IsNumbered seat.me.0
  pub carried : seat.me.1 ≡ carried_of seat.me.0

-- it is as it was, but for what it knows of the ledger
pub record IsKept (old new : Seat Slot View) : Type 0 where
  pub table : new.table_id ≡ old.table_id
  pub id : new.id ≡ old.id
  pub who : new.me.0.who ≡ old.me.0.who
  pub calls : new.me.0.calls ≡ old.me.0.calls

-- a balance was loaded; where the journal is out it is what the processor knows of the word
pub record HasLoadedBy (account : ℕ) (old : View) (met : ℕ) (new : View) : Type 0 where
  pub ledger : new.ledger ≡ loaded old.ledger account met
  pub out : (o : Out) → old.ledger.out ≡ Some o → met ≡ slice_index o.words account
  pub one : OneState new

-- the version was loaded
pub record HasSeenBy (old : View) (met : ℕ) (new : View) : Type 0 where
  pub ledger : new.ledger ≡ sighted old.ledger met
  pub rises : old.ledger.seen ≤ met
  pub one : OneState new

-- a balance was stored
abbrev pub HasStoredBy : ℕ → ℕ → View → View → Type 0
HasStoredBy account amount old new = (o : Out) → old.ledger.out ≡ Some o
    → new.ledger ≡ stored old.ledger o account amount

-- it is in no call, holds nothing, and has not the journal
pub record HoldsNothing (v : View) : Type 0 where
  pub frames : v.calls.frames ≡ []
  pub holds : v.calls.holds ≡ []
  pub home : v.ledger.out ≡ None
