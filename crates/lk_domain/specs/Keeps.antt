-- The ledger part of the rule of a domain's table: the journal is at home or with one seat that
-- holds lock 0 alone, and each seat knows of it what is true.
use Rattle.std.specs.Prelude.{◌≡◌, ◌≢◌, ◌⊎◌, ◌&&◌, ℕ, ◌+◌, ◌<◌, ◌≤◌, true, false, List}
use Rattle.std.specs.Prelude.{[], ◌∷◌, length, take, drop, Option, Some, None, slice_index, if◌then◌else◌}
use Rattle.std.specs.List.{sum}
use mathlib.Core.Option.{none, some}
use lib.ListN.{get_elem?}
use Rattle.atomic_table.specs.Table.{State}
use Rattle.lk_names.specs.declared.ledger.Entry.{Entry}
use Rattle.lk_names.specs.declared.names.LockName.{LockName}
use Rattle.lk_domain.specs.Calls.{Hold, Calls, lock_name}
use Rattle.lk_names.specs.Names.{same_lock}
use Rattle.lk_domain.specs.Places.{places}
use Rattle.lk_names.specs.Journal.{balances_after, Replays}
use Rattle.lk_domain.specs.Ledgers.{Look, Out, Past, no_ledger, is_first}
use Rattle.lk_domain.specs.Plans.{accounts_of, room_of}
use Rattle.lk_domain.specs.Views.{total}
use Rattle.lk_values.specs.Guarded.{Among, Guarded}
use Rattle.lk_domain.specs.Values.{IsOutAt, Reaches, outs_of, out_in, homes_of, FitsUnder}
pub use Rattle.lk_domain.specs.Values.{is_sole, Slot}
use Rattle.lk_domain.specs.Words.{version_at, balance_at}
use Rattle.lk_domain.specs.declared.ledger.journal.Journal.{Journal}
use Rattle.lk_domain.specs.declared.plan.Plan.{Plan}
use Rattle.lk_domain.specs.declared.slot.Stowed.TheVariants.{Entries}
use Rattle.lk_domain.specs.declared.view.View.{View}

-- the balance of an account after these entries
abbrev pub balance : Plan → List Entry → ℕ → ℕ
balance k js a = slice_index (balances_after k.balances.items js) a

-- the plan's shares of the numbers that are not drawn
abbrev pub undrawn : Plan → ℕ → ℕ
undrawn k roll = sum (drop roll k.shares.items)

-- how often lock 0 is held in any manner, and how often by this processor alone

abbrev pub any_count : List Hold → ℕ
any_count [] = 0
any_count (h ∷ hs) = (if same_lock h.lock (lock_name 0) then 1 else 0) + any_count hs

abbrev pub sole_count : List Hold → ℕ
sole_count [] = 0
sole_count (h ∷ hs) =
    (if same_lock h.lock (lock_name 0) && is_sole h.manner then 1 else 0) + sole_count hs

-- the processor holds lock 0 once
abbrev pub holds_first : Calls → Type 0
holds_first c = any_count c.holds ≡ 1

-- and alone
abbrev pub alone_first : Calls → Type 0
alone_first c = sole_count c.holds ≡ 1

-- the words of the ledger are those of the journal
pub record AreWords (k : Plan) (ws : List ℕ) (js : List Entry) : Type 0 where
  pub version : slice_index ws version_at ≡ length js
  pub balances : (a : ℕ) → a < accounts_of k → slice_index ws (balance_at k a) ≡ balance k js a

-- the journal is at home
pub record AtHome (k : Plan) (js : List Entry) (s : State Slot View) : Type 0 where
  pub journal : Journal
  pub home : get_elem? s.homes 0 ≡ some (some (Some (Entries journal)))
  pub items : journal.entries.items ≡ js
  pub room : journal.entries.room ≡ room_of k
  pub words : AreWords k s.words js
  pub none_out : (id : ℕ) (v : View) → get_elem? s.views id ≡ some v → v.ledger.out ≡ None

-- one seat has the journal out, as it was, and what the words are since then it knows
pub record Away (k : Plan) (js : List Entry) (s : State Slot View) : Type 0 where
  pub seat : ℕ
  pub view_is : View
  pub out : Out
  pub here : get_elem? s.views seat ≡ some view_is
  pub has : view_is.ledger.out ≡ Some out
  pub list : out.list ≡ js
  pub room : out.room ≡ room_of k
  pub long : length out.words ≡ accounts_of k
  pub home : get_elem? s.homes 0 ≡ some none
  pub version : slice_index s.words version_at ≡ length js
  pub words : (a : ℕ)
      → a < accounts_of k
      → slice_index s.words (balance_at k a) ≡ slice_index out.words a
  pub sole : (id : ℕ) (v : View)
      → get_elem? s.views id ≡ some v
      → v.ledger.out ≢ None
      → id ≡ seat

-- what was loaded is of the journal

-- these balances are
abbrev pub AreLoaded : Plan → List Entry → List (ℕ × ℕ) → Type 0
AreLoaded k js [] = Unit {0}
AreLoaded k js (x ∷ xs) = (x.1 ≡ balance k js x.0) × AreLoaded k js xs

-- this version is, if there is one
abbrev pub IsVersion : List Entry → Option ℕ → Type 0
IsVersion js None = Unit {0}
IsVersion js (Some n) = n ≡ length js

-- an open look is of the journal as it is, and of a processor that holds lock 0
pub record IsSight (k : Plan) (js : List Entry) (look : Look) : Type 0 where
  pub version : IsVersion js look.version
  pub loads : AreLoaded k js look.loads

abbrev pub IsOpen : Plan → List Entry → Calls → Option Look → Type 0
IsOpen k js c None = Unit {0}
IsOpen k js c (Some look) = holds_first c × IsSight k js look

-- a look that has ended is of a beginning of the journal
abbrev pub IsEnded : Plan → List Entry → Look → Type 0
IsEnded k js look = (n : ℕ) × (n ≤ length js) × IsSight k (take n js) look

abbrev pub AreEnded : Plan → List Entry → List Look → Type 0
AreEnded k js [] = Unit {0}
AreEnded k js (x ∷ xs) = IsEnded k js x × AreEnded k js xs

-- what is kept of an ended number is what the journal has of it
pub record IsPast (k : Plan) (js : List Entry) (x : Past) : Type 0 where
  pub own : x.own ≡ places x.number js
  pub looked : AreEnded k js x.looks
  pub seen : x.seen ≤ length js

abbrev pub ArePast : Plan → List Entry → List Past → Type 0
ArePast k js [] = Unit {0}
ArePast k js (x ∷ xs) = IsPast k js x × ArePast k js xs

-- what a seat knows of the journal: who has it out holds lock 0 alone, and has no look open. The values
-- that it has out are out with holds of its own, which reach them.
pub record Knows (k : Plan) (js : List Entry) (v : View) : Type 0 where
  pub holder : v.ledger.out ≢ None → alone_first v.calls
  pub shut : v.ledger.out ≢ None → v.ledger.look ≡ None
  pub looking : IsOpen k js v.calls v.ledger.look
  pub looked : AreEnded k js v.ledger.looks
  pub seen : v.ledger.seen ≤ length js
  pub own : (p : ℕ) → v.who.number ≡ Some p → v.ledger.own ≡ places p js
  pub quiet : v.who.number ≡ None → v.ledger ≡ no_ledger
  pub past : ArePast k js v.who.ended
  pub values : (q : ℕ) → Among q (outs_of v) → IsOutAt k q v.who.number v.calls.holds

-- What lies under the locks is at home: the journal under lock 0, and the values of the lock.
pub record AllHome (l : LockName) (v : View) : Type 0 where
  pub journal : is_first l ≡ true → v.ledger.out ≡ None
  pub value : l.wait ≡ false → out_in v.calls.holds l.index ≡ false

-- the part of the rule on what lies in the slots: the journal, and the values of the locks
pub record Keeps (k : Plan) (s : State Slot View) : Type 0 where
  -- the journal, which replays
  pub journal : List Entry
  pub replays : Replays k.balances.items journal
  pub slots : length s.homes ≡ 1 + homes_of k
  -- its length and the shares that are left are the room
  pub shares : length journal + total (λ v. v.ledger.share) s.views
      + undrawn k (slice_index s.words 0) ≡ room_of k
  pub place : AtHome k journal s ⊎ Away k journal s
  pub knows : (id : ℕ) (v : View) → get_elem? s.views id ≡ some v → Knows k journal v
  pub fresh : (p : ℕ) → slice_index s.words 0 ≤ p → places p journal ≡ []
  pub values : Guarded 1 (homes_of k) (Reaches k) outs_of (FitsUnder k) s.homes s.views
