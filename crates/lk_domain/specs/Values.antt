-- The values under the locks of a domain: who may have one out, and what lies in the slots. A value lies
-- in a cell of its own, and the key of the cell in a slot, which is the home of the value.
--
-- Homes are numbered from 0. The first are those of the locks' own values: home l is that of lock l. Behind
-- them come those of copies, for one processor after the other one for each lock. A domain has as many
-- homes as it was made with keys.
use Rattle.std.specs.Prelude.{◌≡◌, ◌≢◌, ◌⊎◌, ◌&&◌, ◌||◌, ℕ, ◌+◌, ◌*◌, ◌/◌, ◌%◌, ◌<◌, Bool, true, false}
use Rattle.std.specs.Prelude.{List, [], ◌∷◌, Option, Some}
use Rattle.std.specs.Prelude.{None, length, slice_get, slice_index_or, if◌then◌else◌}
use Rattle.std.specs.declared.snapshot.Snapshot.{Snapshot}
use Rattle.atomic_table.specs.Seated.{TableId}
use Rattle.atomic_table.specs.declared.badge.Badge.{Badge}
use Rattle.lk_names.specs.ListOf.{ListOf}
use Rattle.lk_names.specs.declared.holder.Manner.{Manner}
use Rattle.lk_names.specs.declared.holder.Manner.TheVariants.{Spins, Reads, Writes}
use Rattle.lk_names.specs.Names.{same_lock}
use Rattle.lk_cell.specs.Latched.{IsKey}
use Rattle.lk_values.specs.Guarded.{Among}
use Rattle.lk_domain.specs.Calls.{Hold, hold_in, lock_name}
use Rattle.lk_domain.specs.Plans.{locks_of}
use Rattle.lk_domain.specs.declared.plan.Plan.{Plan}
use Rattle.lk_domain.specs.declared.slot.Stowed.{Stowed}
use Rattle.lk_domain.specs.declared.slot.Stowed.TheVariants.{CellKey}
use Rattle.lk_domain.specs.declared.view.View.{View}

-- what a slot of the table holds: slot 0 the journal, and each behind it the key of a value
abbrev pub Slot : Type 0
Slot = Option Stowed

-- the key of a cell
abbrev pub Key : Type 0
Key = Badge Bool

-- who holds a lock in this manner holds it alone
abbrev pub is_sole : Manner → Bool
is_sole Spins = true
is_sole Writes = true
is_sole Reads = false

-- a value of the lock is out with a hold of it: its own, or a copy
abbrev pub out_in : List Hold → ℕ → Bool
out_in [] l = false
out_in (h ∷ hs) l = (same_lock h.lock (lock_name l) && h.out) || out_in hs l

-- it is out with a hold in this manner
abbrev pub IsOutWith : ℕ → Manner → List Hold → Type 0
IsOutWith l m hs = hold_in hs l ≡ Some (m, true)

-- the lock is held alone, and its values are home
pub record IsHomeWith (l : ℕ) (hs : List Hold) : Type 0 where
  pub manner : Manner
  pub held : hold_in hs l ≡ Some (manner, false)
  pub sole : is_sole manner ≡ true

-- the keys that a domain was made with
abbrev pub keys_in : Option (Snapshot (ListOf (Option Key))) → List (Option Key)
keys_in None = []
keys_in (Some keys) = keys.value.items

abbrev pub keys_of : Plan → List (Option Key)
keys_of k = keys_in k.cells

-- how many homes of values there are
abbrev pub homes_of : Plan → ℕ
homes_of k = length (keys_of k)

-- the lock of a home, and the home of the copy of a lock for a processor

abbrev pub lock_of : Plan → ℕ → ℕ
lock_of k q = q % locks_of k

abbrev pub copy_at : Plan → ℕ → ℕ → ℕ
copy_at k l p = (1 + p) * locks_of k + l

-- the home is that of a copy for the processor of this number
abbrev pub IsCopyFor : Plan → ℕ → Option ℕ → Type 0
IsCopyFor k q number = (p : ℕ) × (number ≡ Some p) × (q / locks_of k ≡ 1 + p)

-- A hold in this manner reaches the home, with the processor of this number: who holds the lock alone
-- reaches all homes of the lock, and a reader the copy for its own processor.
abbrev pub MayReach : Plan → ℕ → Option ℕ → Manner → Type 0
MayReach k q number m = (is_sole m ≡ true) ⊎ IsCopyFor k q number

-- the lock of the home is held so that the hold reaches it
pub record IsReached (k : Plan) (q : ℕ) (number : Option ℕ) (hs : List Hold) : Type 0 where
  pub manner : Manner
  pub out : Bool
  pub held : hold_in hs (lock_of k q) ≡ Some (manner, out)
  pub may : MayReach k q number manner

-- and its value is out with the hold
pub record IsOutAt (k : Plan) (q : ℕ) (number : Option ℕ) (hs : List Hold) : Type 0 where
  pub manner : Manner
  pub held : IsOutWith (lock_of k q) manner hs
  pub may : MayReach k q number manner

-- and no value of the lock is out
pub record IsHomeAt (k : Plan) (q : ℕ) (number : Option ℕ) (hs : List Hold) : Type 0 where
  pub manner : Manner
  pub held : hold_in hs (lock_of k q) ≡ Some (manner, false)
  pub may : MayReach k q number manner

-- the lock is held, alone or by its reader with this number, and its values are home
pub record MayCopy (l p : ℕ) (v : View) : Type 0 where
  pub manner : Manner
  pub held : hold_in v.calls.holds l ≡ Some (manner, false)
  pub may : (is_sole manner ≡ true) ⊎ (v.who.number ≡ Some p)

-- the holds, where a value of the lock goes out with the hold of it, or comes home
abbrev pub marked_out : ℕ → Bool → List Hold → List Hold
marked_out l b [] = []
marked_out l b (h ∷ hs) =
    if same_lock h.lock (lock_name l) then record h { out = b } ∷ hs else h ∷ marked_out l b hs

-- a seat has the right to the value of a home
abbrev pub Reaches : Plan → ℕ → View → Type 0
Reaches k q v = IsReached k q v.who.number v.calls.holds

-- the homes whose values a seat has out
abbrev pub outs_of : View → List ℕ
outs_of v = v.who.outs

-- none of these is a home of the lock
abbrev pub IsClear : Plan → ℕ → List ℕ → Type 0
IsClear k l qs = (q : ℕ) → Among q qs → lock_of k q ≢ l

-- the value of the lock l whose home is q is the newest that is out
pub record IsNewestAt (k : Plan) (l q : ℕ) (outs : List ℕ) : Type 0 where
  pub others : List ℕ
  pub is : outs ≡ q ∷ others
  pub apart : IsClear k l others

-- the view of a seat that takes a value of the lock l out, whose home is q, and of one that brings the
-- newest home, which is one of the lock l

abbrev pub taking : ℕ → ℕ → View → View
taking l q v =
    record v {
      who = record v.who { outs = q ∷ v.who.outs };
      calls = record v.calls { holds = marked_out l true v.calls.holds };
    }

abbrev pub older : List ℕ → List ℕ
older [] = []
older (l ∷ ls) = ls

abbrev pub bringing : ℕ → View → View
bringing l v =
    record v {
      who = record v.who { outs = older v.who.outs };
      calls = record v.calls { holds = marked_out l false v.calls.holds };
    }

-- the cell of a home, where it has one

abbrev pub id_of : Option (Option Key) → Option TableId
id_of (Some (Some key)) = Some key.table_id
id_of _ = None

abbrev pub cell_of : Plan → ℕ → Option TableId
cell_of k q = id_of (slice_get (keys_of k) q)

abbrev pub HasCell : Plan → ℕ → Type 0
HasCell k q = (id : TableId) × (cell_of k q ≡ Some id)

-- the key is that of the home's cell
abbrev pub IsKeyOf : Plan → ℕ → Key → Type 0
IsKeyOf k q key = (id : TableId) → cell_of k q ≡ Some id → IsKey id key

-- each key is one of a cell that is shut
abbrev pub AreShut : List (Option Key) → Type 0
AreShut keys = (q : ℕ) (key : Key) → slice_get keys q ≡ Some (Some key) → key.views ≡ false ∷ []

-- what may lie in the slot of a home: the key of its cell, and nothing where it has none

abbrev pub Fits : Option TableId → Slot → Type 0
Fits None x = x ≡ None
Fits (Some id) x = (key : Key) × (x ≡ Some (CellKey key)) × IsKey id key

abbrev pub FitsUnder : Plan → ℕ → Slot → Type 0
FitsUnder k q x = Fits (cell_of k q) x

-- a key, or none, as a slot has it
abbrev pub lodged : Option Key → Slot
lodged None = None
lodged (Some key) = Some (CellKey key)

-- what the slots of the homes have at the start, and at the end, fits
abbrev pub AreLaid : Plan → List (Option Key) → Type 0
AreLaid k keys = (length keys ≡ homes_of k) × ((q : ℕ) (d : Option Key) → q < homes_of k
    → FitsUnder k q (lodged (slice_index_or keys q d)))

-- the empty places of the values that are out
abbrev pub empty_places : List ℕ → List (ℕ × Slot)
empty_places [] = []
empty_places (q ∷ qs) = (1 + q, None) ∷ empty_places qs
