-- The rule of a cell, whose table has one word, one slot and one seat: the key.
use Rattle.std.specs.Prelude.{◌≡◌, [], ◌∷◌, Bool, true, false}
use mathlib.Core.Option.{Option, some}
use lib.ListN.{get_elem?}
use Rattle.atomic_table.specs.Table.{State, Me}
use Rattle.atomic_table.specs.Seated.{TableId}
use Rattle.atomic_table.specs.declared.badge.Badge.{Badge}
use Rattle.atomic_table.specs.declared.shared.Seat.{Seat}

-- there is one seat, which knows whether the cell is open; and while it is shut the value is at home
-- and fits
pub record Latched {T : Type 0} (fits : T → Type 0) (s : State T Bool) : Type 0 where
  pub open_is : Bool
  pub views : s.views ≡ open_is ∷ []
  pub home : open_is ≡ false → (x : T) × (get_elem? s.homes 0 ≡ some (some x)) × fits x
  pub slot : (x : Option T) × (get_elem? s.homes 0 ≡ some x)

-- the seat has opened the cell, and has its value out, which fits
abbrev pub Opens : {T : Type 0} → (T → Type 0) → Me T Bool → Type 0
Opens {T} fits m = (x : T) × fits x × (m ≡ (true, (0, x) ∷ []))

-- it has shut the cell
abbrev pub Shuts : {T : Type 0} → Me T Bool → Type 0
Shuts m = m ≡ (false, [])

-- the badge is the key of the cell with this table
abbrev pub IsKey : TableId → Badge Bool → Type 0
IsKey table key = (key.table_id ≡ table) × (key.views ≡ false ∷ [])

-- the seat has opened it
abbrev pub IsOpen : {T : Type 0} → (T → Type 0) → TableId → Seat T Bool → Type 0
IsOpen fits table seat = (seat.table_id ≡ table) × Opens fits seat.me
