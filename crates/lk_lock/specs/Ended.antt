-- What opens the locks of a closed domain.
use Rattle.std.specs.Prelude.{◌≡◌, ◌≢◌, ℕ, Some, slice_get}
use Rattle.atomic_table.specs.Seated.{TableId}
use Rattle.lk_names.specs.declared.names.Kind.{Kind}
use Rattle.lk_cell.specs.Latched.{IsKey}
use Rattle.lk_domain.specs.Values.{Key}
use Rattle.lk_domain.specs.declared.plan.Plan.{Plan}
use Rattle.lk_lock.specs.Standing.{IsUnder}
use Rattle.lk_lock.specs.declared.keys.Keys.{Keys}

-- the key of the lock of this number is there, and opens the cell of this name
pub record HasKeyOf (keys : Keys) (l : ℕ) (cell : TableId) : Type 0 where
  pub key : Key
  pub key_is : slice_get keys.by_lock.items l ≡ Some (Some key)
  pub opens : IsKey cell key

-- that of each lock of the plan is there
abbrev pub HasAllKeys : Plan → Keys → Type 0
HasAllKeys k keys = (kind : Kind) (l : ℕ) (cell : TableId) → IsUnder k kind l cell → HasKeyOf keys l cell

-- the keys of all other locks stay
abbrev pub KeepsOthers : ℕ → Keys → Keys → Type 0
KeepsOthers l old new = (other : ℕ) (cell : TableId) → other ≢ l → HasKeyOf old other cell → HasKeyOf new other cell
