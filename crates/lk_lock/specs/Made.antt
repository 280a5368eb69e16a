-- The locks that are to be made, and those of a domain.
use Rattle.std.specs.Prelude.{◌≡◌, ℕ, ◌+◌, All, Some, List, [], ◌∷◌, length, slice_get, true, if◌then◌else◌}
use Rattle.lk_law.specs.Agree.{halts}
use Rattle.atomic_table.specs.Seated.{TableId}
use Rattle.lk_names.specs.ListOf.{ListOf}
use Rattle.lk_names.specs.declared.names.Format.TheVariants.{One}
use Rattle.lk_names.specs.declared.names.Kind.{Kind}
use Rattle.lk_names.specs.declared.names.Kind.TheVariants.{Rw, Spin}
use Rattle.lk_names.specs.declared.names.Mode.{Mode}
use Rattle.lk_domain.specs.Plans.{accounts_of, locks_of}
use Rattle.lk_domain.specs.Values.{Key}
use Rattle.lk_domain.specs.declared.plan.Plan.{Plan}
use Rattle.lk_lock.specs.Cells.{AreKeysOf}
use Rattle.lk_lock.specs.Standing.{IsUnder, IsSharedUnder}
use Rattle.lk_lock.specs.declared.locks.Locks.{Locks}

-- the lock of this number is of this kind, and its values lie in the cells of these names
pub record AreAmong (locks : Locks) (kind : Kind) (l : ℕ) (cells : List TableId) : Type 0 where
  pub keys : ListOf Key
  pub kind_is : slice_get locks.kinds.items l ≡ Some kind
  pub keys_are : slice_get locks.keys.items l ≡ Some keys
  pub fit : AreKeysOf cells keys.items

-- it has one value
abbrev pub IsAmong : Locks → Kind → ℕ → TableId → Type 0
IsAmong locks kind l cell = AreAmong locks kind l (cell ∷ [])

-- it is a reader-writer lock, with a copy of its value for each processor
pub record IsSharedAmong (locks : Locks) (l : ℕ) (cells : List TableId) : Type 0 where
  pub among : AreAmong locks Rw l cells
  pub many : length cells ≡ 1 + locks.threads
  pub copied : locks.copied ≡ true

-- each lock that was among the first is among the second

abbrev pub Keeps : Locks → Locks → Type 0
Keeps old new = (kind : Kind) (l : ℕ) (cell : TableId) → IsAmong old kind l cell → IsAmong new kind l cell

abbrev pub KeepsShared : Locks → Locks → Type 0
KeepsShared old new = (l : ℕ) (cells : List TableId) → IsSharedAmong old l cells → IsSharedAmong new l cells

-- all of them are spinlocks
abbrev pub AreSpins : Locks → Type 0
AreSpins locks = All (λ (kind : Kind). kind ≡ Spin) locks.kinds.items

-- each is one of the plan

abbrev pub AreMade : Locks → Plan → Type 0
AreMade locks k = (kind : Kind) (l : ℕ) (cell : TableId) → IsAmong locks kind l cell → IsUnder k kind l cell

abbrev pub AreSharedMade : Locks → Plan → Type 0
AreSharedMade locks k = (l : ℕ) (cells : List TableId) → IsSharedAmong locks l cells → IsSharedUnder k l cells

-- The bound of a plan: where waiters halt that on the turns for which one spins, and in the other families 16.
abbrev pub bound_in : Mode → ℕ → ℕ
bound_in family turns = if halts family then turns else 16

-- The plan is what was asked for: it has these locks and no others, of this family and in format one, with
-- these sockets and turns. There is no ledger.
pub record IsPlanFor (locks : Locks) (family : Mode) (places : List ℕ) (turns : ℕ) (k : Plan) : Type 0 where
  pub format : k.format ≡ One
  pub mode : k.mode ≡ family
  pub sockets : k.topology.sockets.items ≡ places
  pub threshold : k.threshold ≡ bound_in family turns
  pub many : locks_of k ≡ length locks.kinds.items
  pub accounts : accounts_of k ≡ 0
