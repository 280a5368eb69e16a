-- What a graph tells of rows.
use Rattle.std.specs.Prelude.{◌≡◌, ◌<◌, ◌⊎◌, ◌++◌, ◌∷◌, [], ℕ, Bool, true, false, List, length, slice_get, Some}
use Rattle.lk_rows.specs.declared.parts.Pc.{Pc}
use Rattle.lk_rows.specs.Machine.{Machine, CpuState}
use Rattle.lk_machine.specs.Parts.{row_of}
use Rattle.lk_reach.specs.declared.key.Key.{Key}
use Rattle.lk_reach.specs.Reach.{MakesRow}
use Rattle.lk_reach.specs.Space.{SpaceValue, Keeps}

-- each row that a step makes on the first state, one makes on the other
abbrev pub MakesNoOther : Machine → Machine → Type 0
MakesNoOther s t = (row : Pc) → MakesRow s row → MakesRow t row

-- a step makes the row at one of the states
pub record IsMade (v : SpaceValue) (cpus : ℕ) (row : Pc) : Type 0 where
  pub state : ℕ
  pub there : state < length v.keys
  pub makes : (s : Machine) → Keeps v state s → length s.cpus ≡ cpus → MakesRow s row

-- no step makes it at any of them
abbrev pub IsUnmade : SpaceValue → ℕ → Pc → Type 0
IsUnmade v cpus row = (k : ℕ) (s : Machine) → Keeps v k s → length s.cpus ≡ cpus → ¬ MakesRow s row

-- each mark says whether a step makes the row of its number
pub record AreMarked (v : SpaceValue) (cpus : ℕ) (rows : List Pc) (marks : List Bool) : Type 0 where
  pub made : (i : ℕ) (row : Pc) → slice_get rows i ≡ Some row → slice_get marks i ≡ Some true
      → IsMade v cpus row
  pub never : (i : ℕ) (row : Pc) → slice_get rows i ≡ Some row → slice_get marks i ≡ Some false
      → IsUnmade v cpus row

-- and one more mark says so of this row
pub record HasMarked (v : SpaceValue) (cpus : ℕ) (row : Pc) (marks more : List Bool) : Type 0 where
  pub mark : Bool
  pub pushed : more ≡ marks ++ mark ∷ []
  pub made : mark ≡ true → IsMade v cpus row
  pub never : mark ≡ false → IsUnmade v cpus row

-- one of the first states has the part of this number, as that of one of the first processors
pub record IsUsed (v : SpaceValue) (cpus states i : ℕ) : Type 0 where
  pub state : ℕ
  pub low : state < states
  pub key : Key
  pub is : slice_get v.keys state ≡ Some key
  pub cpu : ℕ
  pub few : cpu < cpus
  pub part : slice_get key.cpus cpu ≡ Some i

-- each mark says whether the part of its number is one that they have
pub record AreUsed (v : SpaceValue) (cpus states : ℕ) (marks : List Bool) : Type 0 where
  pub count : length marks ≡ length v.parts
  pub yes : (i : ℕ) → slice_get marks i ≡ Some true → IsUsed v cpus states i
  pub no : (i : ℕ) → slice_get marks i ≡ Some false → ¬ IsUsed v cpus states i

-- the key has this number, as that of one of the first processors
abbrev pub HasNumber : Key → ℕ → ℕ → Type 0
HasNumber key cpus i = (p : ℕ) × (p < cpus) × (slice_get key.cpus p ≡ Some i)

-- those of a key's numbers are marked, too
pub record AreUsedNow (key : Key) (old new : List Bool) (cpus : ℕ) : Type 0 where
  pub count : length new ≡ length old
  pub on : (i : ℕ) → slice_get new i ≡ Some true → (slice_get old i ≡ Some true) ⊎ HasNumber key cpus i
  pub off : (i : ℕ) → slice_get new i ≡ Some false → (slice_get old i ≡ Some false) × (¬ HasNumber key cpus i)

-- the part of this number is marked, and makes the row
pub record MakesAt (parts : List CpuState) (marks : List Bool) (row : Pc) (i : ℕ) : Type 0 where
  pub marked : slice_get marks i ≡ Some true
  pub part : CpuState
  pub is : slice_get parts i ≡ Some part
  pub makes : row_of part ≡ Some row

-- one of the marked parts makes it
abbrev pub MakesMarked : List CpuState → List Bool → Pc → Type 0
MakesMarked parts marks row = (i : ℕ) × MakesAt parts marks row i
