-- The space of the states that were met: what is kept of each, and when that is a state.
use Rattle.std.specs.Prelude.{◌≡◌, ◌≢◌, ◌<◌, ◌≤◌, ◌⊎◌, ◌++◌, ◌∷◌, [], ℕ, List, length, slice_get, Some}
use Rattle.lk_rows.specs.Machine.{Machine, CpuState, cpu_at, set_cpu}
use Rattle.lk_machine.specs.Parts.{SharedValue, Holds}
use Rattle.lk_idle.specs.Alike.{AreAlike, bared_cpu}
use Rattle.lk_reach.specs.declared.key.Key.{Key}

-- the list goes on as another
abbrev pub IsFront : {A : Type 0} → List A → List A → Type 0
IsFront {A} xs ys = (more : List A) × (ys ≡ xs ++ more)

-- the part of this number is what the machine has
pub record HasShared (items : List SharedValue) (i : ℕ) (m : Machine) : Type 0 where
  pub item : SharedValue
  pub is : slice_get items i ≡ Some item
  pub holds : Holds item m

-- What was met: parts of processors, what is of no one processor, and a key for each state; where
-- states are folded, for each the key of its fold; and parts without what nobody reads, and for each
-- part the number of the one that it is then.
pub record SpaceValue : Type 0 where
  pub parts : List CpuState
  pub shareds : List SharedValue
  pub keys : List Key
  pub folds : List Key
  pub forms : List CpuState
  pub classes : List ℕ

-- a part and its form, which differ in what nobody reads alone
pub record IsFormed (parts forms : List CpuState) (i c : ℕ) : Type 0 where
  pub part : CpuState
  pub is_part : slice_get parts i ≡ Some part
  pub form : CpuState
  pub is_form : slice_get forms c ≡ Some form
  pub alike : bared_cpu form ≡ bared_cpu part

-- each part that has a class has that form
abbrev pub AreFormed : List CpuState → List CpuState → List ℕ → Type 0
AreFormed parts forms classes = (i c : ℕ) → slice_get classes i ≡ Some c → IsFormed parts forms i c

-- two parts are the same one, or have the same class
abbrev pub IsLikePart : List ℕ → ℕ → ℕ → Type 0
IsLikePart classes i j = (i ≡ j) ⊎ ((c : ℕ) × (slice_get classes i ≡ Some c) × (slice_get classes j ≡ Some c))

-- these parts are like those, one by one
abbrev pub AreLikeParts : List ℕ → List ℕ → List ℕ → Type 0
AreLikeParts classes parts others = (p i j : ℕ) → slice_get parts p ≡ Some i → slice_get others p ≡ Some j → IsLikePart classes i j

-- two keys have the same form
pub record HaveForm (classes : List ℕ) (a b : Key) : Type 0 where
  pub shared : a.shared ≡ b.shared
  pub each : AreLikeParts classes a.cpus b.cpus

-- the key of this number is this one, or has the same form
pub record IsNumberOf (v : SpaceValue) (k : ℕ) (key : Key) : Type 0 where
  pub item : Key
  pub is : slice_get v.keys k ≡ Some item
  pub same : (item ≡ key) ⊎ HaveForm v.classes item key

-- the key of its fold is this one, or has the same form
pub record IsFoldOf (v : SpaceValue) (k : ℕ) (key : Key) : Type 0 where
  pub item : Key
  pub is : slice_get v.folds k ≡ Some item
  pub same : (item ≡ key) ⊎ HaveForm v.classes item key

-- the key keeps the state
pub record KeyKeeps (parts : List CpuState) (shareds : List SharedValue) (key : Key) (s : Machine) : Type 0 where
  pub shared : HasShared shareds key.shared s
  pub each : (p : ℕ) → p < length s.cpus
      → (i : ℕ) × (slice_get key.cpus p ≡ Some i) × (slice_get parts i ≡ Some (cpu_at s p))

-- the state of this number
pub record Keeps (v : SpaceValue) (k : ℕ) (s : Machine) : Type 0 where
  pub key : Key
  pub is : slice_get v.keys k ≡ Some key
  pub keeps : KeyKeeps v.parts v.shareds key s

-- the fold of the state of this number
pub record Folds (v : SpaceValue) (k : ℕ) (s : Machine) : Type 0 where
  pub key : Key
  pub is : slice_get v.folds k ≡ Some key
  pub keeps : KeyKeeps v.parts v.shareds key s

-- they are of one setup, have counted the same, and have as many processors
pub record IsSameKind (s m : Machine) : Type 0 where
  pub setup : s.setup ≡ m.setup
  pub counts : s.counts ≡ m.counts
  pub cpus : length s.cpus ≡ length m.cpus

-- the state of this number and what has this key are alike
abbrev pub IsLikeKey : SpaceValue → ℕ → Key → Type 0
IsLikeKey v k key = (s t : Machine) → Keeps v k s → KeyKeeps v.parts v.shareds key t → IsSameKind s t → AreAlike s t

-- the fold of the state of this number and what has this key are alike
abbrev pub IsLikeFold : SpaceValue → ℕ → Key → Type 0
IsLikeFold v k fold = (s t : Machine) → Folds v k s → KeyKeeps v.parts v.shareds fold t → IsSameKind s t → AreAlike s t

-- the number is that of a state to which the machine can be set: it has as many processors and locks
pub record IsLoadable (v : SpaceValue) (k : ℕ) (m : Machine) : Type 0 where
  pub state : Machine
  pub keeps : Keeps v k state
  pub setup : state.setup ≡ m.setup
  pub cpus : length state.cpus ≡ length m.cpus
  pub locks : length state.locks ≡ length m.locks

-- the same parts and states were met
pub record SameStates (old new : SpaceValue) : Type 0 where
  pub parts : new.parts ≡ old.parts
  pub shareds : new.shareds ≡ old.shareds
  pub keys : new.keys ≡ old.keys
  pub folds : new.folds ≡ old.folds

-- one of these parts differs from this one in what nobody reads alone
pub record HasForm (forms : List CpuState) (n : ℕ) (part : CpuState) : Type 0 where
  pub form : CpuState
  pub is : slice_get forms n ≡ Some form
  pub alike : bared_cpu form ≡ bared_cpu part

-- one processor's part became another, which differs in what nobody reads alone
pub record Rests (m n : Machine) (p : ℕ) : Type 0 where
  pub part : CpuState
  pub only : n ≡ set_cpu m p part
  pub alike : bared_cpu part ≡ bared_cpu (cpu_at m p)

-- nothing that was met is forgotten
pub record Grows (old new : SpaceValue) : Type 0 where
  pub parts : IsFront old.parts new.parts
  pub shareds : IsFront old.shareds new.shareds
  pub keys : IsFront old.keys new.keys
  pub folds : IsFront old.folds new.folds

-- the same states were met, and maybe more parts
pub record AddsParts (old new : SpaceValue) : Type 0 where
  pub grows : Grows old new
  pub keys : new.keys ≡ old.keys
  pub folds : new.folds ≡ old.folds

-- the number is that of a state with this key or one of the same form, and each new number is this one
pub record IsNumbered (old new : SpaceValue) (key : Key) (k : ℕ) : Type 0 where
  pub found : IsNumberOf new k key
  pub grows : Grows old new
  pub parts : new.parts ≡ old.parts
  pub shareds : new.shareds ≡ old.shareds
  pub folds : new.folds ≡ old.folds
  pub one : (j : ℕ) → length old.keys ≤ j → j < length new.keys → (j ≡ k) × (slice_get new.keys j ≡ Some key)

-- one state more has this fold
pub record AddsFold (old new : SpaceValue) (fold : Key) : Type 0 where
  pub parts : new.parts ≡ old.parts
  pub shareds : new.shareds ≡ old.shareds
  pub keys : new.keys ≡ old.keys
  pub folds : new.folds ≡ old.folds ++ fold ∷ []

-- one state more has this key, this fold and this number
pub record IsFolded (old new : SpaceValue) (key fold : Key) (k : ℕ) : Type 0 where
  pub number : k ≡ length old.keys
  pub parts : new.parts ≡ old.parts
  pub shareds : new.shareds ≡ old.shareds
  pub keys : new.keys ≡ old.keys ++ key ∷ []
  pub folds : new.folds ≡ old.folds ++ fold ∷ []

-- The number is that of a state other than the one that is left, whose fold is this one or of the same form. Each
-- new number is this one, and has this key and this fold.
pub record IsFoldNumbered (old new : SpaceValue) (key fold : Key) (left k : ℕ) : Type 0 where
  pub found : IsFoldOf new k fold
  pub there : k < length new.keys
  pub other : k ≢ left
  pub grows : Grows old new
  pub parts : new.parts ≡ old.parts
  pub shareds : new.shareds ≡ old.shareds
  pub one : (j : ℕ) → length old.keys ≤ j → j < length new.keys
      → (j ≡ k) × (slice_get new.keys j ≡ Some key) × (slice_get new.folds j ≡ Some fold)
  pub count : length new.folds ≡ length new.keys
