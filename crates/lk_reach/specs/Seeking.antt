-- On which states an act that is sought is made.
use Rattle.std.specs.Prelude.{◌≡◌, ◌<◌, ℕ, List, length, slice_get, Some}
use Rattle.lk_names.specs.declared.events.Act.{Act}
use Rattle.lk_rows.specs.declared.setup.Setup.{Setup}
use Rattle.lk_rows.specs.Acts.{processor_of}
use Rattle.lk_rows.specs.Machine.{Machine}
use Rattle.lk_reach.specs.declared.deeds.Sought.{Sought}
use Rattle.lk_reach.specs.Deeds.{IsSought}
use Rattle.lk_reach.specs.Explored.{IsSuch}
use Rattle.lk_reach.specs.Reach.{cpus_of}
use Rattle.lk_reach.specs.Space.{SpaceValue, Keeps}

-- the acts name processors of the setup
abbrev pub NameCpus : Setup → List Act → Type 0
NameCpus setup acts = (i : ℕ) (a : Act) → slice_get acts i ≡ Some a → processor_of a < cpus_of setup

-- the act does what is sought on the state of this number
abbrev pub DoesAt : Setup → SpaceValue → ℕ → Sought → Act → Type 0
DoesAt setup v k sought a = (s : Machine) → Keeps v k s → IsSuch setup s → IsSought sought s a

-- and does not
abbrev pub DoesNotAt : Setup → SpaceValue → ℕ → Sought → Act → Type 0
DoesNotAt setup v k sought a = (s : Machine) → Keeps v k s → IsSuch setup s → ¬ IsSought sought s a

-- the act of this number does
pub record IsDoneBy (setup : Setup) (v : SpaceValue) (acts : List Act) (k : ℕ) (sought : Sought) (i : ℕ) : Type 0 where
  pub act : Act
  pub is : slice_get acts i ≡ Some act
  pub does : DoesAt setup v k sought act

-- none of the acts does
abbrev pub NoneAt : Setup → SpaceValue → List Act → Sought → ℕ → Type 0
NoneAt setup v acts sought k = (i : ℕ) (a : Act) → slice_get acts i ≡ Some a → DoesNotAt setup v k sought a

-- the first state on which one does
pub record IsFirstDeed (setup : Setup) (v : SpaceValue) (acts : List Act) (sought : Sought) (k i : ℕ) : Type 0 where
  pub there : k < length v.keys
  pub done : IsDoneBy setup v acts k sought i
  pub first : (j : ℕ) → j < k → NoneAt setup v acts sought j
