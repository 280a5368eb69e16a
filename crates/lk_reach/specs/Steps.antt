-- Steps that were made: what each led to, by the parts that it touches.
use Rattle.std.specs.Prelude.{◌≡◌, ◌<◌, ◌⊎◌, ℕ, List, Option, Some, length, slice_get, slice_set}
use Rattle.lk_names.specs.declared.events.Act.{Act}
use Rattle.lk_names.specs.declared.events.Act.TheVariants.{Step}
use Rattle.lk_rows.specs.declared.setup.Setup.{Setup}
use Rattle.lk_rows.specs.Acts.{next}
use Rattle.lk_rows.specs.Machine.{Machine, cpu_at}
use Rattle.lk_touch.specs.Touching.{Touches}
use Rattle.lk_reach.specs.declared.key.Key.{Key}
use Rattle.lk_reach.specs.declared.spot.Led.{Led}
use Rattle.lk_reach.specs.declared.spot.Spot.{Spot}
use Rattle.lk_reach.specs.declared.steps.Made.{Made}
use Rattle.lk_reach.specs.Explored.{IsStepped, IsSuch}
use Rattle.lk_reach.specs.Reach.{after}
use Rattle.lk_reach.specs.Space.{HasShared, Keeps, KeyKeeps, SpaceValue}

-- the key of a state behind a step that was made on one with this key
abbrev pub then_key : Made → Key → Key
then_key e key = record {
  shared = e.then_shared;
  cpus = slice_set (slice_set key.cpus e.cpu e.then_part) e.other e.then_beside;
}

-- what is no single processor's, and the parts of processors p and q, have these numbers
pub record HasParts (v : SpaceValue) (p q i j k : ℕ) (m : Machine) : Type 0 where
  pub shared : HasShared v.shareds i m
  pub part : slice_get v.parts j ≡ Some (cpu_at m p)
  pub beside : slice_get v.parts k ≡ Some (cpu_at m q)

-- a machine of this setup made the step
pub record WasMade (setup : Setup) (v : SpaceValue) (e : Made) : Type 0 where
  pub from : Machine
  pub such : IsSuch setup from
  pub cpu : e.cpu < length from.cpus
  pub other : e.other < length from.cpus
  pub touches : Touches from e.cpu e.other
  pub before : HasParts v e.cpu e.other e.shared e.part e.beside from
  pub then_such : IsSuch setup (after from (Step e.cpu))
  pub behind : HasParts v e.cpu e.other e.then_shared e.then_part e.then_beside (after from (Step e.cpu))
  pub event : e.event ≡ (next from (Step e.cpu)).1

abbrev pub AreMade : Setup → SpaceValue → List (Option Made) → Type 0
AreMade setup v made = (i : ℕ) (e : Made) → slice_get made i ≡ Some (Some e) → WasMade setup v e

-- it is one of these
abbrev pub IsAmongMade : List (Option Made) → Made → Type 0
IsAmongMade made e = (i : ℕ) × (slice_get made i ≡ Some (Some e))

-- no other step was added than this one
abbrev pub MayRemember : List (Option Made) → List (Option Made) → Made → Type 0
MayRemember old new e = (i : ℕ) (d : Made) → slice_get new i ≡ Some (Some d) → (d ≡ e) ⊎ IsAmongMade old d

-- none was added
abbrev pub MayForget : List (Option Made) → List (Option Made) → Type 0
MayForget old new = (i : ℕ) (d : Made) → slice_get new i ≡ Some (Some d) → IsAmongMade old d

-- a state with this key has the parts with which the step begins
pub record Begins (key : Key) (e : Made) : Type 0 where
  pub low : e.cpu < 8
  pub near : e.other < 8
  pub shared : e.shared ≡ key.shared
  pub part : slice_get key.cpus e.cpu ≡ Some e.part
  pub beside : slice_get key.cpus e.other ≡ Some e.beside

-- the step of this processor was made, and begins so
pub record IsFoundStep (made : List (Option Made)) (key : Key) (p : ℕ) (e : Made) : Type 0 where
  pub is : IsAmongMade made e
  pub by : e.cpu ≡ p
  pub begins : Begins key e

-- the state that is left, and its key
pub record IsSpot (setup : Setup) (v : SpaceValue) (spot : Spot) : Type 0 where
  pub stepped : IsStepped setup v spot.state
  pub is : slice_get v.keys spot.state ≡ Some spot.key

-- there the act leads from this state, and this it tells
pub record IsLed (setup : Setup) (v : SpaceValue) (k : ℕ) (a : Act) (led : Led) : Type 0 where
  pub then : (s : Machine) → Keeps v k s → IsSuch setup s → KeyKeeps v.parts v.shareds led.key (after s a)
  pub event : (s : Machine) → Keeps v k s → IsSuch setup s → led.event ≡ (next s a).1

-- the step led from the state to this
pub record IsMadeOn (spot : Spot) (led : Led) (p q : ℕ) (e : Made) : Type 0 where
  pub by : e.cpu ≡ p
  pub touches : e.other ≡ q
  pub shared : e.shared ≡ spot.key.shared
  pub part : slice_get spot.key.cpus p ≡ Some e.part
  pub beside : slice_get spot.key.cpus q ≡ Some e.beside
  pub then_shared : e.then_shared ≡ led.key.shared
  pub then_part : slice_get led.key.cpus p ≡ Some e.then_part
  pub then_beside : slice_get led.key.cpus q ≡ Some e.then_beside
  pub event : e.event ≡ led.event

-- and touched these, if it is known whom
abbrev pub IsMadeBy : Option (ℕ × ℕ) → Spot → Led → Made → Type 0
IsMadeBy touched spot led e = (f : ℕ × ℕ) × (touched ≡ Some f) × IsMadeOn spot led f.0 f.1 e

-- no step was added but this one
abbrev pub Remembers : Option (ℕ × ℕ) → Spot → Led → List (Option Made) → List (Option Made) → Type 0
Remembers touched spot led old new = (i : ℕ) (d : Made) → slice_get new i ≡ Some (Some d)
    → IsAmongMade old d ⊎ IsMadeBy touched spot led d

-- a step of this act that was made on the same parts
pub record IsRemembered (made : List (Option Made)) (key : Key) (a : Act) (e : Made) : Type 0 where
  pub is : IsAmongMade made e
  pub begins : Begins key e
  pub doing : a ≡ Step e.cpu
