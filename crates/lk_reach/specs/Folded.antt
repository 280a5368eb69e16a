-- States that stand for others: where states are folded, one is kept of those that differ only in the
-- numbers of processors that are alike.
use Rattle.std.specs.Prelude.{◌≡◌, ◌<◌, ◌≤◌, ℕ, IfSome, Some, true, false, length, slice_get}
use Rattle.lk_names.specs.declared.events.Act.{Act}
use Rattle.lk_rows.specs.declared.parts.Pc.{Pc}
use Rattle.lk_rows.specs.declared.setup.Setup.{Setup}
use Rattle.lk_rows.specs.Machine.{Machine}
use Rattle.lk_idle.specs.Alike.{AreAlike}
use Rattle.lk_renaming.specs.Renaming.{Renaming, IsFitting}
use Rattle.lk_renaming.specs.Renamed.{renamed}
use Rattle.lk_reach.specs.declared.folding.Here.{Here}
use Rattle.lk_reach.specs.declared.plan.Plan.{Plan}
use Rattle.lk_reach.specs.Reach.{AreMoves, AreOver, IsBegun, IsReached, MakesRow, after, bare, cpus_of, start_of, state_after}
use Rattle.lk_reach.specs.Space.{Folds, Grows, Keeps, SpaceValue}

-- a renaming of processors that are alike, under which the machine at which the plan begins stays
pub record Fits (plan : Plan) (setup : Setup) (r : Renaming) : Type 0 where
  pub fits : IsFitting setup (cpus_of setup) r
  pub starts : renamed r (start_of plan setup) ≡ start_of plan setup

-- The one state is the other but for such a renaming and for what nobody reads. If nothing is folded,
-- it is the other but for what nobody reads.
pub record StandsFor (plan : Plan) (setup : Setup) (t s : Machine) : Type 0 where
  pub renaming : Renaming
  pub fits : Fits plan setup renaming
  pub alike : AreAlike (renamed renaming t) s
  pub plain : plan.folds ≡ false → AreAlike t s

-- the fold of this number is the state of the number under new numbers
pub record HasFold (plan : Plan) (setup : Setup) (v : SpaceValue) (k : ℕ) : Type 0 where
  pub state : Machine
  pub keeps : Keeps v k state
  pub reached : IsReached plan setup state
  pub renaming : Renaming
  pub fits : Fits plan setup renaming
  pub folds : Folds v k (renamed renaming state)

-- each state has a fold
pub record HaveFolds (plan : Plan) (setup : Setup) (v : SpaceValue) : Type 0 where
  pub count : length v.folds ≡ length v.keys
  pub first : Keeps v 0 (bare (start_of plan setup))
  pub each : (k : ℕ) → k < length v.keys → HasFold plan setup v k

-- the machine became itself under new numbers
pub record IsRenumbered (plan : Plan) (setup : Setup) (old new : Machine) : Type 0 where
  pub renaming : Renaming
  pub fits : Fits plan setup renaming
  pub is : new ≡ renamed renaming old

-- the state of this number is reached, and if there are acts, by these
pub record IsHere (plan : Plan) (setup : Setup) (v : SpaceValue) (here : Here) : Type 0 where
  pub begun : IsBegun plan setup
  pub state : Machine
  pub keeps : Keeps v here.spot.state state
  pub key : slice_get v.keys here.spot.state ≡ Some here.spot.key
  pub reached : IsReached plan setup state
  pub folds : plan.folds ≡ true → HaveFolds plan setup v
  pub moves : IfSome here.way (λ way. AreMoves plan.extras setup way.items)
  pub leads : IfSome here.way (λ way. state ≡ state_after plan setup way.items)

-- the machine is the state behind an act on this one
abbrev pub IsBehind : Plan → Setup → SpaceValue → Here → Act → Machine → Type 0
IsBehind plan setup v here doing m = (s : Machine) → Keeps v here.spot.state s → IsReached plan setup s → m ≡ after s doing

-- The number is that of a state that stands for the machine. If it is that of the state that is left, that differs
-- from the machine in what nobody reads alone. Each new number is this one, and that of the machine itself.
pub record IsNoted (plan : Plan) (setup : Setup) (old new : SpaceValue) (left : ℕ) (m : Machine) (k : ℕ) : Type 0 where
  pub there : k < length new.keys
  pub kept : (t : Machine) → Keeps new k t → IsReached plan setup t → StandsFor plan setup t m
  pub stays : k ≡ left → (s : Machine) → Keeps old left s → IsReached plan setup s → AreAlike s m
  pub grows : Grows old new
  pub one : (j : ℕ) → length old.keys ≤ j → j < length new.keys → (j ≡ k) × Keeps new j m
  pub folds : plan.folds ≡ true → HaveFolds plan setup new

-- A state and one that stands for it make the same rows.
abbrev pub StandInsMakeRows : Type 0
StandInsMakeRows = (plan : Plan) (setup : Setup) (t s : Machine) → IsBegun plan setup → IsReached plan setup t
    → IsReached plan setup s → StandsFor plan setup t s → (row : Pc)
    → (MakesRow s row → MakesRow t row) × (MakesRow t row → MakesRow s row)

-- If one is over, both are.
abbrev pub StandInsAreOver : Type 0
StandInsAreOver = (plan : Plan) (setup : Setup) (t s : Machine) → IsBegun plan setup → IsReached plan setup t
    → IsReached plan setup s → StandsFor plan setup t s → (AreOver s → AreOver t) × (AreOver t → AreOver s)
