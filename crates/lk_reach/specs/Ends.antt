-- How the states of a graph end.
use Rattle.std.specs.Prelude.{◌≡◌, ◌≢◌, ◌<◌, ◌≤◌, ◌⊎◌, ℕ, Bool, true, false, not, List, length, slice_get, Some}
use Rattle.lk_names.specs.declared.events.Act.{Act}
use Rattle.lk_rows.specs.Machine.{Machine, CpuState}
use Rattle.lk_machine.specs.Parts.{is_over}
use Rattle.lk_reach.specs.declared.book.Book.{Book}
use Rattle.lk_reach.specs.declared.graph.Graph.{Graph}
use Rattle.lk_reach.specs.Edges.{edges_in}
use Rattle.lk_reach.specs.Reach.{AreMoves, AreOver, IsReached, after, run, state_after}
use Rattle.lk_idle.specs.Alike.{AreAlike}
use Rattle.lk_reach.specs.Explored.{IsSuch, KeepsLike, LeadsTo}
use Rattle.lk_reach.specs.Space.{Keeps}

-- the number is that of this state, which a schedule reaches
pub record IsState (g : Graph) (k : ℕ) (s : Machine) : Type 0 where
  pub keeps : Keeps g.space k s
  pub reached : IsReached g.plan g.machine.setup s

-- the act of number i leads from the state of number k to one like that of number j
pub record IsLed (g : Graph) (k i j : ℕ) : Type 0 where
  pub state : Machine
  pub is : IsState g k state
  pub act : Act
  pub doing : slice_get g.plan.acts.items i ≡ Some act
  pub leads : KeepsLike g.plan g.machine.setup g.space j (after state act)

-- So many acts led from the state of a number to that of another one: of the acts that are tried, on the states
-- that were left. For each of them the number is written down to which it led.
pub record CountsEdges (g : Graph) (n : ℕ) : Type 0 where
  pub count : n ≡ edges_in g.book.thens.items
  pub all : (k i : ℕ) → k < g.left → i < length g.plan.acts.items → (j : ℕ) × LeadsTo g.book k i j
  pub led : (k i j : ℕ) → LeadsTo g.book k i j → IsLed g k i j

-- each mark says whether everybody is done at the state of its number
pub record AreEnds (g : Graph) (marks : List Bool) : Type 0 where
  pub count : length marks ≡ length g.space.keys
  pub yes : (k : ℕ) → slice_get marks k ≡ Some true → (s : Machine) → IsState g k s → AreOver s
  pub no : (k : ℕ) → slice_get marks k ≡ Some false → (s : Machine) → IsState g k s → ¬ AreOver s

-- each mark says whether the part of its number is done
pub record AreOvers (parts : List CpuState) (marks : List Bool) : Type 0 where
  pub count : length marks ≡ length parts
  pub each : (i : ℕ) (x : CpuState) → slice_get parts i ≡ Some x → slice_get marks i ≡ Some (is_over x)

-- whatever acts follow, the state stays as it is but for what nobody reads, and not everybody is done
pub record IsStuck (g : Graph) (s : Machine) : Type 0 where
  pub still : (acts : List Act) → AreMoves g.plan.extras g.machine.setup acts → AreAlike (run s acts) s
  pub waits : ¬ AreOver s

-- each mark says whether its state is stuck
pub record AreStuck (g : Graph) (marks : List Bool) : Type 0 where
  pub count : length marks ≡ length g.space.keys
  pub yes : (k : ℕ) → slice_get marks k ≡ Some true → (s : Machine) → IsState g k s → IsStuck g s
  pub no : (k : ℕ) → slice_get marks k ≡ Some false → (s : Machine) → IsState g k s → ¬ IsStuck g s

-- the graph is the same, but for the state of its machine
pub record IsReloaded (old new : Graph) : Type 0 where
  pub such : IsSuch old.machine.setup new.machine
  pub same : new ≡ record old { machine = new.machine }

-- some schedule leads from the state to one at which everybody is done
pub record CanFinish (g : Graph) (s : Machine) : Type 0 where
  pub acts : List Act
  pub moves : AreMoves g.plan.extras g.machine.setup acts
  pub over : AreOver (run s acts)

-- no schedule does
abbrev pub IsDoomed : Graph → Machine → Type 0
IsDoomed g s = (acts : List Act) → AreMoves g.plan.extras g.machine.setup acts → ¬ AreOver (run s acts)

-- each mark says whether its state is doomed
pub record AreDoomed (g : Graph) (marks : List Bool) : Type 0 where
  pub count : length marks ≡ length g.space.keys
  pub yes : (k : ℕ) → slice_get marks k ≡ Some true → (s : Machine) → IsState g k s → IsDoomed g s
  pub no : (k : ℕ) → slice_get marks k ≡ Some false → (s : Machine) → IsState g k s → CanFinish g s

-- from each state that is marked some schedule finishes, and at each that is not somebody is not done
pub record AreFinishing (g : Graph) (marks : List Bool) : Type 0 where
  pub count : length marks ≡ length g.space.keys
  pub yes : (k : ℕ) → slice_get marks k ≡ Some true → (s : Machine) → IsState g k s → CanFinish g s
  pub no : (k : ℕ) → slice_get marks k ≡ Some false → (s : Machine) → IsState g k s → ¬ AreOver s

-- an act leads to a marked state from marked ones alone
abbrev pub IsClosed : Graph → List Bool → Type 0
IsClosed g marks = (k i j : ℕ) → LeadsTo g.book k i j → slice_get marks j ≡ Some true → slice_get marks k ≡ Some true

-- one mark is set
pub record IsMarkedOnly (old new : List Bool) (n : ℕ) : Type 0 where
  pub count : length new ≡ length old
  pub off : (k : ℕ) → slice_get new k ≡ Some false → (slice_get old k ≡ Some false) × (k ≢ n)
  pub on : (k : ℕ) → slice_get new k ≡ Some true → (slice_get old k ≡ Some true) ⊎ (k ≡ n)

-- some act leads from the state to a marked one
pub record LeadsMarked (g : Graph) (marks : List Bool) (k : ℕ) : Type 0 where
  pub act : ℕ
  pub then : ℕ
  pub leads : LeadsTo g.book k act then
  pub marked : slice_get marks then ≡ Some true

-- An act leads from the state to a marked one, and it is marked now. Or nothing is changed, and it was marked before
-- if some act leads to a marked one.
pub record IsPassed (g : Graph) (old new : List Bool) (k : ℕ) (passes : Bool) : Type 0 where
  pub moved : passes ≡ true → LeadsMarked g old k
  pub marked : passes ≡ true → IsMarkedOnly old new k
  pub same : passes ≡ false → new ≡ old
  pub closed : passes ≡ false → (i j : ℕ) → LeadsTo g.book k i j → slice_get old j ≡ Some true
      → slice_get old k ≡ Some true

-- each act led from the state of this number to that number
abbrev pub StaysAt : Book → ℕ → Type 0
StaysAt b k = (i j : ℕ) → LeadsTo b k i j → j ≡ k

-- each mark is turned round
pub record AreTurned (old new : List Bool) : Type 0 where
  pub count : length new ≡ length old
  pub each : (k : ℕ) (mark : Bool) → slice_get new k ≡ Some mark → slice_get old k ≡ Some (not mark)

-- the first mark that is set
pub record IsFirst (marks : List Bool) (k : ℕ) : Type 0 where
  pub here : slice_get marks k ≡ Some true
  pub first : (j : ℕ) → j < k → slice_get marks j ≡ Some true → ⊥

-- everybody is done behind this schedule, and behind no shorter one
pub record IsShortestToEnd (g : Graph) (acts : List Act) : Type 0 where
  pub moves : AreMoves g.plan.extras g.machine.setup acts
  pub over : AreOver (state_after g.plan g.machine.setup acts)
  pub shortest : (others : List Act) → AreMoves g.plan.extras g.machine.setup others
      → AreOver (state_after g.plan g.machine.setup others) → length acts ≤ length others

-- no schedule finishes behind this one, and behind each shorter one some does
pub record IsShortestToDoom (g : Graph) (acts : List Act) : Type 0 where
  pub moves : AreMoves g.plan.extras g.machine.setup acts
  pub doomed : IsDoomed g (state_after g.plan g.machine.setup acts)
  pub shortest : (others : List Act) → AreMoves g.plan.extras g.machine.setup others
      → IsDoomed g (state_after g.plan g.machine.setup others) → length acts ≤ length others

-- a stuck state is behind this schedule, and behind no shorter one
pub record IsShortestToStuck (g : Graph) (acts : List Act) : Type 0 where
  pub moves : AreMoves g.plan.extras g.machine.setup acts
  pub stuck : IsStuck g (state_after g.plan g.machine.setup acts)
  pub shortest : (others : List Act) → AreMoves g.plan.extras g.machine.setup others
      → IsStuck g (state_after g.plan g.machine.setup others) → length acts ≤ length others

-- no schedule reaches a stuck state
abbrev pub NobodyIsStuck : Graph → Type 0
NobodyIsStuck g = (acts : List Act) → AreMoves g.plan.extras g.machine.setup acts
    → ¬ IsStuck g (state_after g.plan g.machine.setup acts)

-- from every state that a schedule reaches, some schedule finishes
abbrev pub NobodyIsDoomed : Graph → Type 0
NobodyIsDoomed g = (acts : List Act) → AreMoves g.plan.extras g.machine.setup acts
    → CanFinish g (state_after g.plan g.machine.setup acts)
