-- What a graph tells: of the states, and of the schedules that lead to them.
use Rattle.std.specs.Prelude.{◌≡◌, ◌<◌, ◌≤◌, ◌++◌, ◌∷◌, [], ℕ, List, length, slice_get, Some}
use Rattle.lk_names.specs.declared.events.Act.{Act}
use Rattle.lk_names.specs.declared.events.Event.{Event}
use Rattle.lk_rows.specs.Acts.{next}
use Rattle.lk_rows.specs.Machine.{Machine}
use Rattle.lk_rows.specs.declared.parts.Pc.{Pc}
use Rattle.lk_reach.specs.declared.origin.Origin.{Origin}
use Rattle.lk_reach.specs.declared.graph.Graph.{Graph}
use Rattle.lk_reach.specs.Folded.{StandsFor}
use Rattle.lk_reach.specs.Explored.{AreColumns, IsExplored, IsSuch, KeepsLike}
use Rattle.lk_reach.specs.Reach.{AreMoves, IsBegun, IsMove, MakesRow, cpus_of, state_after}
use Rattle.lk_reach.specs.Kinds.{kind_value}
use Rattle.lk_reach.specs.Space.{Keeps}

-- an exploration made it
pub record IsGraph (g : Graph) : Type 0 where
  pub begun : IsBegun g.plan g.machine.setup
  pub explored : IsExplored g.plan g.machine.setup g.space g.book g.left
  pub columns : AreColumns g.book (length g.plan.acts.items) g.left 0
  pub within : g.left ≤ length g.space.keys
  pub cpus : g.cpus ≡ cpus_of g.machine.setup
  pub few : g.cpus ≤ 8
  pub such : IsSuch g.machine.setup g.machine

-- every state that was met was left by every act
abbrev pub IsWhole : Graph → Type 0
IsWhole g = g.left ≡ length g.space.keys

-- these acts lead to the state of this number, and are as many as its level says
pub record IsWay (g : Graph) (k : ℕ) (acts : List Act) : Type 0 where
  pub moves : AreMoves g.plan.extras g.machine.setup acts
  pub leads : Keeps g.space k (state_after g.plan g.machine.setup acts)
  pub origin : Origin
  pub is : slice_get g.book.origins k ≡ Some origin
  pub count : length acts ≡ origin.level

-- a schedule of at most so many acts leads to the state of this number
pub record IsWithin (g : Graph) (most k : ℕ) : Type 0 where
  pub acts : List Act
  pub way : IsWay g k acts
  pub few : length acts ≤ most

-- and to one that stands for this one
pub record IsLikeWithin (g : Graph) (most : ℕ) (s : Machine) : Type 0 where
  pub acts : List Act
  pub moves : AreMoves g.plan.extras g.machine.setup acts
  pub few : length acts ≤ most
  pub stands : StandsFor g.plan g.machine.setup (state_after g.plan g.machine.setup acts) s

-- So many acts are enough for each state that was met, and, where every state was left, for one like each that a
-- schedule reaches. No schedule of fewer acts leads to the number of the last state: it leads to a lower one.
pub record IsDeepest (g : Graph) (n : ℕ) : Type 0 where
  pub enough : (k : ℕ) → k < length g.space.keys → IsWithin g n k
  pub all : IsWhole g → (acts : List Act) → AreMoves g.plan.extras g.machine.setup acts
      → IsLikeWithin g n (state_after g.plan g.machine.setup acts)
  pub last : ℕ
  pub there : last < length g.space.keys
  pub fewer : (acts : List Act) → AreMoves g.plan.extras g.machine.setup acts → length acts < n
      → (j : ℕ) × (j < last) × KeepsLike g.plan g.machine.setup g.space j (state_after g.plan g.machine.setup acts)

-- a step makes the row behind this schedule, and behind no shorter one
pub record IsShortestToRow (g : Graph) (row : Pc) (acts : List Act) : Type 0 where
  pub moves : AreMoves g.plan.extras g.machine.setup acts
  pub makes : MakesRow (state_after g.plan g.machine.setup acts) row
  pub shortest : (others : List Act) → AreMoves g.plan.extras g.machine.setup others
      → MakesRow (state_after g.plan g.machine.setup others) row → length acts ≤ length others

-- behind these acts, the last one tells an event of this kind
pub record Tells (g : Graph) (kind : ℕ) (acts : List Act) (last : Act) : Type 0 where
  pub moves : AreMoves g.plan.extras g.machine.setup acts
  pub move : IsMove g.plan.extras g.machine.setup last
  pub event : Event
  pub tells : (next (state_after g.plan g.machine.setup acts) last).1 ≡ Some event
  pub is : kind_value event.what ≡ kind

-- no schedule tells an event of this kind
abbrev pub IsNever : Graph → ℕ → Type 0
IsNever g kind = (acts : List Act) (last : Act) → ¬ Tells g kind acts last

-- the last act of this schedule tells an event of this kind, and that of no shorter one does
pub record IsShortestToEvent (g : Graph) (kind : ℕ) (acts : List Act) : Type 0 where
  pub first : List Act
  pub last : Act
  pub all : acts ≡ first ++ last ∷ []
  pub tells : Tells g kind first last
  pub shortest : (others : List Act) (other : Act) → Tells g kind others other → length first ≤ length others
