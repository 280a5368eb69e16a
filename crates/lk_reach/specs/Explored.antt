-- What an exploration knows: which states it has met, by how many acts, and which of them it has left
-- by every act.
use Rattle.std.specs.Prelude.{◌≡◌, ◌≢◌, ◌<◌, ◌≤◌, ◌+◌, ◌++◌, ◌∷◌, [], ◌⊎◌, ℕ, true, List, length, slice_get, slice_index_or, slice_set, Option, Some}
use Rattle.lk_names.specs.declared.events.Act.{Act}
use Rattle.lk_names.specs.declared.events.Event.{Event}
use Rattle.lk_rows.specs.declared.setup.Setup.{Setup}
use Rattle.lk_rows.specs.Machine.{Machine, rest_counts}
use Rattle.lk_rows.specs.Acts.{next}
use Rattle.lk_law.specs.Sound.{IsSound}
use Rattle.lk_idle.specs.Alike.{AreAlike}
use Rattle.lk_reach.specs.declared.book.Book.{Book}
use Rattle.lk_reach.specs.declared.origin.Origin.{Origin}
use Rattle.lk_reach.specs.declared.plan.Extras.{Extras}
use Rattle.lk_reach.specs.declared.plan.Plan.{Plan}
use Rattle.lk_reach.specs.Edges.{edges_in, one_away}
use Rattle.lk_reach.specs.Folded.{HaveFolds, StandsFor}
use Rattle.lk_reach.specs.Kinds.{kind_value}
use Rattle.lk_reach.specs.Reach.{IsBegun, IsMove, IsReached, after, bare, cpus_of, start_of}
use Rattle.lk_reach.specs.Space.{IsFront, SpaceValue, Keeps}

-- the machine is one of this setup, and has counted nothing
pub record IsSuch (z : Setup) (m : Machine) : Type 0 where
  pub setup : m.setup ≡ z
  pub counts : m.counts ≡ rest_counts
  pub cpus : length m.cpus ≡ cpus_of z
  pub locks : length m.locks ≡ length z.locks.items

-- the number is that of a sound machine of this setup
pub record IsStepped (setup : Setup) (v : SpaceValue) (k : ℕ) : Type 0 where
  pub state : Machine
  pub keeps : Keeps v k state
  pub such : IsSuch setup state
  pub sound : IsSound state

-- the number is that of a state that a schedule reaches
pub record IsGood (plan : Plan) (setup : Setup) (v : SpaceValue) (k : ℕ) : Type 0 where
  pub state : Machine
  pub keeps : Keeps v k state
  pub reached : IsReached plan setup state

-- the number is that of a state that a schedule reaches, and that stands for this one: it differs in
-- what nobody reads alone, or, where states are folded, in the numbers of processors that are alike, too
pub record KeepsLike (plan : Plan) (setup : Setup) (v : SpaceValue) (k : ℕ) (s : Machine) : Type 0 where
  pub state : Machine
  pub keeps : Keeps v k state
  pub reached : IsReached plan setup state
  pub stands : StandsFor plan setup state s

-- such a state is known
abbrev pub KnowsLike : Plan → Setup → SpaceValue → Machine → Type 0
KnowsLike plan setup v s = (k : ℕ) × KeepsLike plan setup v k s

-- the act of an origin, made on its state
pub record IsAct (plan : Plan) (setup : Setup) (v : SpaceValue) (b : Book) (o : Origin) : Type 0 where
  pub state : Machine
  pub keeps : Keeps v o.state state
  pub reached : IsReached plan setup state
  pub before : Origin
  pub was : slice_get b.origins o.state ≡ Some before
  pub level : o.level ≡ before.level + 1
  pub act : Act
  pub doing : slice_get plan.acts.items o.act ≡ Some act

-- the origin says how the state of this number was met: by an act on a state with a lower number
pub record IsOrigin (plan : Plan) (setup : Setup) (v : SpaceValue) (b : Book) (o : Origin) (k : ℕ) : Type 0 where
  pub made : IsAct plan setup v b o
  pub low : o.state < k
  pub leads : Keeps v k (after made.state made.act)

-- the origin says how an event of this kind was first met
pub record IsTelling (plan : Plan) (setup : Setup) (v : SpaceValue) (b : Book) (o : Origin) (kind : ℕ) : Type 0 where
  pub made : IsAct plan setup v b o
  pub event : Event
  pub tells : (next made.state made.act).1 ≡ Some event
  pub is : kind_value event.what ≡ kind

-- some event of this kind was met, by at most so many acts
pub record IsTold (b : Book) (kind most : ℕ) : Type 0 where
  pub origin : Origin
  pub is : slice_get b.firsts kind ≡ Some (Some origin)
  pub soon : origin.level ≤ most

-- a state like this one is known, and met by at most so many acts
pub record IsMet (plan : Plan) (setup : Setup) (v : SpaceValue) (b : Book) (most : ℕ) (s : Machine) : Type 0 where
  pub number : ℕ
  pub like : KeepsLike plan setup v number s
  pub origin : Origin
  pub is : slice_get b.origins number ≡ Some origin
  pub soon : origin.level ≤ most

-- the act of number i was made on the state of number k, and led to that of number j
pub record LeadsTo (b : Book) (k i j : ℕ) : Type 0 where
  pub column : List ℕ
  pub is : slice_get b.thens.items i ≡ Some column
  pub then : slice_get column k ≡ Some j

-- what the act of number i on the state of number k leads to is known, and its number written down; if
-- that is number k itself, the act changes nothing but what nobody reads
pub record IsTried (plan : Plan) (setup : Setup) (v : SpaceValue) (b : Book) (k i most : ℕ) (s : Machine) (a : Act)
    : Type 0 where
  pub met : IsMet plan setup v b most (after s a)
  pub then : LeadsTo b k i met.number
  pub stays : met.number ≡ k → AreAlike s (after s a)
  pub told : (e : Event) → (next s a).1 ≡ Some e → IsTold b (kind_value e.what) most

-- the first acts of these were tried on the state
pub record IsHalfLeft (plan : Plan) (setup : Setup) (v : SpaceValue) (b : Book) (k : ℕ) (acts : List Act) (n : ℕ) : Type 0 where
  pub state : Machine
  pub keeps : Keeps v k state
  pub reached : IsReached plan setup state
  pub origin : Origin
  pub is : slice_get b.origins k ≡ Some origin
  pub next : (i : ℕ) (a : Act) → i < n → slice_get acts i ≡ Some a
      → IsTried plan setup v b k i (origin.level + 1) state a

-- and all acts that are explored
pub record IsLeft (plan : Plan) (setup : Setup) (v : SpaceValue) (b : Book) (k : ℕ) : Type 0 where
  pub state : Machine
  pub keeps : Keeps v k state
  pub reached : IsReached plan setup state
  pub origin : Origin
  pub is : slice_get b.origins k ≡ Some origin
  pub next : (i : ℕ) (a : Act) → slice_get plan.acts.items i ≡ Some a
      → IsTried plan setup v b k i (origin.level + 1) state a

-- the act is one of these
abbrev pub Among : List Act → Act → Type 0
Among acts a = (i : ℕ) × (slice_get acts i ≡ Some a)

-- each of these acts is explored
abbrev pub OnlyMoves : Extras → Setup → List Act → Type 0
OnlyMoves extras setup acts = (i : ℕ) (a : Act) → slice_get acts i ≡ Some a → IsMove extras setup a

-- these acts are those that are explored
pub record AreAllMoves (extras : Extras) (setup : Setup) (acts : List Act) : Type 0 where
  pub all : (a : Act) → IsMove extras setup a → Among acts a
  pub only : (i : ℕ) (a : Act) → slice_get acts i ≡ Some a → IsMove extras setup a

-- the plan begins at this machine
pub record IsStart (plan : Plan) (m : Machine) : Type 0 where
  pub begun : IsBegun plan m.setup
  pub acts : AreAllMoves plan.extras m.setup plan.acts.items
  pub there : m ≡ bare (start_of plan m.setup)

-- the first state is where the exploration begins
pub record HasFirst (plan : Plan) (setup : Setup) (v : SpaceValue) (b : Book) : Type 0 where
  pub keeps : Keeps v 0 (bare (start_of plan setup))
  pub origin : Origin
  pub is : slice_get b.origins 0 ≡ Some origin
  pub level : origin.level ≡ 0

-- The exploration has met these states, written this down of them, and left so many of them.
pub record IsExplored (plan : Plan) (setup : Setup) (v : SpaceValue) (b : Book) (n : ℕ) : Type 0 where
  pub acts : AreAllMoves plan.extras setup plan.acts.items
  pub count : length b.origins ≡ length v.keys
  pub first : HasFirst plan setup v b
  pub good : (k : ℕ) → k < length v.keys → IsGood plan setup v k
  pub origins : (k : ℕ) (o : Origin) → slice_get b.origins k ≡ Some o → 0 < k → IsOrigin plan setup v b o k
  -- who needs fewer acts has a lower number, and who was met last needs one more than who is left next
  pub sorted : (i j : ℕ) (o p : Origin) → slice_get b.origins i ≡ Some o → slice_get b.origins j ≡ Some p
      → i < j → o.level ≤ p.level
  pub near : (i : ℕ) (o p : Origin) → slice_get b.origins i ≡ Some o → slice_get b.origins n ≡ Some p
      → o.level ≤ p.level + 1
  pub tellings : (kind : ℕ) (o : Origin) → slice_get b.firsts kind ≡ Some (Some o) → IsTelling plan setup v b o kind
  pub told_near : (kind : ℕ) (o p : Origin) → slice_get b.firsts kind ≡ Some (Some o) → slice_get b.origins n ≡ Some p
      → o.level ≤ p.level + 1
  pub left : (k : ℕ) → k < n → IsLeft plan setup v b k
  pub folds : plan.folds ≡ true → HaveFolds plan setup v

-- nothing that was written down is forgotten
pub record Continues (old new : Book) : Type 0 where
  pub thens : (k i j : ℕ) → LeadsTo old k i j → LeadsTo new k i j
  pub origins : IsFront old.origins new.origins
  pub firsts : (kind : ℕ) (o : Origin) → slice_get old.firsts kind ≡ Some (Some o)
      → slice_get new.firsts kind ≡ Some (Some o)

-- it stands there for this event, which is of the kind
pub record IsOf (o origin : Origin) (event : Option Event) (kind : ℕ) : Type 0 where
  pub same : o ≡ origin
  pub told : Event
  pub is : event ≡ Some told
  pub right : kind_value told.what ≡ kind

-- what one act adds to the firsts
pub record AddsFirst (old new : List (Option Origin)) (origin : Origin) (event : Option Event) : Type 0 where
  pub kept : (kind : ℕ) (o : Origin) → slice_get old kind ≡ Some (Some o) → slice_get new kind ≡ Some (Some o)
  pub only : (kind : ℕ) (o : Origin) → slice_get new kind ≡ Some (Some o)
      → (slice_get old kind ≡ Some (Some o)) ⊎ IsOf o origin event kind
  pub told : (e : Event) → event ≡ Some e → (o : Origin) × (slice_get new (kind_value e.what) ≡ Some (Some o))

-- how what an act on a state leads to was met
pub record IsNext (origins : List Origin) (state act : ℕ) (o : Origin) : Type 0 where
  pub before : Origin
  pub was : slice_get origins state ≡ Some before
  pub from : o.state ≡ state
  pub by : o.act ≡ act
  pub level : o.level ≡ before.level + 1

-- where an act led is written down, behind what stands in its column
abbrev pub AddsThen : List (List ℕ) → List (List ℕ) → ℕ → ℕ → Type 0
AddsThen old new act then = new ≡ slice_set old act (slice_index_or old act [] ++ then ∷ [])

-- so many columns without a number
pub record AreEmpty (columns : List (List ℕ)) (acts : ℕ) : Type 0 where
  pub width : length columns ≡ acts
  pub each : (i : ℕ) (column : List ℕ) → slice_get columns i ≡ Some column → column ≡ []

-- Each act has a column, with a number for each state that was left, and the first acts one more. The edges are
-- counted.
pub record AreColumns (b : Book) (acts states some : ℕ) : Type 0 where
  pub width : length b.thens.items ≡ acts
  pub first : (i : ℕ) (column : List ℕ) → slice_get b.thens.items i ≡ Some column → i < some → length column ≡ states + 1
  pub others : (i : ℕ) (column : List ℕ) → slice_get b.thens.items i ≡ Some column → some ≤ i → length column ≡ states
  pub edges : b.edges ≡ edges_in b.thens.items

-- and how the state was met, if it is new
abbrev pub AddsOrigin : List Origin → List Origin → ℕ → Origin → Type 0
AddsOrigin old new then o = ((then ≢ length old) × (new ≡ old)) ⊎ ((then ≡ length old) × (new ≡ old ++ o ∷ []))

-- what is written down of an act that led from one state to another
pub record Writes (old new : Book) (state act then : ℕ) (event : Option Event) : Type 0 where
  pub origin : Origin
  pub next : IsNext old.origins state act origin
  pub thens : AddsThen old.thens.items new.thens.items act then
  pub edges : new.edges ≡ old.edges + one_away then state
  pub origins : AddsOrigin old.origins new.origins then origin
  pub firsts : AddsFirst old.firsts new.firsts origin event

-- nothing is written down but the first state
pub record IsNew (b : Book) (acts : ℕ) : Type 0 where
  pub columns : AreColumns b acts 0 0
  pub origin : Origin
  pub origins : b.origins ≡ origin ∷ []
  pub level : origin.level ≡ 0
  pub firsts : (kind : ℕ) (o : Origin) → slice_get b.firsts kind ≡ Some (Some o) → ⊥
