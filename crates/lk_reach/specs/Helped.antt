-- Helpers: what they find while nobody writes, which stays so when more is met.
use Rattle.std.specs.Prelude.{true, false, ◌≡◌, ◌≢◌, ◌<◌, ◌≤◌, ◌⊎◌, ◌++◌, ◌∷◌, ℕ, List, Option, [], length, slice_get, slice_index_or, Some}
use Rattle.lk_names.specs.declared.events.Act.{Act}
use Rattle.lk_names.specs.declared.events.Event.{Event}
use Rattle.lk_rows.specs.declared.setup.Setup.{Setup}
use Rattle.lk_rows.specs.Acts.{next}
use Rattle.lk_rows.specs.Machine.{Machine}
use Rattle.lk_idle.specs.Alike.{AreAlike}
use Rattle.lk_renaming.specs.Renaming.{Renaming}
use Rattle.lk_renaming.specs.Renamed.{renamed}
use Rattle.lk_reach.specs.declared.book.Book.{Book}
use Rattle.lk_reach.specs.declared.found.Finding.{Finding}
use Rattle.lk_reach.specs.declared.found.Then.{Then}
use Rattle.lk_reach.specs.declared.found.Then.TheVariants as then
use Rattle.lk_reach.specs.declared.helper.Helper.{Helper}
use Rattle.lk_reach.specs.declared.key.Key.{Key}
use Rattle.lk_reach.specs.declared.plan.Plan.{Plan}
use Rattle.lk_reach.specs.Explored.{IsGood, IsSuch, KeepsLike, OnlyMoves}
use Rattle.lk_reach.specs.Folded.{Fits, HaveFolds}
use Rattle.lk_reach.specs.Path.{AreLow, IsPath}
use Rattle.lk_reach.specs.Reach.{AreMoves, IsBegun, IsReached, after, state_after}
use Rattle.lk_reach.specs.Space.{Grows, IsLikeFold, IsLikeKey, Keeps, KeyKeeps, SpaceValue}
use Rattle.lk_reach.specs.Steps.{AreMade}

-- The state of this number stands for the machine, to which an act led from the state s of number left. If it is
-- that one, it differs from the machine in what nobody reads alone.
pub record IsKnown (plan : Plan) (setup : Setup) (v : SpaceValue) (left : ℕ) (s m : Machine) (k : ℕ) : Type 0 where
  pub like : KeepsLike plan setup v k m
  pub stays : k ≡ left → AreAlike s m

-- the first key is that of the machine, and the second that of the same machine under new numbers
pub record HaveKeys (plan : Plan) (setup : Setup) (v : SpaceValue) (m : Machine) (key fold : Key) : Type 0 where
  pub folds : plan.folds ≡ true
  pub keeps : KeyKeeps v.parts v.shareds key m
  pub renaming : Renaming
  pub fits : Fits plan setup renaming
  pub folded : KeyKeeps v.parts v.shareds fold (renamed renaming m)

-- to this the act led
abbrev pub LeadsThere : Plan → Setup → SpaceValue → ℕ → Machine → Machine → Then → Type 0
LeadsThere plan setup v left s m (then.Known k) = IsKnown plan setup v left s m k
LeadsThere plan setup v left s m (then.New key) = (plan.folds ≡ false) × KeyKeeps v.parts v.shareds key m
LeadsThere plan setup v left s m (then.Fold key fold) = HaveKeys plan setup v m key fold

-- from the state of this number the act leads to this, and this it tells
pub record IsTriedOn (plan : Plan) (setup : Setup) (v : SpaceValue) (left : ℕ) (a : Act) (t : Then) (event : Option Event)
    : Type 0 where
  pub then : (s : Machine) → Keeps v left s → IsReached plan setup s → LeadsThere plan setup v left s (after s a) t
  pub tells : (s : Machine) → Keeps v left s → IsReached plan setup s → event ≡ (next s a).1

-- what was found is so
pub record IsFound (plan : Plan) (setup : Setup) (v : SpaceValue) (f : Finding) : Type 0 where
  pub state : Machine
  pub keeps : Keeps v f.state state
  pub reached : IsReached plan setup state
  pub act : Act
  pub doing : slice_get plan.acts.items f.act ≡ Some act
  pub event : f.event ≡ (next state act).1
  pub then : LeadsThere plan setup v f.state state (after state act) f.then

abbrev pub AreFound : Plan → Setup → SpaceValue → List Finding → Type 0
AreFound plan setup v fs = (i : ℕ) (f : Finding) → slice_get fs i ≡ Some f → IsFound plan setup v f

-- a helper with a machine of this setup, which found what is so, and remembers steps that are so
pub record IsHelper (plan : Plan) (setup : Setup) (v : SpaceValue) (h : Helper) : Type 0 where
  pub such : IsSuch setup h.machine
  pub made : AreMade setup v h.steps.made.items
  pub found : AreFound plan setup v h.findings.items

abbrev pub AreHelpers : Plan → Setup → SpaceValue → List Helper → Type 0
AreHelpers plan setup v hs = (i : ℕ) (h : Helper) → slice_get hs i ≡ Some h → IsHelper plan setup v h

-- a helper with a machine of this setup, which has found nothing
pub record IsFresh (setup : Setup) (h : Helper) : Type 0 where
  pub such : IsSuch setup h.machine
  pub none : h.findings.items ≡ []
  pub no_steps : h.steps.made.items ≡ []

abbrev pub AreFresh : Setup → List Helper → Type 0
AreFresh setup hs = (i : ℕ) (h : Helper) → slice_get hs i ≡ Some h → IsFresh setup h

-- one of the helpers found it
pub record IsOneOf (hs : List Helper) (f : Finding) : Type 0 where
  pub at : ℕ
  pub helper : Helper
  pub is : slice_get hs at ≡ Some helper
  pub place : ℕ
  pub found : slice_get helper.findings.items place ≡ Some f

-- one of them led to a state with the first key, whose fold has the second
pub record IsFoldFound (fs : List Finding) (key fold : Key) : Type 0 where
  pub place : ℕ
  pub finding : Finding
  pub is : slice_get fs place ≡ Some finding
  pub then : finding.then ≡ then.Fold key fold

-- what was found was kept, if there was room
abbrev pub MayKeep : List Finding → List Finding → Option Finding → Type 0
MayKeep old new found = (new ≡ old) ⊎ ((f : Finding) × (found ≡ Some f) × (new ≡ old ++ f ∷ []))

-- acts of the plan may be tried, by a machine of this setup, on all states that were met
pub record MayLook (plan : Plan) (v : SpaceValue) (setup : Setup) : Type 0 where
  pub few : length setup.topology.sockets.items ≤ 8
  pub begun : IsBegun plan setup
  pub moves : OnlyMoves plan.extras setup plan.acts.items
  pub good : (k : ℕ) → k < length v.keys → IsGood plan setup v k
  pub folds : plan.folds ≡ true → HaveFolds plan setup v

-- the book has a schedule to each state that was met
pub record HaveWays (plan : Plan) (b : Book) (v : SpaceValue) (setup : Setup) : Type 0 where
  pub low : AreLow plan b
  pub count : length b.origins ≡ length v.keys
  pub ways : (k : ℕ) (acts : List Act) → k < length v.keys → IsPath plan b 0 k acts
      → AreMoves plan.extras setup acts × Keeps v k (state_after plan setup acts)

-- a helper may try them
pub record IsReady (plan : Plan) (v : SpaceValue) (h : Helper) : Type 0 where
  pub may : MayLook plan v h.machine.setup
  pub such : IsSuch h.machine.setup h.machine
  pub made : AreMade h.machine.setup v h.steps.made.items

-- and knows the schedules to them
abbrev pub IsSent : Plan → Book → SpaceValue → Helper → Type 0
IsSent plan b v h = IsReady plan v h × HaveWays plan b v h.machine.setup

abbrev pub AreSent : Plan → Book → SpaceValue → List Helper → Type 0
AreSent plan b v hs = (i : ℕ) (d : Helper) → i < length hs → IsSent plan b v (slice_index_or hs i d)

-- a helper made an act, and found nothing so far
pub record StaysHelper (v : SpaceValue) (old new : Helper) : Type 0 where
  pub such : IsSuch old.machine.setup new.machine
  pub made : AreMade old.machine.setup v new.steps.made.items
  pub findings : new.findings ≡ old.findings

-- a helper became one that has looked
pub record HasLooked (plan : Plan) (v : SpaceValue) (old new : Helper) : Type 0 where
  pub setup : new.machine.setup ≡ old.machine.setup
  pub helper : IsHelper plan old.machine.setup v new

-- the number is that of a state with this key, or of one that differs from it in what nobody reads alone; each new
-- number is this one
pub record IsKeyNoted (old new : SpaceValue) (key : Key) (k : ℕ) : Type 0 where
  pub there : k < length new.keys
  pub alike : IsLikeKey new k key
  pub grows : Grows old new
  pub one : (j : ℕ) → length old.keys ≤ j → j < length new.keys → (j ≡ k) × (slice_get new.keys j ≡ Some key)

-- The number is that of a state other than the one that is left, whose fold has this key, or differs from it in what
-- nobody reads alone. Each new number is this one, and has this key and this fold.
pub record IsFoldNoted (old new : SpaceValue) (key fold : Key) (left k : ℕ) : Type 0 where
  pub there : k < length new.keys
  pub other : k ≢ left
  pub alike : IsLikeFold new k fold
  pub grows : Grows old new
  pub parts : new.parts ≡ old.parts
  pub shareds : new.shareds ≡ old.shareds
  pub one : (j : ℕ) → length old.keys ≤ j → j < length new.keys
      → (j ≡ k) × (slice_get new.keys j ≡ Some key) × (slice_get new.folds j ≡ Some fold)
  pub folds : length new.folds ≡ length new.keys

-- a state may get a fold, if the act led to one that has none
abbrev pub MaySettle : SpaceValue → ℕ → Then → Type 0
MaySettle v left (then.Known j) = Unit {0}
MaySettle v left (then.New key) = Unit {0}
MaySettle v left (then.Fold key fold) = (left < length v.keys) × (length v.folds ≡ length v.keys)

-- the number is that of the state to which the act led, or of one that stands for it: it gets one if there is none
abbrev pub IsSettled : SpaceValue → SpaceValue → ℕ → Then → ℕ → Type 0
IsSettled old new left (then.Known j) k = (k ≡ j) × (new ≡ old)
IsSettled old new left (then.New key) k = IsKeyNoted old new key k
IsSettled old new left (then.Fold key fold) k = IsFoldNoted old new key fold left k
