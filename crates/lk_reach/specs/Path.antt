-- The acts by which a state was first met.
use Rattle.std.specs.Prelude.{◌≡◌, ◌<◌, [], ◌∷◌, ℕ, List, length, slice_get, Some}
use Rattle.lk_names.specs.declared.events.Act.{Act}
use Rattle.lk_reach.specs.declared.book.Book.{Book}
use Rattle.lk_reach.specs.declared.origin.Origin.{Origin}
use Rattle.lk_reach.specs.declared.plan.Plan.{Plan}

-- the state of number k was first met by this act, from that of number j
pub record IsBefore (plan : Plan) (b : Book) (k j : ℕ) (a : Act) : Type 0 where
  pub origin : Origin
  pub is : slice_get b.origins k ≡ Some origin
  pub from : origin.state ≡ j
  pub doing : slice_get plan.acts.items origin.act ≡ Some a

-- each state but the first was met from one with a lower number, by an act of the plan
abbrev pub AreLow : Plan → Book → Type 0
AreLow plan b = (k : ℕ) (o : Origin) → slice_get b.origins k ≡ Some o → 0 < k
    → (o.state < k) × (o.act < length plan.acts.items)

-- by these acts the one state was met, from the other on
abbrev pub IsPath : Plan → Book → ℕ → ℕ → List Act → Type 0
IsPath plan b j k [] = j ≡ k
IsPath plan b j k (a ∷ acts) = (i : ℕ) × IsBefore plan b i j a × (0 < i) × IsPath plan b i k acts
