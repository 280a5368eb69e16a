-- How each kind of event was first met, with one more event.
use Rattle.std.proofs.Common.{◌≡◌, ℕ, zero, suc, ◌<◌, List, Option, Some, None, sym, ◌∙◌, ap, subst}
use Rattle.std.proofs.Common.{inl, inr, length, replicate, ◌⊎◌, slice_get, slice_set}
use Rattle.lk_reach.proofs.Names.{cases_eq, slice_get_within, Event, kind_value, Origin}
use Rattle.lk_reach.proofs.Kept.{set_other, set_same}
use Rattle.lk_reach.specs.Explored.{AddsFirst, IsOf}

same_event : (o : Option Event) (e d : Event) → o ≡ Some e → o ≡ Some d → e ≡ d
same_event o e d a b = cc

-- the first event of its kind
pub new_first : (old : List (Option Origin)) (origin : Origin) (event : Option Event) (e : Event) (kind : ℕ)
    → event ≡ Some e → kind ≡ kind_value e.what → slice_get old kind ≡ Some None
    → AddsFirst old (slice_set old kind (Some origin)) origin event
new_first old origin event e kind is right none = record { kept = kept; only = only; told = told }
  where
    low : kind < length old
    low = slice_get_within old kind None none

    apart : (o : Origin) → slice_get old kind ≡ Some (Some o) → ⊥
    apart o here = cc

    kept : (k : ℕ) (o : Origin) → slice_get old k ≡ Some (Some o) → slice_get (slice_set old kind (Some origin)) k ≡ Some (Some o)
    kept k o here = elim (cases_eq k kind) [
      | inl same ↦ absurd (apart o (subst (λ (h : ℕ). slice_get old h ≡ Some (Some o)) same here))
      | inr ne ↦ set_other old kind k (Some origin) ne ∙ here
    ]

    some_same : (o p : Origin) → Some (Some o) ≡ Some (Some p) → o ≡ p
    some_same o p same = cc

    only : (k : ℕ) (o : Origin) → slice_get (slice_set old kind (Some origin)) k ≡ Some (Some o)
        → (slice_get old k ≡ Some (Some o)) ⊎ IsOf o origin event k
    only k o here = elim (cases_eq k kind) [
      | inl same ↦ inr (record {
        same = sym (some_same origin o (sym (set_same old kind (Some origin) low)
            ∙ subst (λ (h : ℕ). slice_get (slice_set old kind (Some origin)) h ≡ Some (Some o)) same here));
        told = e;
        is = is;
        right = sym right ∙ sym same;
      })
      | inr ne ↦ inl (sym (set_other old kind k (Some origin) ne) ∙ here)
    ]

    told : (d : Event) → event ≡ Some d
        → (o : Origin) × (slice_get (slice_set old kind (Some origin)) (kind_value d.what) ≡ Some (Some o))
    told d also = (
      origin,
      subst (λ (h : ℕ). slice_get (slice_set old kind (Some origin)) h ≡ Some (Some origin))
          (right ∙ ap (λ (z : Event). kind_value z.what) (same_event event e d is also)) (set_same old kind (Some origin) low),
    )

-- another one of it
pub kept_first : (old : List (Option Origin)) (origin : Origin) (event : Option Event) (e : Event) (kind : ℕ)
    → event ≡ Some e → kind ≡ kind_value e.what → (o : Origin) × (slice_get old kind ≡ Some (Some o))
    → AddsFirst old old origin event
kept_first old origin event e kind is right there = record {
  kept = λ k o here. here;
  only = λ k o here. inl here;
  told = λ d also. (
    there.0,
    subst (λ (h : ℕ). slice_get old h ≡ Some (Some there.0))
        (right ∙ ap (λ (z : Event). kind_value z.what) (same_event event e d is also)) there.1,
  );
}

-- no event
pub no_first : (old : List (Option Origin)) (origin : Origin) (event : Option Event) → event ≡ None
    → AddsFirst old old origin event
no_first old origin event none = record {
  kept = λ k o here. here;
  only = λ k o here. inl here;
  told = λ d also. absurd (nothing event d none also);
}
  where
    nothing : (o : Option Event) (d : Event) → o ≡ None → o ≡ Some d → ⊥
    nothing o d a b = cc

-- no event of any kind
abbrev not_met : Option Origin
not_met = None

pub none_first : (n kind : ℕ) (o : Origin) → slice_get (replicate n not_met) kind ≡ Some (Some o) → ⊥
none_first zero kind o here = cc
none_first (suc n) zero o here = cc
none_first (suc n) (suc kind) o here = none_first n kind o here
