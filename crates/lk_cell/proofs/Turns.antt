-- A key opens its cell, and shuts it.
use Rattle.std.proofs.Common.{◌≡◌, ℕ, zero, suc, List, [], ◌∷◌, set, refl, sym, ap, subst, ◌∙◌, Bool, true, false}
use mathlib.Core.Option.{Option, some, none, some-injective, some-ne-none}
use lib.ListN.{get_elem?}
use Rattle.atomic_table.specs.Table.{Me, takes, gives, Allows}
use Rattle.lk_cell.specs.Latched.{Latched, Opens, Shuts}

module _ {T : Type 0} (fits : T → Type 0) where
  -- the view of the one seat
  only : (vs : List Bool) (o v : Bool) (id : ℕ) → vs ≡ o ∷ [] → get_elem? vs id ≡ some v
      → (o ≡ v) × ((w : Bool) → set vs id w ≡ w ∷ [])
  only vs o v zero e at = (
    some-injective o v (ap (λ (xs : List Bool). get_elem? xs 0) (sym e) ∙ at),
    λ w. ap (λ (xs : List Bool). set xs 0 w) e,
  )
  only vs o v (suc id) e at =
      absurd (some-ne-none v (sym at ∙ ap (λ (xs : List Bool). get_elem? xs (suc id)) e))

  slot_set : (hs : List (Option T)) (x y : Option T) → get_elem? hs 0 ≡ some x
      → get_elem? (set hs 0 y) 0 ≡ some y
  slot_set [] x y e = absurd (some-ne-none x (sym e))
  slot_set (h ∷ hs) x y e = refl

  pub opens : (n id : ℕ) (m : Me T Bool) → m ≡ (false, [])
      → Allows (Latched fits) n id m 0 (λ x. x) (λ _ w. Opens fits w)
  opens n id m is =
      subst (λ (x : Me T Bool). Allows (Latched fits) n id x 0 (λ y. y) (λ _ w. Opens fits w)) (sym is)
      (λ s g long me _.
      let o = only s.views g.open_is false id g.views me in
      let t = g.home o.0 in (
        true,
        takes 0 t.0,
        t.1,
        record {
          open_is = true;
          views = o.1 true;
          home = λ e. absurd (let z : ⊥ = cc e in z);
          slot = (none, slot_set s.homes (some t.0) none t.1);
        },
        (t.0, t.2, refl),
      ))

  pub shuts : (n id : ℕ) (m : Me T Bool) (x : T) → m ≡ (true, (0, x) ∷ []) → fits x
      → Allows (Latched fits) n id m 0 (λ y. y) (λ _ w. Shuts w)
  shuts n id m x is ok =
      subst (λ (z : Me T Bool). Allows (Latched fits) n id z 0 (λ y. y) (λ _ w. Shuts w)) (sym is)
      (λ s g long me _.
      let o = only s.views g.open_is true id g.views me in (
        false,
        gives,
        tt,
        record {
          open_is = false;
          views = o.1 false;
          home = λ _. (x, slot_set s.homes g.slot.0 (some x) g.slot.1, ok);
          slot = (some x, slot_set s.homes g.slot.0 (some x) g.slot.1);
        },
        refl,
      ))
