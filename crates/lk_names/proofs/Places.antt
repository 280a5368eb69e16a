-- What stands at a place of a list after a write.
use Rattle.std.proofs.Common.{◌≡◌, ◌≢◌, ℕ, zero, suc, List, [], ◌∷◌, Some, refl, sym, ap}
use Rattle.std.specs.Prelude.{slice_set}
use Rattle.std.specs.List.{slice_get}
use Rattle.std.proofs.lemmas.Option.{none-some, same_Some}

module _ {X : Type 0} (x : X) where
  pub slice_get-set_same : (xs : List X) (i : ℕ) (y : X) → slice_get xs i ≡ Some y → slice_get (slice_set xs i x) i ≡ Some x
  slice_get-set_same [] i y e = absurd (none-some y e)
  slice_get-set_same (z ∷ xs) zero y e = refl
  slice_get-set_same (z ∷ xs) (suc i) y e = slice_get-set_same xs i y e

  pub slice_get-set_other : (xs : List X) (i j : ℕ) → j ≢ i → slice_get (slice_set xs i x) j ≡ slice_get xs j
  slice_get-set_other [] i j apart = refl
  slice_get-set_other (z ∷ xs) zero zero apart = absurd (apart refl)
  slice_get-set_other (z ∷ xs) zero (suc j) apart = refl
  slice_get-set_other (z ∷ xs) (suc i) zero apart = refl
  slice_get-set_other (z ∷ xs) (suc i) (suc j) apart = slice_get-set_other xs i j (λ e. apart (ap suc e))

  pub set-slice_get : (xs : List X) (i : ℕ) → slice_get xs i ≡ Some x → slice_set xs i x ≡ xs
  set-slice_get [] i e = refl
  set-slice_get (z ∷ xs) zero e = ap (λ y. y ∷ xs) (sym (same_Some z x e))
  set-slice_get (z ∷ xs) (suc i) e = ap (λ ys. z ∷ ys) (set-slice_get xs i e)
