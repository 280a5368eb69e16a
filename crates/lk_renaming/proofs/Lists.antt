-- Lists of which each item is changed.
use Rattle.std.proofs.Common.{◌≡◌, ℕ, ◌+◌, Bool, List, [], ◌∷◌, Some, None, map, get_or, slice_get}
use Rattle.std.proofs.Common.{cond, not, nat_lt, position, refl, zero, suc}
use Rattle.std.specs.{List.prefix_len, Prelude.unwrap_or}
use Rattle.lk_renaming.proofs.Names.{length-map}

module _ {A B : Type 0} (h : A → B) where
  pub get_or_mapped : (xs : List A) (i : ℕ) (d : A) → get_or (map h xs) i (h d) ≡ h (get_or xs i d)
  get_or_mapped [] i d = refl
  get_or_mapped (x ∷ xs) zero d = refl
  get_or_mapped (x ∷ xs) (suc i) d = get_or_mapped xs i d

  pub slice_get_mapped : (xs : List A) (i : ℕ) (d : A)
      → unwrap_or (slice_get (map h xs) i) (h d) ≡ h (unwrap_or (slice_get xs i) d)
  slice_get_mapped [] i d = refl
  slice_get_mapped (x ∷ xs) zero d = refl
  slice_get_mapped (x ∷ xs) (suc i) d = slice_get_mapped xs i d

  -- a test of the changed items that says the same of each
  module _ (q : B → Bool) (p : A → Bool) (same : (x : A) → q (h x) ≡ p x) where
    prefix_mapped : (xs : List A) → prefix_len (λ y. not (q y)) (map h xs) ≡ prefix_len (λ x. not (p x)) xs
    prefix_mapped [] = refl
    prefix_mapped (x ∷ xs) = (λ i. cond (not (same x i)) (1 + prefix_mapped xs i) 0)

    pub position_mapped : (xs : List A) → position q (map h xs) ≡ position p xs
    position_mapped xs = (λ i. cond (nat_lt (prefix_mapped xs i) (length-map xs h i)) (Some (prefix_mapped xs i)) None)
