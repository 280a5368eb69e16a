-- Lists of which each item is changed.
use Rattle.std.proofs.Common.{◌≡◌, ℕ, ◌+◌, Bool, List, [], ◌∷◌, ◌++◌, Some, None, map, length, take}
use Rattle.std.proofs.Common.{get_or, set, slice_get, cond, not, nat_lt, position, ap, refl, ◌∙◌}
use Rattle.std.proofs.Common.{zero, suc}
use Rattle.std.proofs.lemmas.List.{length-map}
use Rattle.std.specs.{List.{position_or_len, prefix_len}, Prelude.unwrap_or}

module _ {A B : Type 0} (h : A → B) where
  pub get_or_mapped : (xs : List A) (i : ℕ) (d : A) → get_or (map h xs) i (h d) ≡ h (get_or xs i d)
  get_or_mapped [] i d = refl
  get_or_mapped (x ∷ xs) zero d = refl
  get_or_mapped (x ∷ xs) (suc i) d = get_or_mapped xs i d

  pub set_mapped : (xs : List A) (i : ℕ) (x : A) → set (map h xs) i (h x) ≡ map h (set xs i x)
  set_mapped [] i x = refl
  set_mapped (y ∷ xs) zero x = refl
  set_mapped (y ∷ xs) (suc i) x = ap (λ ys. h y ∷ ys) (set_mapped xs i x)

  pub slice_get_mapped : (xs : List A) (i : ℕ) (d : A)
      → unwrap_or (slice_get (map h xs) i) (h d) ≡ h (unwrap_or (slice_get xs i) d)
  slice_get_mapped [] i d = refl
  slice_get_mapped (x ∷ xs) zero d = refl
  slice_get_mapped (x ∷ xs) (suc i) d = slice_get_mapped xs i d

  pub take_mapped : (xs : List A) (n : ℕ) → take n (map h xs) ≡ map h (take n xs)
  take_mapped xs zero = refl
  take_mapped [] (suc n) = refl
  take_mapped (x ∷ xs) (suc n) = ap (λ ys. h x ∷ ys) (take_mapped xs n)

  pub push_mapped : (xs : List A) (x : A) → map h xs ++ h x ∷ [] ≡ map h (xs ++ x ∷ [])
  push_mapped [] x = refl
  push_mapped (y ∷ xs) x = ap (λ ys. h y ∷ ys) (push_mapped xs x)

  prefix_mapped : (q : B → Bool) (xs : List A)
      → prefix_len q (map h xs) ≡ prefix_len (λ x. q (h x)) xs
  prefix_mapped q [] = refl
  prefix_mapped q (x ∷ xs) = ap (λ n. cond (q (h x)) (1 + n) 0) (prefix_mapped q xs)

  pub position_mapped : (q : B → Bool) (xs : List A)
      → position q (map h xs) ≡ position (λ x. q (h x)) xs
  position_mapped q xs =
      ap (λ n. cond (nat_lt n (length (map h xs))) (Some n) None) (prefix_mapped (λ x. not (q x)) xs)
      ∙ ap (λ n. cond (nat_lt (position_or_len (λ x. q (h x)) xs) n)
      (Some (position_or_len (λ x. q (h x)) xs)) None) (length-map xs h)

-- an item that was put stands there, or the list ends before
pub put_there : {A : Type 0} (P : A → Type 0) (d x : A) → P d → P x → (xs : List A) (i : ℕ)
    → P (unwrap_or (slice_get (set xs i x) i) d)
put_there P d x none some [] i = none
put_there P d x none some (y ∷ xs) zero = some
put_there P d x none some (y ∷ xs) (suc i) = put_there P d x none some xs i

-- what each item stays under a change, all do
pub same_mapped : {A B : Type 0} (g h : A → B) → ((x : A) → g x ≡ h x) → (xs : List A)
    → map g xs ≡ map h xs
same_mapped g h same [] = refl
same_mapped g h same (x ∷ xs) = (λ i. same x i ∷ same_mapped g h same xs i)

pub mapped_twice : {A : Type 0} (h : A → A) → ((x : A) → h (h x) ≡ h x) → (xs : List A)
    → map h (map h xs) ≡ map h xs
mapped_twice h same [] = refl
mapped_twice h same (x ∷ xs) = (λ i. same x i ∷ mapped_twice h same xs i)
