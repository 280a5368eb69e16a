-- Lists by their places: what is read after a write, in a front, and at a new end; and the first
-- place that passes a test.
use Rattle.std.proofs.Common.{◌≡◌, ◌≢◌, ℕ, zero, suc, Option, Some, None, Bool, true, List, [], ◌∷◌}
use Rattle.std.proofs.Common.{◌++◌, inl, inr, arith, ap, ◌<◌, ◌≤◌, refl, sym, ◌∙◌, length, set}
use Rattle.std.proofs.Common.{take, get_or, slice_get, position, nat_lt}
use Rattle.std.proofs.{lemmas.Bool.{cond-true, lt-ltb}, lemmas.List.Quantifiers.position-Some}
use Rattle.std.specs.{List.position_or_len, Prelude.unwrap_or}
use Rattle.lk_core.proofs.Names.{cases_Bool, none-some, same_Some, slice_get-get_or}
use Rattle.lk_core.proofs.Names.{slice_get_within}

pub get-set_same : {A : Type 0} (xs : List A) (i : ℕ) (x : A) → i < length xs
    → slice_get (set xs i x) i ≡ Some x
get-set_same [] i x h = absurd (omega arith)
get-set_same (y ∷ xs) zero x h = refl
get-set_same (y ∷ xs) (suc i) x h = get-set_same xs i x (grind arith)

pub get-set_other : {A : Type 0} (xs : List A) (i j : ℕ) (x : A) → j ≢ i
    → slice_get (set xs i x) j ≡ slice_get xs j
get-set_other [] i j x h = refl
get-set_other (y ∷ xs) zero zero x h = absurd (h refl)
get-set_other (y ∷ xs) zero (suc j) x h = refl
get-set_other (y ∷ xs) (suc i) zero x h = refl
get-set_other (y ∷ xs) (suc i) (suc j) x h = get-set_other xs i j x (λ e. h (ap suc e))

pub get-take_below : {A : Type 0} (xs : List A) (n i : ℕ) → i < n
    → slice_get (take n xs) i ≡ slice_get xs i
get-take_below xs zero i h = absurd (omega arith)
get-take_below [] (suc n) i h = refl
get-take_below (x ∷ xs) (suc n) zero h = refl
get-take_below (x ∷ xs) (suc n) (suc i) h = get-take_below xs n i (omega arith)

pub get-take_end : {A : Type 0} (xs : List A) (n i : ℕ) → n ≤ i → slice_get (take n xs) i ≡ None
get-take_end xs zero i h = refl
get-take_end [] (suc n) i h = refl
get-take_end (x ∷ xs) (suc n) zero h = absurd (omega arith)
get-take_end (x ∷ xs) (suc n) (suc i) h = get-take_end xs n i (omega arith)

pub get-push_other : {A : Type 0} (xs : List A) (x : A) (i : ℕ) → i ≢ length xs
    → slice_get (xs ++ x ∷ []) i ≡ slice_get xs i
get-push_other [] x zero h = absurd (h refl)
get-push_other [] x (suc i) h = refl
get-push_other (y ∷ xs) x zero h = refl
get-push_other (y ∷ xs) x (suc i) h = get-push_other xs x i (λ e. h (ap suc e))

pub within_end : {A : Type 0} (xs : List A) (i : ℕ) → i < length xs
    → (x : A) × (slice_get xs i ≡ Some x)
within_end [] i h = absurd (omega arith)
within_end (x ∷ xs) zero h = (x, refl)
within_end (x ∷ xs) (suc i) h = within_end xs i (grind arith)

-- the first place that passes is no later than any that does
before_or_at : {A : Type 0} (P : A → Bool) (xs : List A) (i : ℕ) (x : A) → slice_get xs i ≡ Some x
    → P x ≡ true → position_or_len P xs ≤ i
before_or_at P [] i x at passes = cc
before_or_at P (y ∷ xs) zero x at passes =
    let same : y ≡ x = same_Some y x at in
    let p : P y ≡ true = ap P same ∙ passes in
    rw p (omega arith)
before_or_at P (y ∷ xs) (suc i) x at passes =
    let r = before_or_at P xs i x at passes in
    elim (cases_Bool (P y)) [ inl e ↦ rw e (omega arith) | inr e ↦ rw e (omega arith) ]

-- where some item passes, the first place is of one that does
pub first_found : {A : Type 0} (P : A → Bool) (xs : List A) (i : ℕ) (x : A)
    → slice_get xs i ≡ Some x → P x ≡ true
    → (y : A) × (slice_get xs (unwrap_or (position P xs) 0) ≡ Some y) × (P y ≡ true)
first_found {A} P xs i x at passes = found (position P xs) refl
  where
    found : (o : Option ℕ) → position P xs ≡ o
        → (y : A) × (slice_get xs (unwrap_or (position P xs) 0) ≡ Some y) × (P y ≡ true)
    found None e =
        let low = before_or_at P xs i x at passes in
        let within = slice_get_within xs i x at in
        let is : position P xs ≡ Some (position_or_len P xs) =
        cond-true (nat_lt (position_or_len P xs) (length xs)) (Some (position_or_len P xs)) None
        (lt-ltb (position_or_len P xs) (length xs) (omega arith)) in
        absurd (none-some (position_or_len P xs) (sym e ∙ is))
    found (Some j) e =
        let s = position-Some P xs j x e in (
          get_or xs j x,
          ap (λ (o : Option ℕ). slice_get xs (unwrap_or o 0)) e ∙ slice_get-get_or xs j x s.0,
          s.1,
        )
