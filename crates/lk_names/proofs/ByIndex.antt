-- Lists by index: what stands where after one more was appended, or the first was dropped.
use Rattle.std.proofs.Common.{◌≡◌, ◌<◌, ◌≤◌, ℕ, zero, suc, Some, None, List, [], ◌∷◌, ◌++◌, length}
use Rattle.std.proofs.Common.{◌⊎◌, inl, inr, arith, ap, refl, slice_get, drop}

-- an element after one more was appended is an old one, or the new one at the end
pub get-append : {A : Type 0} (xs : List A) (x : A) (i : ℕ) (u : A)
    → slice_get (xs ++ x ∷ []) i ≡ Some u → (slice_get xs i ≡ Some u) ⊎ ((i ≡ length xs) × (u ≡ x))
get-append [] x zero u h = inr (refl, grind arith)
get-append [] x (suc i) u h = cc
get-append (y ∷ xs) x zero u h = inl h
get-append (y ∷ xs) x (suc i) u h =
    elim (get-append xs x i u h) [ inl e ↦ inl e | inr p ↦ inr (ap suc p.0, p.1) ]

pub get-append_old : {A : Type 0} (xs : List A) (x : A) (i : ℕ) (u : A) → slice_get xs i ≡ Some u
    → slice_get (xs ++ x ∷ []) i ≡ Some u
get-append_old [] x i u h = cc
get-append_old (y ∷ xs) x zero u h = h
get-append_old (y ∷ xs) x (suc i) u h = get-append_old xs x i u h

pub get-append_new : {A : Type 0} (xs : List A) (x : A)
    → slice_get (xs ++ x ∷ []) (length xs) ≡ Some x
get-append_new [] x = refl
get-append_new (y ∷ xs) x = get-append_new xs x

pub get-append_none : {A : Type 0} (xs : List A) (x : A) (i : ℕ) → slice_get (xs ++ x ∷ []) i ≡ None
    → slice_get xs i ≡ None
get-append_none [] x i h = refl
get-append_none (y ∷ xs) x zero h = cc
get-append_none (y ∷ xs) x (suc i) h = get-append_none xs x i h

-- nothing is past the end
pub get-none_up : {A : Type 0} (xs : List A) (i : ℕ) → slice_get xs i ≡ None
    → slice_get xs (suc i) ≡ None
get-none_up [] i h = refl
get-none_up (y ∷ xs) zero h = cc
get-none_up (y ∷ xs) (suc i) h = get-none_up xs i h

-- a list is empty, or has a last element
pub last_cases : {A : Type 0} (xs : List A)
    → (xs ≡ []) ⊎ ((i : ℕ) × (u : A) × (slice_get xs i ≡ Some u) × (slice_get xs (suc i) ≡ None)
    × (length xs ≡ suc i))
last_cases [] = inl refl
last_cases (x ∷ xs) = inr (elim (last_cases xs) [
  | inl e ↦ (zero, x, refl, ap (λ ys. slice_get ys 0) e, ap (λ ys. suc (length ys)) e)
  | inr p ↦ (suc p.0, p.1, p.2, p.3, ap suc p.4)
])

pub get_cases : {A : Type 0} (xs : List A) (i : ℕ)
    → (slice_get xs i ≡ None) ⊎ ((u : A) × (slice_get xs i ≡ Some u))
get_cases [] i = inl refl
get_cases (y ∷ xs) zero = inr (y, refl)
get_cases (y ∷ xs) (suc i) = get_cases xs i

pub get-drop_one : {A : Type 0} (xs : List A) (i : ℕ)
    → slice_get (drop 1 xs) i ≡ slice_get xs (suc i)
get-drop_one [] i = refl
get-drop_one (y ∷ xs) i = refl

-- the last element after one more was appended is that one
pub get-append_last : {A : Type 0} (xs : List A) (x : A) (i : ℕ) (u : A)
    → slice_get (xs ++ x ∷ []) i ≡ Some u → slice_get (xs ++ x ∷ []) (suc i) ≡ None
    → (i ≡ length xs) × (u ≡ x)
get-append_last [] x zero u h k = (refl, grind arith)
get-append_last [] x (suc i) u h k = cc
get-append_last (y ∷ []) x zero u h k = cc
get-append_last (y ∷ z ∷ xs) x zero u h k = cc
get-append_last (y ∷ xs) x (suc i) u h k = let r = get-append_last xs x i u h k in (ap suc r.0, r.1)

-- two neighbours after one more was appended are old ones, or the old last and the new one
pub get-append_two : {A : Type 0} (xs : List A) (x : A) (i : ℕ) (u v : A)
    → slice_get (xs ++ x ∷ []) i ≡ Some u → slice_get (xs ++ x ∷ []) (suc i) ≡ Some v
    → ((slice_get xs i ≡ Some u) × (slice_get xs (suc i) ≡ Some v))
    ⊎ ((slice_get xs i ≡ Some u) × (slice_get xs (suc i) ≡ None) × (v ≡ x))
get-append_two [] x i u v h k = cc
get-append_two (y ∷ []) x zero u v h k = inr (h, refl, grind arith)
get-append_two (y ∷ z ∷ xs) x zero u v h k = inl (h, k)
get-append_two (y ∷ xs) x (suc i) u v h k = get-append_two xs x i u v h k

-- where a list has something, and where it has nothing
pub get_within : {A : Type 0} (xs : List A) (i : ℕ) (u : A) → slice_get xs i ≡ Some u
    → i < length xs
get_within [] i u h = cc
get_within (y ∷ xs) zero u h = grind arith
get_within (y ∷ xs) (suc i) u h = let r = get_within xs i u h in grind arith

pub get_past : {A : Type 0} (xs : List A) (i : ℕ) → slice_get xs i ≡ None → length xs ≤ i
get_past [] i h = grind arith
get_past (y ∷ xs) zero h = cc
get_past (y ∷ xs) (suc i) h = let r = get_past xs i h in grind arith

-- below a place that is taken none is free
pub get-some_down : {A : Type 0} (xs : List A) (i k : ℕ) (u : A) → i ≤ k → slice_get xs k ≡ Some u
    → slice_get xs i ≡ None → ⊥
get-some_down [] i k u l n h = cc
get-some_down (x ∷ xs) zero k u l n h = cc
get-some_down (x ∷ xs) (suc i) zero u l n h = omega arith
get-some_down (x ∷ xs) (suc i) (suc k) u l n h = get-some_down xs i k u (omega arith) n h
