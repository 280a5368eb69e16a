use Rattle.std.proofs.Common.{◌≡◌, ◌≢◌, ℕ, zero, suc, Some, None, List, [], ◌∷◌, ◌++◌, length, ◌⊎◌}
use Rattle.std.proofs.Common.{inl, inr, arith, ap, refl, ◌∙◌, ◌<◌, ◌≤◌, ◌+◌, slice_get, drop, take}

pub get-drop : {A : Type 0} (n : ℕ) (xs : List A) (i : ℕ)
    → slice_get (drop n xs) i ≡ slice_get xs (n + i)
get-drop zero xs i = let e : i ≡ zero + i = omega arith in ap (slice_get xs) e
get-drop (suc n) [] i = refl
get-drop (suc n) (x ∷ xs) i =
    let e : suc (n + i) ≡ suc n + i = omega arith in get-drop n xs i ∙ ap (slice_get (x ∷ xs)) e

-- an element of two joined lists stands in the one or in the other
pub get-join : {A : Type 0} (xs ys : List A) (i : ℕ) (u : A) → slice_get (xs ++ ys) i ≡ Some u
    → (slice_get xs i ≡ Some u) ⊎ ((j : ℕ) × (i ≡ length xs + j) × (slice_get ys j ≡ Some u))
get-join [] ys i u h = inr (i, omega arith, h)
get-join (x ∷ xs) ys zero u h = inl h
get-join (x ∷ xs) ys (suc i) u h = elim (get-join xs ys i u h) [
  | inl e ↦ inl e
  | inr p ↦ inr (p.0, (let e = p.1 in omega arith), p.2)
]

pub get-join_left : {A : Type 0} (xs ys : List A) (i : ℕ) (u : A) → slice_get xs i ≡ Some u
    → slice_get (xs ++ ys) i ≡ Some u
get-join_left [] ys i u h = cc
get-join_left (x ∷ xs) ys zero u h = h
get-join_left (x ∷ xs) ys (suc i) u h = get-join_left xs ys i u h

pub get-join_right : {A : Type 0} (xs ys : List A) (j : ℕ)
    → slice_get (xs ++ ys) (length xs + j) ≡ slice_get ys j
get-join_right [] ys j = let e : zero + j ≡ j = omega arith in ap (slice_get ys) e
get-join_right (x ∷ xs) ys j = let e : suc (length xs) + j ≡ suc (length xs + j) = omega arith in
    ap (slice_get (x ∷ (xs ++ ys))) e ∙ get-join_right xs ys j

pub get-join_none : {A : Type 0} (xs ys : List A) (i : ℕ) → slice_get (xs ++ ys) i ≡ None
    → slice_get xs i ≡ None
get-join_none [] ys i h = refl
get-join_none (x ∷ xs) ys zero h = cc
get-join_none (x ∷ xs) ys (suc i) h = get-join_none xs ys i h

-- two neighbours of two joined lists stand in the one, or in the other, or at the seam
pub get-join_two : {A : Type 0} (xs ys : List A) (i : ℕ) (u v : A) → slice_get (xs ++ ys) i ≡ Some u
    → slice_get (xs ++ ys) (suc i) ≡ Some v
    → ((slice_get xs i ≡ Some u) × (slice_get xs (suc i) ≡ Some v))
    ⊎ ((slice_get xs i ≡ Some u) × (slice_get xs (suc i) ≡ None) × (slice_get ys 0 ≡ Some v))
    ⊎ ((j : ℕ) × (i ≡ length xs + j) × (slice_get ys j ≡ Some u)
    × (slice_get ys (suc j) ≡ Some v))
get-join_two [] ys i u v h k = inr (inr (i, omega arith, h, k))
get-join_two (x ∷ []) ys zero u v h k = inr (inl (h, refl, k))
get-join_two (x ∷ z ∷ xs) ys zero u v h k = inl (h, k)
get-join_two (x ∷ xs) ys (suc i) u v h k =
    elim (get-join_two xs ys i u v h k) [
      | inl a ↦ inl a
      | inr b ↦ elim b [
        | inl c ↦ inr (inl c)
        | inr d ↦ inr (inr (d.0, (let e = d.1 in omega arith), d.2, d.3))
      ]
    ]

-- the last of two joined lists
pub get-join_last : {A : Type 0} (xs ys : List A) (i : ℕ) (u : A) → slice_get (xs ++ ys) i ≡ Some u
    → slice_get (xs ++ ys) (suc i) ≡ None
    → ((slice_get xs i ≡ Some u) × (slice_get xs (suc i) ≡ None) × (ys ≡ []))
    ⊎ ((j : ℕ) × (i ≡ length xs + j) × (slice_get ys j ≡ Some u)
    × (slice_get ys (suc j) ≡ None))
get-join_last [] ys i u h k = inr (i, omega arith, h, k)
get-join_last (x ∷ []) [] zero u h k = inl (h, refl, refl)
get-join_last (x ∷ []) (y ∷ ys) zero u h k = cc
get-join_last (x ∷ z ∷ xs) ys zero u h k = cc
get-join_last (x ∷ xs) ys (suc i) u h k =
    elim (get-join_last xs ys i u h k) [
      | inl a ↦ inl a
      | inr d ↦ inr (d.0, (let e = d.1 in omega arith), d.2, d.3)
    ]

-- the first k of a list
pub get-take : {A : Type 0} (k : ℕ) (xs : List A) (i : ℕ) (u : A) → slice_get (take k xs) i ≡ Some u
    → (i < k) × (slice_get xs i ≡ Some u)
get-take zero xs i u h = cc
get-take (suc k) [] i u h = cc
get-take (suc k) (x ∷ xs) zero u h = (omega arith, h)
get-take (suc k) (x ∷ xs) (suc i) u h =
    let r = get-take k xs i u h in ((let e = r.0 in omega arith), r.1)

pub get-take_in : {A : Type 0} (k : ℕ) (xs : List A) (i : ℕ) → i < k
    → slice_get (take k xs) i ≡ slice_get xs i
get-take_in zero xs i h = absurd (omega arith)
get-take_in (suc k) [] i h = refl
get-take_in (suc k) (x ∷ xs) zero h = refl
get-take_in (suc k) (x ∷ xs) (suc i) h = get-take_in k xs i (omega arith)

pub get-take_none : {A : Type 0} (k : ℕ) (xs : List A) (i : ℕ) → slice_get (take k xs) i ≡ None
    → (k ≤ i) ⊎ (slice_get xs i ≡ None)
get-take_none zero xs i h = inl (omega arith)
get-take_none (suc k) [] i h = inr refl
get-take_none (suc k) (x ∷ xs) zero h = cc
get-take_none (suc k) (x ∷ xs) (suc i) h =
    elim (get-take_none k xs i h) [ inl a ↦ inl (omega arith) | inr b ↦ inr b ]

-- an element below another is there
pub get_below : {A : Type 0} (xs : List A) (i j : ℕ) (u : A) → slice_get xs j ≡ Some u → i ≤ j
    → (v : A) × (slice_get xs i ≡ Some v)
get_below [] i j u h le = cc
get_below (x ∷ xs) zero j u h le = (x, refl)
get_below (x ∷ xs) (suc i) zero u h le = absurd (omega arith)
get_below (x ∷ xs) (suc i) (suc j) u h le = get_below xs i j u h (omega arith)

pub nonempty : {A : Type 0} (xs : List A) → xs ≢ [] → (v : A) × (slice_get xs 0 ≡ Some v)
nonempty [] h = absurd (h refl)
nonempty (x ∷ xs) h = (x, refl)
