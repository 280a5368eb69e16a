-- Lists that have each of some, once: with one more, and with one less.
use Rattle.std.proofs.Common.{◌≡◌, ◌≢◌, ℕ, zero, suc, Some, Bool, true, false, List, [], ◌∷◌, ◌++◌}
use Rattle.std.proofs.Common.{length, slice_get, ◌⊎◌, inl, inr, arith, ap, refl, sym, ◌∙◌, subst}
use Rattle.std.proofs.Common.{if◌then◌else◌}
use Rattle.lk_law.proofs.Names.{IsEach}

-- two are the same, or not
abbrev pub Decides : Type 0 → Type 0
Decides A = (a b : A) → (a ≡ b) ⊎ (a ≢ b)

pub each_same : {A : Type 0} {P Q : A → Type 0} {xs : List A} → IsEach P xs → ((x : A) → P x → Q x)
    → ((x : A) → Q x → P x) → IsEach Q xs
each_same e to from = record {
  inside = λ i x p. to x (e.inside i x p);
  place = λ x q. e.place x (from x q);
  once = e.once;
}

-- without the first, it has each of the others
pub each_tail : {A : Type 0} {P : A → Type 0} {y : A} {xs : List A} → IsEach P (y ∷ xs)
    → IsEach (λ x. P x × (x ≢ y)) xs
each_tail {A = A} {P = P} {y = y} {xs = xs} e =
    record {
      inside = λ i x p.
          (e.inside (suc i) x p, λ q. zero_suc i (e.once zero (suc i) x (ap Some (sym q)) p));
      place = λ x p. back x p.1 (e.place x p.0);
      once = λ i j x p q. pred i j (e.once (suc i) (suc j) x p q);
    }
  where
    zero_suc : (i : ℕ) → zero ≡ suc i → ⊥
    zero_suc i q = grind arith

    pred : (i j : ℕ) → suc i ≡ suc j → i ≡ j
    pred i j q = omega (arith, q)

    back : (x : A) → x ≢ y → (i : ℕ) × (slice_get (y ∷ xs) i ≡ Some x)
        → (i : ℕ) × (slice_get xs i ≡ Some x)
    back x ne (zero, p) = absurd (ne (let q : y ≡ x = grind (arith, p) in sym q))
    back x ne (suc i, p) = (i, p)

pub each_cons : {A : Type 0} → Decides A → {Q : A → Type 0} {y : A} {ys : List A}
    → IsEach (λ x. Q x × (x ≢ y)) ys → Q y → IsEach Q (y ∷ ys)
each_cons {A = A} same {Q = Q} {y = y} {ys = ys} e q =
    record { inside = inside; place = λ x p. place x p (same x y); once = once }
  where
    first : (x : A) → Some y ≡ Some x → y ≡ x
    first x p = grind (arith, p)

    inside : (i : ℕ) (x : A) → slice_get (y ∷ ys) i ≡ Some x → Q x
    inside zero x p = subst Q (first x p) q
    inside (suc i) x p = (e.inside i x p).0

    place : (x : A) → Q x → (x ≡ y) ⊎ (x ≢ y) → (i : ℕ) × (slice_get (y ∷ ys) i ≡ Some x)
    place x p (inl s) = (zero, ap Some (sym s))
    place x p (inr n) = let r = e.place x (p, n) in (suc r.0, r.1)

    once : (i j : ℕ) (x : A) → slice_get (y ∷ ys) i ≡ Some x → slice_get (y ∷ ys) j ≡ Some x → i ≡ j
    once zero zero x p r = refl
    once zero (suc j) x p r = absurd ((e.inside j x r).1 (sym (first x p)))
    once (suc i) zero x p r = absurd ((e.inside i x p).1 (sym (first x r)))
    once (suc i) (suc j) x p r = ap suc (e.once i j x p r)

pub each_empty : {A : Type 0} {Q : A → Type 0} → ((x : A) → Q x → ⊥) → IsEach {A = A} Q []
each_empty none =
    record {
      inside = λ i x p. absurd (grind (arith, p));
      place = λ x q. absurd (none x q);
      once = λ i j x p q. absurd (grind (arith, p));
    }

-- one more
pub each_more : {A : Type 0} → Decides A → {P Q : A → Type 0} {xs : List A} (a : A) → IsEach P xs
    → (P a → ⊥) → Q a → ((x : A) → P x → Q x) → ((x : A) → Q x → x ≢ a → P x)
    → IsEach Q (xs ++ a ∷ [])
each_more {A = A} same {P = P} {Q = Q} {xs = []} a e none has to from =
    let empty : IsEach {A = A} (λ x. Q x × (x ≢ a)) [] =
    each_empty (λ x p. nothing x (e.place x (from x p.0 p.1))) in
    each_cons same empty has
  where
    nothing : (x : A) → (i : ℕ) × (slice_get ([]) i ≡ Some x) → ⊥
    nothing x p = absurd (grind (arith, p.1))
each_more {A = A} same {P = P} {Q = Q} {xs = y ∷ xs} a e none has to from =
    let here : P y = e.inside zero y refl in
    let apart : a ≢ y = (λ q. none (subst P (sym q) here)) in
    each_cons same
    (each_more same {P = λ x. P x × (x ≢ y)} {Q = λ x. Q x × (x ≢ y)} {xs = xs} a (each_tail e)
    (λ p. none p.0) (has, apart) (λ x p. (to x p.0, p.1)) (λ x q ne. (from x q.0 ne, q.1)))
    (to y here)

-- the list without the first that passes the test
abbrev pub without_first : {A : Type 0} → (A → Bool) → List A → List A
without_first t [] = []
without_first t (x ∷ xs) = if t x then xs else x ∷ without_first t xs

-- one less
pub each_less : {A : Type 0} → Decides A → {P Q : A → Type 0} {xs : List A} (a : A) (t : A → Bool)
    → ((x : A) → t x ≡ true → x ≡ a) → t a ≡ true → IsEach P xs → (Q a → ⊥)
    → ((x : A) → P x → x ≢ a → Q x) → ((x : A) → Q x → P x) → IsEach Q (without_first t xs)
each_less {A = A} same {P = P} {Q = Q} {xs = []} a t sound mine e none to from =
    each_same e (λ x p. absurd (grind (arith, (e.place x p).1))) from
each_less {A = A} same {P = P} {Q = Q} {xs = y ∷ xs} a t sound mine e none to from =
    by_test (t y) refl
    (each_less same {P = λ x. P x × (x ≢ y)} {Q = λ x. Q x × (x ≢ y)} {xs = xs} a t sound mine
    (each_tail e) (λ q. none q.0) (λ x p ne. (to x p.0 ne, p.1)) (λ x q. (from x q.0, q.1)))
  where
    by_test : (b : Bool) → t y ≡ b → IsEach (λ x. Q x × (x ≢ y)) (without_first t xs)
        → IsEach Q (if b then xs else y ∷ without_first t xs)
    by_test true h rest =
        let eq : y ≡ a = sound y h in
        each_same (each_tail e) (λ x p. to x p.0 (λ q. p.1 (q ∙ sym eq)))
        (λ x q. (from x q, λ s. none (subst Q (s ∙ eq) q)))
    by_test false h rest =
        let apart : y ≢ a =
        (λ q. absurd (let z : t y ≡ true = ap t q ∙ mine in grind (arith, z, h))) in
        each_cons same rest (to y (e.inside zero y refl) apart)

pub length_less : {A : Type 0} (xs : List A) (t : A → Bool) (a : A) (i : ℕ) → t a ≡ true
    → slice_get xs i ≡ Some a → suc (length (without_first t xs)) ≡ length xs
length_less [] t a i mine p = cc
length_less {A = A} (y ∷ xs) t a zero mine p =
    let q : y ≡ a = grind (arith, p) in
    let z : t y ≡ true = ap t q ∙ mine in
    rw z refl
length_less {A = A} (y ∷ xs) t a (suc i) mine p = by_test (t y) (length_less xs t a i mine p)
  where
    by_test : (b : Bool) → suc (length (without_first t xs)) ≡ length xs
        → suc (length (if b then xs else y ∷ without_first t xs)) ≡ suc (length xs)
    by_test true e = refl
    by_test false e = ap suc e

pub length_more : {A : Type 0} (xs : List A) (a : A) → length (xs ++ a ∷ []) ≡ suc (length xs)
length_more [] a = refl
length_more (x ∷ xs) a = ap suc (length_more xs a)

-- nobody is in an empty list
pub each_nobody : {A : Type 0} {P : A → Type 0} {xs : List A} → IsEach P xs → length xs ≡ 0
    → (x : A) → P x → ⊥
each_nobody {xs = []} e n x p = absurd (grind (arith, (e.place x p).1))
each_nobody {xs = y ∷ xs} e n x p = absurd (grind (arith, n))

pub each_none : {A : Type 0} {P : A → Type 0} {xs : List A} → IsEach P xs → ((x : A) → P x → ⊥)
    → xs ≡ []
each_none {xs = []} e none = refl
each_none {xs = y ∷ xs} e none = absurd (none y (e.inside zero y refl))

-- where all are one
pub each_one : {A : Type 0} {P : A → Type 0} {xs : List A} (a : A) → IsEach P xs → P a
    → ((x : A) → P x → x ≡ a) → length xs ≡ 1
each_one {xs = []} a e here one = absurd (grind (arith, (e.place a here).1))
each_one {xs = y ∷ []} a e here one = refl
each_one {xs = y ∷ z ∷ xs} a e here one =
    let p : z ≡ y = one z (e.inside 1 z refl) ∙ sym (one y (e.inside zero y refl)) in
    let q = e.once zero 1 y refl (ap Some p) in
    absurd (grind (arith, q))
