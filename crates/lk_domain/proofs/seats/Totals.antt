-- Sums over the seats, one of which changes; and that each number is one seat's.
use Rattle.std.proofs.Common.{◌≡◌, ◌≢◌, ℕ, zero, suc, ◌+◌, ◌<◌, ◌≤◌, Bool, true, false, List, []}
use Rattle.std.proofs.Common.{◌∷◌, ◌++◌, map, set, Option, Some, sym, refl, ap, ◌∙◌, arith, eq-eqb}
use Rattle.std.proofs.Common.{ne_eqb, le-ltb, lt-ltb, if◌then◌else◌, nat_lt}
use Rattle.lk_domain.proofs.Names.{get_elem?, dite, some, some-injective, some-ne-none, ℕ_discrete}
use Rattle.lk_domain.proofs.Names.{listed, numbers, times, View}
use native.Mathlib.Decide.{dec_lt}
use Rattle.lk_domain.specs.{Runs.IsNobodys, Views.{total, number_of, once_below}}

module _ {A : Type 0} (g : A → ℕ) where
  pub total-append : (l m : List A) → total g (l ++ m) ≡ total g l + total g m
  total-append [] m = omega arith
  total-append (x ∷ xs) m = omega (arith, total-append xs m)

  pub total-set : (l : List A) (j : ℕ) (v w : A) → get_elem? l j ≡ some v
      → total g (set l j w) + g v ≡ total g l + g w
  total-set [] j v w e = absurd (some-ne-none v (sym e))
  total-set (x ∷ xs) zero v w e = omega (arith, ap g (some-injective x v e))
  total-set (x ∷ xs) (suc j) v w e = omega (arith, total-set xs j v w e)

  pub term_le : (l : List A) (j : ℕ) (v : A) → get_elem? l j ≡ some v → g v ≤ total g l
  term_le [] j v e = absurd (some-ne-none v (sym e))
  term_le (x ∷ xs) zero v e = omega (arith, ap g (some-injective x v e))
  term_le (x ∷ xs) (suc j) v e = omega (arith, term_le xs j v e)

  pub terms_le : (l : List A) (j k : ℕ) (v u : A) → k ≢ j → get_elem? l j ≡ some v
      → get_elem? l k ≡ some u → g v + g u ≤ total g l
  terms_le [] j k v u n e d = absurd (some-ne-none v (sym e))
  terms_le (x ∷ xs) zero zero v u n e d = absurd (n refl)
  terms_le (x ∷ xs) zero (suc k) v u n e d = omega (arith, ap g (some-injective x v e), term_le xs k u d)
  terms_le (x ∷ xs) (suc j) zero v u n e d = omega (arith, ap g (some-injective x u d), term_le xs j v e)
  terms_le (x ∷ xs) (suc j) (suc k) v u n e d = omega (arith, terms_le xs j k v u (λ h. n (ap suc h)) e d)

  -- a change of one element that does not change its term
  pub total-same : (l : List A) (j : ℕ) (v w : A) → get_elem? l j ≡ some v → g v ≡ g w
      → total g (set l j w) ≡ total g l
  total-same l j v w e s = omega (arith, total-set l j v w e)

pub times-append : (p : ℕ) (ys zs : List ℕ) → times p (ys ++ zs) ≡ times p ys + times p zs
times-append p [] zs = omega arith
times-append p (y ∷ ys) zs = omega (arith, times-append p ys zs)

pub times-here : (p : ℕ) (ys : List ℕ) → times p (p ∷ ys) ≡ 1 + times p ys
times-here p ys = ap (λ b. (if b then 1 else 0) + times p ys) (eq-eqb p p refl)

pub times-else : (p q : ℕ) (ys : List ℕ) → q ≢ p → times p (q ∷ ys) ≡ times p ys
times-else p q ys ne = ap (λ b. (if b then 1 else 0) + times p ys) (ne_eqb q p ne) ∙ (let z : 0 + times p ys ≡ times p ys = omega arith in z)

-- a seat's own number is one of its
pub counted : (p : ℕ) (v : View) → v.who.number ≡ Some p → 1 ≤ times p (numbers v)
counted p v e =
    omega (arith, ap (λ (o : Option ℕ). times p (listed o ++ map number_of v.who.ended)) e, times-here p (map number_of v.who.ended))

pub once_le : (p n : ℕ) → once_below p n ≤ 1
once_le p n = bounded (nat_lt p n)
  where
    bounded : (b : Bool) → (if b then 1 else 0) ≤ 1
    bounded true = omega arith
    bounded false = omega arith

pub once_no : (p n : ℕ) → n ≤ p → once_below p n ≡ 0
once_no p n h = ap (λ b. if b then 1 else 0) (le-ltb p n h)

pub once_yes : (p n : ℕ) → p < n → once_below p n ≡ 1
once_yes p n h = ap (λ b. if b then 1 else 0) (lt-ltb p n h)

pub once_more : (p n : ℕ) → once_below p (n + 1) ≡ once_below p n + times p (n ∷ [])
once_more p n =
    dite (ℕ_discrete n p)
    (λ e. omega (arith, once_yes p (n + 1) (omega arith), once_no p n (omega arith), ap (λ (x : ℕ). times p (x ∷ [])) e, times-here p []))
    (λ ne. dite (dec_lt p n)
    (λ h. omega (arith, once_yes p (n + 1) (omega arith), once_yes p n h, times-else p n [] ne))
    (λ h. omega (arith, once_no p (n + 1) (omega arith), once_no p n (omega arith), times-else p n [] ne)))

module _ (vs : List View) (roll : ℕ)
    (once : (p : ℕ) → total (λ v. times p (numbers v)) vs ≡ once_below p roll) where
  -- two seats have different numbers
  pub apart : (i j : ℕ) (v u : View) (p : ℕ) → get_elem? vs i ≡ some v → get_elem? vs j ≡ some u
      → v.who.number ≡ Some p → u.who.number ≡ Some p → j ≡ i
  apart i j v u p a b e d =
      dite (ℕ_discrete j i) (λ h. h)
      (λ n. absurd (omega (arith, terms_le (λ x. times p (numbers x)) vs i j v u n a b, counted p v e, counted p u d, once p, once_le p roll)))

  -- a seat's number was drawn
  pub drawn : (i : ℕ) (v : View) (p : ℕ) → get_elem? vs i ≡ some v → v.who.number ≡ Some p
      → p < roll
  drawn i v p at e =
      dite (dec_lt p roll) (λ h. h)
      (λ h. absurd (omega (arith, term_le (λ x. times p (numbers x)) vs i v at, counted p v e, once p, once_no p roll (omega arith))))

  -- a number that was not drawn is nobody's
  pub nobodys : (p : ℕ) → roll ≤ p → IsNobodys vs p
  nobodys p h i v at e = let z = drawn i v p at e in omega arith
