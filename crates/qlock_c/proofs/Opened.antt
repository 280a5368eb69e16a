-- What stands in a list up to a place, one place more each turn of a loop.
use Rattle.std.proofs.Common.{◌≡◌, ◌≢◌, ◌<◌, ◌≤◌, ◌+◌, ℕ, zero, suc, List, [], ◌∷◌, ◌++◌, Some, length, length-append, map, take, slice_index_or, slice_set, refl, sym, ap, ◌∙◌, subst, inl, inr, arith, eqb}
use Rattle.std.specs.List.{slice_get}
use Rattle.std.proofs.lemmas.Bool.{cases_Bool, eqb-true, eq-eqb, true≢false}
use Rattle.std.proofs.lemmas.Option.{none-some, same_Some}
use Rattle.lk_names.proofs.Places.{slice_get-set_same, slice_get-set_other}
use Rattle.lk_domain.specs.declared.domain.Domain.{Domain}
use Rattle.lk_port.specs.Opened.{ArePortsOf, IsPortOf}
use Rattle.lk_port.specs.declared.port.Port.{Port}

-- a place with an item is within the list, and an index reads the item
pub within : {X : Type 0} (xs : List X) (i : ℕ) (x : X) → slice_get xs i ≡ Some x → i < length xs
within [] i x e = absurd (none-some x e)
within (y ∷ ys) zero x e = omega arith
within (y ∷ ys) (suc i) x e = let z = within ys i x e in omega (arith, z)

pub read_at : {X : Type 0} (xs : List X) (i : ℕ) (x d : X) → slice_get xs i ≡ Some x → slice_index_or xs i d ≡ x
read_at [] i x d e = absurd (none-some x e)
read_at (y ∷ ys) zero x d e = same_Some y x e
read_at (y ∷ ys) (suc i) x d e = read_at ys i x d e

stands_at : {X : Type 0} (xs : List X) (i : ℕ) (d : X) → i < length xs → slice_get xs i ≡ Some (slice_index_or xs i d)
stands_at [] i d low = absurd (omega (arith, low))
stands_at (y ∷ ys) zero d low = refl
stands_at (y ∷ ys) (suc i) d low = stands_at ys i d (omega (arith, low))

-- each of the first n items is so, at its place
abbrev pub AreFirst : {X : Type 0} → (ℕ → X → Type 0) → ℕ → List X → Type 0
AreFirst {X} P n xs = (i : ℕ) (x : X) → i < n → slice_get xs i ≡ Some x → P i x

pub first_more : {X : Type 0} (P : ℕ → X → Type 0) (n : ℕ) (xs : List X) → AreFirst P n xs
    → ((x : X) → slice_get xs n ≡ Some x → P n x) → AreFirst P (n + 1) xs
first_more P n xs h last i x low at =
    elim (cases_Bool (eqb i n)) [
      | inl met ↦
          (let same : i ≡ n = eqb-true i n met in
          subst (λ (k : ℕ). P k x) (sym same) (last x (ap (slice_get xs) (sym same) ∙ at)))
      | inr unmet ↦
          (let apart : i ≢ n = λ e. true≢false (sym (eq-eqb i n e) ∙ unmet) in
          h i x (omega (arith, low, apart)) at)
    ]

pub first_set : {X : Type 0} (P : ℕ → X → Type 0) (n : ℕ) (xs : List X) (v : X) → n < length xs → AreFirst P n xs → P n v
    → AreFirst P (n + 1) (slice_set xs n v)
first_set P n xs v low h is =
    first_more P n (slice_set xs n v)
    (λ i x below at. h i x below (sym (slice_get-set_other v xs n i (λ e. absurd (omega (arith, below, e)))) ∙ at))
    (λ x at. subst (P n) (same_Some v x (sym (slice_get-set_same v xs n (slice_index_or xs n v) (stands_at xs n v low)) ∙ at)) is)

map_next : {X Y : Type 0} (f : X → Y) (xs : List X) (n : ℕ) (d : X) → n < length xs
    → map f (take (suc n) xs) ≡ map f (take n xs) ++ f (slice_index_or xs n d) ∷ []
map_next f [] n d low = absurd (omega (arith, low))
map_next f (x ∷ xs) zero d low = refl
map_next f (x ∷ xs) (suc n) d low = ap (λ ys. f x ∷ ys) (map_next f xs n d (omega (arith, low)))

pub map_more : {X Y : Type 0} (f : X → Y) (xs : List X) (n : ℕ) (d : X) → n < length xs
    → map f (take (n + 1) xs) ≡ map f (take n xs) ++ f (slice_index_or xs n d) ∷ []
map_more f xs n d low =
    let next : n + 1 ≡ suc n = omega arith in
    ap (λ (m : ℕ). map f (take m xs)) next ∙ map_next f xs n d low

pub take_all : {X : Type 0} (xs : List X) (n : ℕ) → length xs ≤ n → take n xs ≡ xs
take_all [] zero low = refl
take_all [] (suc n) low = refl
take_all (x ∷ xs) zero low = absurd (omega (arith, low))
take_all (x ∷ xs) (suc n) low = ap (λ ys. x ∷ ys) (take_all xs n (omega (arith, low)))

-- ports without the last one, and that one

before_last : {X : Type 0} (xs : List X) (x d : X) (i : ℕ) → i < length xs → slice_index_or (xs ++ x ∷ []) i d ≡ slice_index_or xs i d
before_last [] x d i low = absurd (omega (arith, low))
before_last (y ∷ ys) x d zero low = refl
before_last (y ∷ ys) x d (suc i) low = before_last ys x d i (omega (arith, low))

last_of : {X : Type 0} (xs : List X) (x d : X) → slice_index_or (xs ++ x ∷ []) (length xs) d ≡ x
last_of [] x d = refl
last_of (y ∷ ys) x d = last_of ys x d

pub fewer_ports : (domain : Domain) (n : ℕ) (ps : List Port) (p : Port) → ArePortsOf domain n (ps ++ p ∷ []) → ArePortsOf domain n ps
fewer_ports domain n ps p h i d low =
    subst (IsPortOf domain n i) (before_last ps p d i low) (h i d (omega (arith, low, length-append ps (p ∷ []))))

pub last_port : (domain : Domain) (n : ℕ) (ps : List Port) (p : Port) → ArePortsOf domain n (ps ++ p ∷ []) → IsPortOf domain n (length ps) p
last_port domain n ps p h =
    subst (IsPortOf domain n (length ps)) (last_of ps p p) (h (length ps) p (omega (arith, length-append ps (p ∷ []))))
