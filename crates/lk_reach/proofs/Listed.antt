-- Lists of the values of functions, and numbers at positions.
use Rattle.std.proofs.Common.{◌≡◌, ◌≢◌, ℕ, zero, suc, ◌<◌, ◌≤◌, ◌+◌, ◌*◌, ◌/◌, ◌%◌, List, [], ◌∷◌}
use Rattle.std.proofs.Common.{◌++◌, refl, sym, ◌∙◌, ap, subst, length, Some, None, arith, inl, inr}
use Rattle.std.proofs.Common.{get_or, length-append, slice_get}
use Rattle.std.proofs.{Math.Seq.get_or-append_seam, lemmas.List.get_or_append_left}
use Rattle.std.proofs.lemmas.Option.{slice_get_past}
use Rattle.lk_reach.proofs.Names.{cases_lt, get-append_new, firsts, none}
use Rattle.lk_reach.specs.Numbers.{Pads, Puts, PutsFour, joined, listed, lower_halves, nth}
use Rattle.lk_reach.specs.{Numbers.upper_halves, declared.numbers.fours.Fours.Fours}

-- a list of values

pub listed_length : {A : Type 0} → (n : ℕ) (f : ℕ → A) → length (listed n f) ≡ n
listed_length zero f = refl
listed_length (suc n) f =
    let before = listed_length n f in
    let more = length-append (listed n f) (f n ∷ []) in
    omega (arith, before, more)

pub listed_same : {A : Type 0} → (n : ℕ) (f g : ℕ → A) → ((i : ℕ) → i < n → f i ≡ g i) → listed n f ≡ listed n g
listed_same zero f g same = refl
listed_same (suc n) f g same =
    ap (λ xs. xs ++ f n ∷ []) (listed_same n f g (λ i low. same i (omega (arith, low))))
    ∙ ap (λ x. listed n g ++ x ∷ []) (same n (omega arith))

pub earlier : {A : Type 0} → (xs ys : List A) (i : ℕ) (x : A) → slice_get xs i ≡ Some x → slice_get (xs ++ ys) i ≡ Some x
earlier [] ys i x e = cc
earlier (y ∷ xs) ys zero x e = e
earlier (y ∷ xs) ys (suc i) x e = earlier xs ys i x e

pub listed_get : {A : Type 0} → (n : ℕ) (f : ℕ → A) (i : ℕ) → i < n → slice_get (listed n f) i ≡ Some (f i)
listed_get zero f i low = absurd (omega (arith, low))
listed_get (suc n) f i low = elim (cases_lt i n) [
  | inl before ↦ earlier (listed n f) (f n ∷ []) i (f i) (listed_get n f i before)
  | inr not_so ↦
      let e : i ≡ n = omega (arith, low, not_so) in
      subst (λ (h : ℕ). slice_get (listed n f ++ f n ∷ []) h ≡ Some (f h)) (sym e)
      (subst (λ (h : ℕ). slice_get (listed n f ++ f n ∷ []) h ≡ Some (f n)) (listed_length n f)
      (get-append_new (listed n f) (f n)))
]

pub listed_past : {A : Type 0} → (n : ℕ) (f : ℕ → A) (i : ℕ) → n ≤ i → slice_get (listed n f) i ≡ None
listed_past n f i high =
    let size = listed_length n f in
    slice_get_past (listed n f) i (omega (arith, high, size))

-- one value more
pub listed_more : {A : Type 0} → (n : ℕ) (f g : ℕ → A) (x : A) → ((i : ℕ) → i < n → g i ≡ f i) → g n ≡ x
    → listed (n + 1) g ≡ listed n f ++ x ∷ []
listed_more n f g x same now =
    let next : n + 1 ≡ suc n = omega arith in
    ap (λ k. listed k g) next ∙ ap (λ xs. xs ++ g n ∷ []) (listed_same n g f same)
    ∙ ap (λ y. listed n f ++ y ∷ []) now

-- a list goes on with zeros

pub one_zero : {A : Type 0} → (xs : List A) (d : A) (i : ℕ) → get_or (xs ++ d ∷ []) i d ≡ get_or xs i d
one_zero [] d zero = refl
one_zero [] d (suc i) = refl
one_zero (x ∷ xs) d zero = refl
one_zero (x ∷ xs) d (suc i) = one_zero xs d i

pub past : {A : Type 0} → (xs : List A) (d : A) (i : ℕ) → length xs ≤ i → get_or xs i d ≡ d
past [] d i high = refl
past (x ∷ xs) d zero high = absurd (omega (arith, high))
past (x ∷ xs) d (suc i) high = past xs d i (omega (arith, high))

pub push_puts : {A : Type 0} → (d : A) (old padded new : List A) (at : ℕ) (x : A) → Pads d old padded at
    → length old ≤ at → new ≡ padded ++ x ∷ [] → Puts d old new at x
push_puts d old padded new at x pads low is =
    let long = pads.long low in
    record {
      here = ap (λ xs. get_or xs at d) is
          ∙ subst (λ (h : ℕ). get_or (padded ++ x ∷ []) h d ≡ x) long (get_or-append_seam padded x [] d);
      others = λ i ne. ap (λ xs. get_or xs i d) is ∙ elim (cases_lt i (length padded)) [
        | inl before ↦ get_or_append_left padded (x ∷ []) d i before ∙ pads.same i
        | inr not_so ↦
            let size = length-append padded (x ∷ []) in
            let up : length padded < i = higher i not_so long ne in
            past (padded ++ x ∷ []) d i (omega (arith, size, up))
            ∙ sym (past padded d i (omega (arith, up))) ∙ pads.same i
      ];
    }
  where
    higher : (i : ℕ) → length padded ≤ i → length padded ≡ at → i ≢ at → length padded < i
    higher i high long ne = elim (cases_lt (length padded) i) [
      | inl up ↦ up
      | inr not_so ↦ absurd (ne (omega (arith, high, long, not_so)))
    ]

-- four numbers

four_is : (xs : List ℕ) → length xs ≡ 4 → firsts xs ≡ xs
four_is [] e = absurd (omega (arith, e))
four_is (a ∷ []) e = absurd (omega (arith, e))
four_is (a ∷ b ∷ []) e = absurd (omega (arith, e))
four_is (a ∷ b ∷ c ∷ []) e = absurd (omega (arith, e))
four_is (a ∷ b ∷ c ∷ d ∷ []) e = refl
four_is (a ∷ b ∷ c ∷ d ∷ f ∷ xs) e = absurd (omega (arith, e))

-- one of four numbers, by its halves
pub joined_part : (ls us : List ℕ) (i : ℕ) → i < 4 → slice_get (joined ls us) i ≡ Some (nth ls i + 65536 * nth us i)
joined_part ls us zero low = refl
joined_part ls us (suc zero) low = refl
joined_part ls us (suc (suc zero)) low = refl
joined_part ls us (suc (suc (suc zero))) low = refl
joined_part ls us (suc (suc (suc (suc i)))) low = absurd (omega (arith, low))

-- and one behind them
pub behind_four : (ls us xs : List ℕ) (i j : ℕ) → i ≡ suc (suc (suc (suc j))) → slice_get (joined ls us ++ xs) i ≡ slice_get xs j
behind_four ls us xs i j e = ap (λ (h : ℕ). slice_get (joined ls us ++ xs) h) e

halves : (n : ℕ) → n % 65536 + 65536 * (n / 65536) ≡ n
halves n = omega arith

joined_halves : (xs : List ℕ) → joined (lower_halves xs) (upper_halves xs) ≡ firsts xs
joined_halves xs =
    ap (λ (a : ℕ). a ∷ (nth xs 1 % 65536 + 65536 * (nth xs 1 / 65536)) ∷ (nth xs 2 % 65536 + 65536 * (nth xs 2 / 65536))
    ∷ (nth xs 3 % 65536 + 65536 * (nth xs 3 / 65536)) ∷ []) (halves (nth xs 0))
    ∙ ap (λ (a : ℕ). nth xs 0 ∷ a ∷ (nth xs 2 % 65536 + 65536 * (nth xs 2 / 65536))
    ∷ (nth xs 3 % 65536 + 65536 * (nth xs 3 / 65536)) ∷ []) (halves (nth xs 1))
    ∙ ap (λ (a : ℕ). nth xs 0 ∷ nth xs 1 ∷ a ∷ (nth xs 3 % 65536 + 65536 * (nth xs 3 / 65536)) ∷ []) (halves (nth xs 2))
    ∙ ap (λ (a : ℕ). nth xs 0 ∷ nth xs 1 ∷ nth xs 2 ∷ a ∷ []) (halves (nth xs 3))

pub puts_four : (old new : Fours) (at : ℕ) (four lower upper : List ℕ) → lower ≡ lower_halves four → upper ≡ upper_halves four
    → Puts none old.lower.items new.lower.items at lower → Puts none old.upper.items new.upper.items at upper
    → PutsFour old new at four
puts_four old new at four lower upper low high l u = record {
  here = both (l.here ∙ low) (u.here ∙ high) ∙ joined_halves four;
  others = λ i ne. both (l.others i ne) (u.others i ne);
}
  where
    both : {ls ms us vs : List ℕ} → ls ≡ ms → us ≡ vs → joined ls us ≡ joined ms vs
    both {ls} {ms} {us} {vs} e f = ap (λ (xs : List ℕ). joined xs us) e ∙ ap (λ (xs : List ℕ). joined ms xs) f

pub eight_is : (xs : List ℕ) → length xs ≡ 8
    → nth xs 0 ∷ nth xs 1 ∷ nth xs 2 ∷ nth xs 3 ∷ nth xs 4 ∷ nth xs 5 ∷ nth xs 6 ∷ nth xs 7 ∷ [] ≡ xs
eight_is [] e = absurd (omega (arith, e))
eight_is (a ∷ []) e = absurd (omega (arith, e))
eight_is (a ∷ b ∷ []) e = absurd (omega (arith, e))
eight_is (a ∷ b ∷ c ∷ []) e = absurd (omega (arith, e))
eight_is (a ∷ b ∷ c ∷ d ∷ xs) e = ap (λ (ys : List ℕ). a ∷ b ∷ c ∷ d ∷ ys) (four_is xs (omega (arith, e)))
