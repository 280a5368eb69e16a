-- A word of digits, read from the left.
use Rattle.std.proofs.Common.{◌≡◌, ◌≤◌, ◌<◌, ◌+◌, ◌*◌, ◌-◌, ◌^◌, ◌&&◌, ℕ, zero, suc, Bool, true, false, List, [], ◌∷◌, None, Some, length, take, get_or, refl, ap, sym, ◌∙◌, arith, add-one}
use Rattle.std.proofs.lemmas.Bool.Decides.{nat_tests}
use Rattle.std.proofs.lemmas.List.{take_all}
use Rattle.std.proofs.lemmas.Int.Digits.{digits_value_more}
use Rattle.std.proofs.lemmas.Str.Parse.{digits_value-take-le}
use Rattle.std.specs.Char.{is_ascii_digit, digit_value}
use Rattle.std.specs.Str.{all_ascii_digits}
use Rattle.std.specs.Str.Parse.{digits_value}
use Rattle.lk_text.specs.Numbers.{number_of}

pub and_split : (a b : Bool) → (a && b) ≡ true → (a ≡ true) × (b ≡ true)
and_split true b h = (refl, h)
and_split false b h = (cc, cc)

pub and_false : (b : Bool) → (b && false) ≡ false
and_false true = refl
and_false false = refl

digits_next : (ds : List ℕ) (i : ℕ) → i < length ds → all_ascii_digits (take i ds) ≡ true → is_ascii_digit (get_or ds i 0) ≡ true → all_ascii_digits (take (suc i) ds) ≡ true
digits_next [] i below so_far next = absurd (omega arith)
digits_next (d ∷ ds) zero below so_far next = rw next refl
digits_next (d ∷ ds) (suc i) below so_far next =
    let parts = and_split (is_ascii_digit d) (all_ascii_digits (take i ds)) so_far in
    rw parts.0 (digits_next ds i (omega arith) parts.1 next)

pub digits_more : (ds : List ℕ) (i : ℕ) → i < length ds → all_ascii_digits (take i ds) ≡ true → is_ascii_digit (get_or ds i 0) ≡ true → all_ascii_digits (take (i + 1) ds) ≡ true
digits_more ds i below so_far next = rw add-one (digits_next ds i below so_far next)

no_digit : (ds : List ℕ) (i : ℕ) → i < length ds → is_ascii_digit (get_or ds i 0) ≡ false → all_ascii_digits ds ≡ false
no_digit [] i below h = absurd (omega arith)
no_digit (d ∷ ds) zero below h = rw h refl
no_digit (d ∷ ds) (suc i) below h = rw (no_digit ds i (omega arith) h) (and_false (is_ascii_digit d))

pub value_of_digit : (c : ℕ) → 48 ≤ c → c ≤ 57 → digit_value c ≡ c - 48
value_of_digit c low high = grind (arith, nat_tests)

pub value_more : (ds : List ℕ) (i value : ℕ) → i < length ds → 48 ≤ get_or ds i 0 → get_or ds i 0 ≤ 57 → value ≡ digits_value 10 (take i ds)
    → value * 10 + (get_or ds i 0 - 48) ≡ digits_value 10 (take (i + 1) ds)
value_more ds i value below low high is =
    sym (digits_value_more 10 ds i below ∙ ap (λ v. digits_value 10 (take i ds) * 10 + v) (value_of_digit _ low high) ∙ ap (λ v. v * 10 + (get_or ds i 0 - 48)) (sym is))

-- a word with another byte is no number
pub number_of-other : (word : List ℕ) (i : ℕ) → i < length word → is_ascii_digit (get_or word i 0) ≡ false → number_of word ≡ None
number_of-other word i below h = let none = no_digit word i below h in grind (arith, none)

-- nor is a word of which a front is too large
pub number_of-large : (word : List ℕ) (i : ℕ) → 2 ^ 64 ≤ digits_value 10 (take i word) → number_of word ≡ None
number_of-large word i large = let most = digits_value-take-le 10 word i (omega arith) in grind (arith, nat_tests, large, most)

pub number_of-large_more : (word : List ℕ) (i value : ℕ) → i < length word → 48 ≤ get_or word i 0 → get_or word i 0 ≤ 57 → value ≡ digits_value 10 (take i word)
    → (value * 10 + (get_or word i 0 - 48) < 2 ^ 64 → ⊥) → number_of word ≡ None
number_of-large_more word i value below low high is over =
    let large : 2 ^ 64 ≤ value * 10 + (get_or word i 0 - 48) = omega (arith, over) in
    number_of-large word (i + 1) (rw (value_more word i value below low high is) at large)

pub number_of-digits : (word : List ℕ) (i value : ℕ) → 0 < length word → length word ≤ 20 → length word ≤ i → all_ascii_digits (take i word) ≡ true
    → value ≡ digits_value 10 (take i word) → value < 2 ^ 64 → number_of word ≡ Some value
number_of-digits word i value some short whole digits is fits =
    let all = take_all i word whole in
    let digits' : all_ascii_digits word ≡ true = rw all at digits in
    let is' : value ≡ digits_value 10 word = rw all at is in
    let fits' : digits_value 10 word < 2 ^ 64 = rw is' at fits in
    rw is' (grind (arith, nat_tests, some, short, digits', fits'))
