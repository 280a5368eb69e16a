-- A number is read exactly as it is printed.
use Rattle.std.proofs.Common.{Bool, true, false, ◌≡◌, ◌<◌, ◌==◌, ◌^◌, ◌&&◌, ℕ, List, [], ◌∷◌, Option, None, Some, length, refl, sym, ap, ◌∙◌, subst, arith, decimal, get_or, nat_lt, nat_le, if◌then◌else◌}
use Rattle.std.proofs.lemmas.Bool.Decides.{nat_tests}
use Rattle.std.proofs.lemmas.Bool.{ne_eqb, eq-eqb}
use Rattle.std.proofs.lemmas.Fmt.{decimal_is_IsNumeral, decimal-digits_value, decimal_digit, first_decimal, length-decimal-le, decimal_nonempty}
use Rattle.std.proofs.lemmas.Str.Parse.{IsNumeralModel, numerals_by_value, tells_all_ascii_digits}
use Rattle.std.specs.Str.{all_ascii_digits}
use Rattle.std.specs.Str.Parse.{digits_value}
use Rattle.lk_text.specs.Numbers.{number_of, is_number}
use Rattle.lk_text.proofs.NumberLemmas.{and_split}
use Rattle.lk_audit_forms.specs.Parts.{has_leading_zero, plain_number, small_number, if_some}

own : IsNumeralModel (λ ds. all_ascii_digits ds ≡ true) (digits_value 10)
own = numerals_by_value _ tells_all_ascii_digits

-- what is printed is read

no_zero : (word : List ℕ) → 48 < get_or word 0 0 → has_leading_zero word ≡ false
no_zero [] h = refl
no_zero (b ∷ []) h = refl
no_zero (b ∷ c ∷ word) h = ne_eqb b 48 (λ e. absurd (omega (arith, h, e)))

printed_plain : (n : ℕ) → n < 2 ^ 64 → has_leading_zero (decimal n) ≡ false
printed_plain n h = by_size (nat_lt 0 n) refl
  where
    by_size : (t : Bool) → nat_lt 0 n ≡ t → has_leading_zero (decimal n) ≡ false
    by_size true some = no_zero (decimal n) (first_decimal n (grind (arith, nat_tests, some)) h)
    by_size false none =
        let zero : n < 10 = grind (arith, nat_tests, none) in
        rw (decimal_digit n zero) refl

printed_number : (n : ℕ) → n < 2 ^ 64 → number_of (decimal n) ≡ Some n
printed_number n h =
    let numeral = decimal_is_IsNumeral n h in
    let digits : all_ascii_digits (decimal n) ≡ true = own.from (decimal n) numeral.0.1 in
    let some = decimal_nonempty n h in
    let short = length-decimal-le 20 n (omega arith) (omega arith) h in
    let value = numeral.1 in
    grind (arith, nat_tests, digits, some, short, value, h)

pub plain_printed : (n : ℕ) → n < 2 ^ 64 → plain_number (decimal n) ≡ Some n
plain_printed n h = rw (printed_plain n h) (printed_number n h)

pub small_printed : (n : ℕ) → n < 2 ^ 32 → small_number (decimal n) ≡ Some n
small_printed n h =
    let below : n < 2 ^ 64 = omega (arith, h) in
    let test : nat_lt n (2 ^ 32) ≡ true = grind (arith, nat_tests, h) in
    rw (plain_printed n below, test) refl

-- what is read is as it is printed

one_byte : (word : List ℕ) → has_leading_zero word ≡ false → get_or word 0 0 ≡ 48 → length word ≡ 1
one_byte [] h is = absurd (omega (arith, is))
one_byte (b ∷ []) h is = refl
one_byte (b ∷ c ∷ word) h is = (let yes : (b == 48) ≡ true = eq-eqb b 48 is in cc)

number_parts : (word : List ℕ) (n : ℕ) → number_of word ≡ Some n
    → (all_ascii_digits word ≡ true) × (0 < length word) × (digits_value 10 word ≡ n) × (n < 2 ^ 64)
number_parts word n is = by_test (is_number word) refl is
  where
    by_test : (t : Bool) → is_number word ≡ t → (if t then Some (digits_value 10 word) else None) ≡ Some n
        → (all_ascii_digits word ≡ true) × (0 < length word) × (digits_value 10 word ≡ n) × (n < 2 ^ 64)
    by_test false h e = cc
    by_test true h e =
        let one = and_split (nat_le 1 (length word)) (nat_le (length word) 20 && (all_ascii_digits word && nat_lt (digits_value 10 word) (2 ^ 64))) h in
        let two = and_split (nat_le (length word) 20) (all_ascii_digits word && nat_lt (digits_value 10 word) (2 ^ 64)) one.1 in
        let three = and_split (all_ascii_digits word) (nat_lt (digits_value 10 word) (2 ^ 64)) two.1 in
        let same : digits_value 10 word ≡ n = cc in (
          three.0,
          grind (arith, nat_tests, one.0),
          same,
          (let below : digits_value 10 word < 2 ^ 64 = grind (arith, nat_tests, three.1) in subst (λ v. v < 2 ^ 64) same below),
        )

pub plain_read : (word : List ℕ) (n : ℕ) → plain_number word ≡ Some n → (word ≡ decimal n) × (n < 2 ^ 64)
plain_read word n is = by_test (has_leading_zero word) refl is
  where
    by_test : (t : Bool) → has_leading_zero word ≡ t → (if t then None else number_of word) ≡ Some n
        → (word ≡ decimal n) × (n < 2 ^ 64)
    by_test true h e = cc
    by_test false h e =
        let facts = number_parts word n e in
        let below : digits_value 10 word < 2 ^ 64 = subst (λ v. v < 2 ^ 64) (sym facts.2) facts.3 in
        (sym (decimal-digits_value own word facts.0 facts.1 (λ first. one_byte word h first) below) ∙ ap decimal facts.2, facts.3)

pub small_read : (word : List ℕ) (n : ℕ) → small_number word ≡ Some n → (word ≡ decimal n) × (n < 2 ^ 32)
small_read word n is = by_value (plain_number word) refl is
  where
    by_value : (o : Option ℕ) → plain_number word ≡ o
        → if_some o (λ m. if nat_lt m (2 ^ 32) then Some m else None) ≡ Some n
        → (word ≡ decimal n) × (n < 2 ^ 32)
    by_value None e h = cc
    by_value (Some m) e h = by_test (nat_lt m (2 ^ 32)) refl h
      where
        by_test : (t : Bool) → nat_lt m (2 ^ 32) ≡ t → (if t then Some m else None) ≡ Some n
            → (word ≡ decimal n) × (n < 2 ^ 32)
        by_test false low same = cc
        by_test true low same =
            let is_m : m ≡ n = cc in
            let below : m < 2 ^ 32 = grind (arith, nat_tests, low) in
            ((plain_read word m e).0 ∙ ap decimal is_m, subst (λ v. v < 2 ^ 32) is_m below)
