-- What stands in front of a line: blanks, digits, a first word.
use Rattle.std.proofs.Common.{◌≡◌, ◌≢◌, ◌≤◌, ◌<◌, ◌+◌, ◌-◌, ◌*◌, ◌^◌, ℕ, true, List, [], ◌∷◌, ◌++◌, length, refl, sym, ap, ◌∙◌, arith, append_assoc, length-append, take, drop, get_or, Some}
use Rattle.std.proofs.lemmas.Bool.Decides.{nat_tests}
use Rattle.std.proofs.lemmas.Int.Digits.{digits_value_push}
use Rattle.std.proofs.lemmas.List.{take_all}
use Rattle.std.proofs.lemmas.Str.Parse.{numerals_by_value, tells_all_ascii_digits, digits_value_short}
use Rattle.std.specs.Char.{is_ascii_digit}
use Rattle.std.specs.List.{list_all}
use Rattle.std.specs.Str.{all_ascii_digits}
use Rattle.std.specs.Str.Parse.{digits_value}
use Rattle.lk_text.proofs.NumberLemmas.{and_split, value_of_digit, value_more, number_of-digits}
use Rattle.lk_forms.specs.Words.{is_blank, is_text, is_filled, words}
use Rattle.lk_text.specs.Numbers.{number_of}
use Rattle.lk_forms.specs.Fronts.{ends_word, HasDigits, HasNumber, EndsNumber}
use Rattle.lk_forms.proofs.WordLemmas.{is_solid, words-blank, text-blank, words-word, text-word}

-- digits

all_digits-push : (ds : List ℕ) (b : ℕ) → all_ascii_digits ds ≡ true → is_ascii_digit b ≡ true → all_ascii_digits (ds ++ b ∷ []) ≡ true
all_digits-push [] b all digit = rw digit refl
all_digits-push (d ∷ ds) b all digit = let parts = and_split (is_ascii_digit d) (all_ascii_digits ds) all in rw parts.0 (all_digits-push ds b parts.1 digit)

digit_at : (b : ℕ) → is_ascii_digit b ≡ true → (48 ≤ b) × (b ≤ 57)
digit_at b digit = grind (arith, nat_tests, digit)

digits-one : (bytes : List ℕ) (n b : ℕ) (rest : List ℕ) → HasDigits bytes n (b ∷ rest) → is_ascii_digit b ≡ true → HasDigits bytes (n * 10 + (b - 48)) rest
digits-one bytes n b rest so_far digit =
    let range = digit_at b digit in record {
      digits = so_far.digits ++ b ∷ [];
      split = so_far.split ∙ sym (append_assoc so_far.digits (b ∷ []) rest);
      all = all_digits-push so_far.digits b so_far.all digit;
      value = sym (digits_value_push 10 so_far.digits b ∙ ap (λ v. digits_value 10 so_far.digits * 10 + v) (value_of_digit b range.0 range.1) ∙ ap (λ v. v * 10 + (b - 48)) (sym so_far.value));
    }

-- so few digits leave room for one more
pub digits-fit : (bytes : List ℕ) (n : ℕ) (left : List ℕ) → HasDigits bytes n left → length bytes ≤ 19 → 1 ≤ length left → n < 10 ^ 18
digits-fit bytes n left has few some =
    let size : length bytes ≡ length has.digits + length left = ap length has.split ∙ length-append has.digits left in
    let short : length has.digits ≤ 18 = omega (arith, size, few, some) in
    rw has.value (digits_value_short (numerals_by_value _ tells_all_ascii_digits) has.digits 18 has.all short)

-- the first byte that is left is a digit too
pub digits-more : (bytes : List ℕ) (n : ℕ) (left : List ℕ) (digit : ℕ) → HasDigits bytes n left → 1 ≤ length left → is_ascii_digit (get_or left 0 0) ≡ true
    → digit ≡ get_or left 0 0 - 48 → HasDigits bytes (n * 10 + digit) (take (length left - 1) (drop 1 left))
digits-more bytes n [] digit so_far some first is = absurd (omega arith)
digits-more bytes n (b ∷ rest) digit so_far some first is = rw (is, take_all (length (b ∷ rest) - 1) rest (omega arith)) (digits-one bytes n b rest so_far first)

-- a first word that is a number

solid-digit : (b : ℕ) → is_ascii_digit b ≡ true → is_solid b ≡ true
solid-digit b digit = grind (arith, nat_tests, digit)

pub solid-digits : (ds : List ℕ) → all_ascii_digits ds ≡ true → list_all is_solid ds ≡ true
solid-digits [] all = refl
solid-digits (d ∷ ds) all = let parts = and_split (is_ascii_digit d) (all_ascii_digits ds) all in rw (solid-digit d parts.0) (solid-digits ds parts.1)

pub filled-long : (word : List ℕ) → 0 < length word → is_filled word ≡ true
filled-long [] some = absurd (omega arith)
filled-long (b ∷ word) some = refl

module _ (bytes : List ℕ) (n : ℕ) (left : List ℕ) (has : HasDigits bytes n left) (some : length left ≢ length bytes) (few : length bytes ≤ 19) (fits : n < 2 ^ 64) where
  has-size : length bytes ≡ length has.digits + length left
  has-size = ap length has.split ∙ length-append has.digits left

  pub has-some : 0 < length has.digits
  has-some = let size = has-size in omega (arith, size, some)

  pub has-value : number_of has.digits ≡ Some n
  has-value =
      let size = has-size in
      let short : length has.digits ≤ 20 = omega (arith, size, few) in
      let taken = take_all (length has.digits) has.digits (omega arith) in
      let all : all_ascii_digits (take (length has.digits) has.digits) ≡ true = rw taken has.all in
      let value : n ≡ digits_value 10 (take (length has.digits) has.digits) = rw taken has.value in
      number_of-digits has.digits (length has.digits) n has-some short (omega arith) all value fits

  has-number : (rest : List ℕ) → ends_word left ≡ true → words left ≡ words rest → (is_text rest ≡ true → is_text left ≡ true) → HasNumber bytes n rest
  has-number rest ends same text =
      let solid = solid-digits has.digits has.all in record {
        word = has.digits;
        first = ap words has.split ∙ words-word has.digits left (filled-long has.digits has-some) solid ends ∙ ap (λ ws. has.digits ∷ ws) same;
        number = has-value;
        text = λ t. ap is_text has.split ∙ text-word has.digits left solid (text t);
      }

-- nothing is left behind it
pub number-last : (bytes : List ℕ) (n : ℕ) (left : List ℕ) → HasDigits bytes n left → length left ≢ length bytes → length bytes ≤ 19 → n < 2 ^ 64 → length left ≡ 0 → HasNumber bytes n left
number-last bytes n [] has some few fits none = has-number bytes n [] has some few fits [] refl refl (λ t. t)
number-last bytes n (b ∷ left) has some few fits none = absurd (omega arith)

-- a blank ends it
pub number-more : (bytes : List ℕ) (n : ℕ) (left : List ℕ) → HasDigits bytes n left → length left ≢ length bytes → length bytes ≤ 19 → n < 2 ^ 64 → 1 ≤ length left → is_blank (get_or left 0 0) ≡ true
    → HasNumber bytes n (take (length left - 1) (drop 1 left))
number-more bytes n [] has some few fits more blank = absurd (omega arith)
number-more bytes n (b ∷ rest) has some few fits more blank =
    rw (take_all (length (b ∷ rest) - 1) rest (omega arith)) (has-number bytes n (b ∷ rest) has some few fits rest blank (words-blank b rest blank) (text-blank b rest blank))

-- this byte ends it
pub number-before : (bytes : List ℕ) (n last : ℕ) (left : List ℕ) → HasDigits bytes n left → length left ≢ length bytes → length bytes ≤ 19 → n < 2 ^ 64 → 1 ≤ length left → get_or left 0 0 ≡ last
    → EndsNumber bytes last n (take (length left - 1) (drop 1 left))
number-before bytes n last [] has some few fits more is = absurd (omega arith)
number-before bytes n last (b ∷ rest) has some few fits more is =
    rw (take_all (length (b ∷ rest) - 1) rest (omega arith)) (record {
      digits = has.digits;
      split = has.split ∙ ap (λ x. has.digits ++ x ∷ rest) is;
      some = has-some bytes n (b ∷ rest) has some few fits;
      all = has.all;
      number = has-value bytes n (b ∷ rest) has some few fits;
    })

-- one digit behind a space

short-value : (b n : ℕ) → is_ascii_digit b ≡ true → n ≡ b - 48 → number_of (b ∷ []) ≡ Some n
short-value b n digit is =
    let range = digit_at b digit in
    let first : 0 * 10 + (b - 48) ≡ digits_value 10 (take 1 (b ∷ [])) = value_more (b ∷ []) 0 0 (omega arith) range.0 range.1 refl in
    let same : n ≡ 0 * 10 + (b - 48) = omega arith in
    number_of-digits (b ∷ []) 1 n (omega arith) (omega arith) (omega arith) (rw digit refl) (same ∙ first) (omega arith)

short-word : (a b n : ℕ) (rest : List ℕ) → a ≡ 32 → is_ascii_digit b ≡ true → n ≡ b - 48 → ends_word rest ≡ true → HasNumber (a ∷ b ∷ rest) n rest
short-word a b n rest space digit is ends =
    let solid = solid-digits (b ∷ []) (rw digit refl) in
    let blank : is_blank a ≡ true = rw space refl in record {
      word = b ∷ [];
      first = words-blank a (b ∷ rest) blank ∙ words-word (b ∷ []) rest refl solid ends;
      number = short-value b n digit is;
      text = λ t. text-blank a (b ∷ rest) blank (text-word (b ∷ []) rest solid t);
    }

pub number-short : (bytes : List ℕ) (n : ℕ) → 2 ≤ length bytes → get_or bytes 0 0 ≡ 32 → is_ascii_digit (get_or bytes 1 0) ≡ true → n ≡ get_or bytes 1 0 - 48
    → ends_word (take (length bytes - 2) (drop 2 bytes)) ≡ true → HasNumber bytes n (take (length bytes - 2) (drop 2 bytes))
number-short [] n long space digit is ends = absurd (omega arith)
number-short (a ∷ []) n long space digit is ends = absurd (omega arith)
number-short (a ∷ b ∷ rest) n long space digit is ends =
    let whole = take_all (length (a ∷ b ∷ rest) - 2) rest (omega arith) in
    rw whole (short-word a b n rest space digit is (rw whole at ends))
