-- The numbers that words write.
use Rattle.std.specs.Prelude.{ℕ, ◌^◌, ◌&&◌, nat_le, nat_lt, Bool, List, Option, None, Some, length, if◌then◌else◌}
use Rattle.std.specs.Str.{all_ascii_digits}
use Rattle.std.specs.Str.Parse.{digits_value}
use Rattle.lk_text.specs.declared.numbers.TheConstants.{MAX_DIGITS}

-- a number is a word of 1 to 20 digits with a value below 2^64
abbrev pub is_number : List ℕ → Bool
is_number word = nat_le 1 (length word) && (nat_le (length word) MAX_DIGITS && (all_ascii_digits word && nat_lt (digits_value 10 word) (2 ^ 64)))

-- the number that a word writes, if it writes one
abbrev pub number_of : List ℕ → Option ℕ
number_of word = if is_number word then Some (digits_value 10 word) else None
