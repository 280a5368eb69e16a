-- What the masks of the two words select, by `/` and `%`, and what `|` makes of parts.
use Rattle.std.proofs.Common.{◌≡◌, ℕ, ◌+◌, ◌*◌, ◌/◌, ◌%◌, ◌^◌, ◌<◌, not, eqb, bit_and, bit_or, arith}
use Rattle.std.proofs.lemmas.Nat.{and_mask, or_shifted}
use Rattle.std.proofs.lemmas.Nat.Bits.{and_high, and_pow}
use Rattle.std.proofs.lemmas.Bool.Decides.{nat_tests}

pub and_255 : (n : ℕ) → bit_and n 255 ≡ n % 256
and_255 n = and_mask n 8

pub and_3 : (n : ℕ) → bit_and n 3 ≡ n % 4
and_3 n = and_mask n 2

pub and_unused : (n : ℕ) → bit_and n 65024 ≡ n / 512 % 128 * 512
and_unused n = and_high n 7 9

pub and_256 : (n : ℕ) → bit_and n 256 ≡ n / 256 % 2 * 256
and_256 n = and_pow n 8

-- the test of bit 8
pub bit_8_test : (n : ℕ) → not (eqb (bit_and n 256) 0) ≡ eqb (n / 256 % 2) 1
bit_8_test n = grind (arith, nat_tests, and_256 n)

-- the test of the bits 9 to 15
pub unused_test : (n : ℕ) → eqb (bit_and n 65024) 0 ≡ eqb (n / 512 % 128) 0
unused_test n = grind (arith, nat_tests, and_unused n)

-- `|` adds a part below 2 ^ k to a part that 2 ^ k divides
pub or_part : (k a b whole : ℕ) → whole ≡ a * 2 ^ k → b < 2 ^ k → bit_or whole b ≡ whole + b
or_part k a b whole e below = rw e (or_shifted a k b below)
