-- How many digits a number of 64 bits has.
use Rattle.std.proofs.Common.{ℕ, ◌≡◌, ◌+◌, ◌/◌, ◌<◌, ◌≤◌, ◌^◌, length, decimal, ap, ◌∙◌, arith}
use Rattle.std.proofs.lemmas.Fmt.{length-decimal-le, decimal_nonempty, decimal_step, decimal_digit}
use Rattle.std.proofs.lemmas.List.{length_push}

-- at most twenty
pub decimal_short : (n : ℕ) → n < 2 ^ 64 → length (decimal n) ≤ 20
decimal_short n h = length-decimal-le 20 n (omega arith) (omega arith) h

-- at least one
pub decimal_some : (n : ℕ) → n < 2 ^ 64 → 1 ≤ length (decimal n)
decimal_some n h = let some = decimal_nonempty n h in omega arith

-- one more than a tenth of it has
pub decimal_more : (n : ℕ) → 10 ≤ n → n < 2 ^ 64 → length (decimal n) ≡ length (decimal (n / 10)) + 1
decimal_more n low h = ap length (decimal_step n low h) ∙ length_push (decimal (n / 10)) _

-- one, below ten
pub decimal_one : (n : ℕ) → n < 10 → length (decimal n) ≡ 1
decimal_one n h = ap length (decimal_digit n h)
