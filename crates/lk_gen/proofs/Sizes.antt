-- How many digits small numbers have.
use Rattle.std.proofs.Common.{◌<◌, ◌≤◌, ℕ, length, decimal, arith}
use Rattle.std.proofs.lemmas.Fmt.{length-decimal-le}

-- the number of a lock
pub one_digit : (n : ℕ) → n < 4 → length (decimal n) ≤ 1
one_digit n small = length-decimal-le 1 n (omega arith) (omega arith) (omega arith)

-- the number of a processor
pub two_digits : (n : ℕ) → n < 32 → length (decimal n) ≤ 2
two_digits n small = length-decimal-le 2 n (omega arith) (omega arith) (omega arith)
