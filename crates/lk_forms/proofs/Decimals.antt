-- How many digits a number has.
use Rattle.std.proofs.Common.{ℕ, ◌<◌, ◌≤◌, ◌^◌, length, decimal, arith}
use Rattle.std.proofs.lemmas.Fmt.{length-decimal-le}

pub decimal_small : (n : ℕ) → n < 2 ^ 32 → length (decimal n) ≤ 10
decimal_small n h = length-decimal-le 10 n (omega arith) (omega arith) (omega arith)

pub decimal_short : (n : ℕ) → n < 2 ^ 64 → length (decimal n) ≤ 20
decimal_short n h = length-decimal-le 20 n (omega arith) (omega arith) h
