-- A machine has one number of places for its hash: the least power of two that is enough.
use Rattle.std.proofs.Common.{◌≡◌, ℕ, ◌+◌, ◌*◌, ◌/◌, ◌<◌, ◌≤◌, ◌^◌, arith, ap, sym, ◌∙◌, inl, inr}
use Rattle.std.specs.Int.{IsNextPowerOfTwo}
use Rattle.std.specs.Prelude.{max}
use Rattle.std.proofs.lemmas.Bool.{cases_lt, cases_order}
use Rattle.std.proofs.lemmas.Nat.{pow_pos}
use Rattle.std.proofs.lemmas.Grind.{pow_more}
use Rattle.std.proofs.Math.Nat.{pow-le-pow_right}

-- a lower power of two is at most half of a higher one
half : (i j : ℕ) → i < j → 2 ^ i * 2 ≤ 2 ^ j
half i j low =
    let below : 2 ^ (i + 1) ≤ 2 ^ j = pow-le-pow_right (omega arith) (omega (arith, low)) in
    omega (arith, below, pow_more 2 i)

-- of two such numbers none is below the other
not_below : (n p q i j : ℕ) → p ≡ 2 ^ i → q ≡ 2 ^ j → n ≤ p → q / 2 < max 1 n → i < j → ⊥
not_below n p q i j is other most least low =
    let some : 0 < 2 ^ i = pow_pos i in
    let twice = half i j low in
    elim (cases_lt 1 n) [
      | inl many ↦ omega (arith, is, other, most, least, many, some, twice)
      | inr few ↦ omega (arith, is, other, most, least, few, some, twice)
    ]

-- they are the same
pub one_power : (n p q : ℕ) → IsNextPowerOfTwo n p → IsNextPowerOfTwo n q → p ≡ q
one_power n p q a b =
    elim (cases_order a.0.0 b.0.0) [
      | inl same ↦ a.0.1 ∙ ap (λ (k : ℕ). 2 ^ k) same ∙ sym b.0.1
      | inr apart ↦ elim apart [
        | inl low ↦ absurd (not_below n p q a.0.0 b.0.0 a.0.1 b.0.1 a.1 b.2 low)
        | inr high ↦ absurd (not_below n q p b.0.0 a.0.0 b.0.1 a.0.1 b.1 a.2 high)
      ]
    ]

pub ruleset powers = (one_power)
