-- What a job keeps of the sum of the balances.
use Rattle.std.proofs.Common.{◌≡◌, ℕ, zero, suc, ◌+◌, ◌-◌, ◌<◌, ◌≤◌, Bool, true, false, List, [], ◌∷◌, length, get_or, set, if◌then◌else◌, refl, arith, length-set}
use Rattle.std.specs.List.{sum}
use Rattle.std.proofs.lemmas.Bool.{ltb-false, ltb-true}
use Rattle.std.proofs.lemmas.List.Sums.{sum_by-cons, sum_by-set}
use Rattle.lk_names.specs.declared.ledger.Job.{Job}
use Rattle.lk_names.specs.declared.ledger.Job.TheVariants.{Move, Add, Sum, Get}
use Rattle.lk_names.specs.Jobs.{full, given, taken, is_short, has_room, after_job, IsAmong}

-- the sum of a list, from its front
sum-cons : (b : ℕ) (bs : List ℕ) → sum (b ∷ bs) ≡ b + sum bs
sum-cons b bs = sum_by-cons (λ x. x) b bs

-- a store changes the sum by what it changes one balance
sum-set : (bs : List ℕ) (i y : ℕ) → i < length bs → sum (set bs i y) + get_or bs i 0 ≡ sum bs + y
sum-set bs i y within = sum_by-set (λ x. x) bs i y 0 within

-- no balance is more than the sum
one_sum : (bs : List ℕ) (i : ℕ) → get_or bs i 0 ≤ sum bs
one_sum [] i = omega arith
one_sum (b ∷ bs) zero = omega (arith, sum-cons b bs)
one_sum (b ∷ bs) (suc i) = omega (arith, sum-cons b bs, one_sum bs i)

-- an amount that was taken and given again leaves the sum as it was
pub sum_moved : (bs : List ℕ) (from to amount : ℕ) → from < length bs → to < length bs
    → amount ≤ get_or bs from 0 → sum (given (taken bs from amount) to amount) ≡ sum bs
sum_moved bs from to amount in_from in_to enough =
    let less : List ℕ = taken bs from amount in
    omega (
      arith,
      enough,
      sum-set bs from (get_or bs from 0 - amount) in_from,
      sum-set less to (get_or less to 0 + amount) (let within : to < length less = omega (arith, length-set bs from (get_or bs from 0 - amount), in_to) in within),
    )

-- one balance beside the rest of what was taken
pub room_moved : (bs : List ℕ) (from to amount : ℕ) → from < length bs → amount ≤ get_or bs from 0
    → sum bs < full → get_or (taken bs from amount) to 0 + amount < full
room_moved bs from to amount in_from enough small =
    omega (arith, enough, small, sum-set bs from (get_or bs from 0 - amount) in_from, one_sum (taken bs from amount) to)

-- the sum stays below the limit
pub small_after : (bs : List ℕ) (job : Job) → IsAmong (length bs) job → sum bs < full → sum (after_job bs job) < full
small_after bs (Move from to amount) among small = by_test (is_short bs from amount) refl
  where
    by_test : (b : Bool) → is_short bs from amount ≡ b
        → sum (if b then bs else given (taken bs from amount) to amount) < full
    by_test true is = small
    by_test false is = omega (arith, small, sum_moved bs from to amount among.0 among.1 (ltb-false (get_or bs from 0) amount is))
small_after bs (Add account amount) among small = by_test (has_room bs amount) refl
  where
    by_test : (b : Bool) → has_room bs amount ≡ b → sum (if b then given bs account amount else bs) < full
    by_test true is = omega (arith, ltb-true (sum bs + amount) full is, sum-set bs account (get_or bs account 0 + amount) among)
    by_test false is = small
small_after bs Sum among small = small
small_after bs (Get account) among small = small
