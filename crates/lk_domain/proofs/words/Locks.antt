-- Where the words of locks stand in a table.
use Rattle.std.proofs.Common.{◌≡◌, ◌<◌, ◌≤◌, Bool, true, false, refl, arith}
use Rattle.lk_domain.proofs.Names.{LockName, locks_of, balance_at, word_at, Plan}
use Rattle.lk_domain.specs.{Words.place_of, declared.place.TheConstants.FIRST_LOCK}

pub word_from : (n : LockName) → FIRST_LOCK ≤ word_at n
word_from n = by n.wait
  where
    by : (b : Bool) → FIRST_LOCK ≤ place_of b n.index
    by true = omega arith
    by false = omega arith

pub word_below : (k : Plan) (n : LockName) → n.index < locks_of k → word_at n < balance_at k 0
word_below k n near = by n.wait
  where
    by : (b : Bool) → place_of b n.index < balance_at k 0
    by true = omega arith
    by false = omega arith

pub name_one : (j n : LockName) → word_at j ≡ word_at n → j ≡ n
name_one j n e =
    let same = by j.wait n.wait e in
    (λ i. record { index = same.1 i; wait = same.0 i })
  where
    by : (a b : Bool) → place_of a j.index ≡ place_of b n.index → (a ≡ b) × (j.index ≡ n.index)
    by true true e = (refl, omega arith)
    by true false e = absurd (omega arith)
    by false true e = absurd (omega arith)
    by false false e = (refl, omega arith)
