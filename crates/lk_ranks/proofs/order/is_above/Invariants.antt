use Rattle.std.proofs.Common.{◌≡◌, ℕ, ◌<◌, ◌≤◌, false}
use Rattle.lk_domain.specs.Calls.{holds_in, waits_in}
use Rattle.lk_domain.specs.Seats.{calls_of}
use Rattle.lk_ranks.proofs.order.is_above.Given as goal

-- of the numbers so far none is held, and for none a call waits
abbrev pub invariant-loop-number : goal.invariant-loop-number
invariant-loop-number l = record {
  holds : (n : ℕ) → l.rank ≤ n → n < l.number → holds_in (calls_of l.cpu).holds n ≡ false;
  waits : (n : ℕ) → l.rank ≤ n → n < l.number → waits_in (calls_of l.cpu).frames n ≡ false;
}
