use Rattle.std.proofs.Common.{◌≡◌, ◌<◌, ℕ, Some, slice_get}
use Rattle.lk_reach.proofs.Names.{ListOf, Op}
use Rattle.lk_reach.proofs.peers.same_handlers.Given as goal

-- the programs so far are the same
abbrev pub invariant-loop-at : goal.invariant-loop-at
invariant-loop-at l = (i : ℕ) (x y : ListOf Op) → i < l.at → slice_get l.a.items i ≡ Some x → slice_get l.b.items i ≡ Some y
    → x.items ≡ y.items
