use Rattle.std.proofs.Common.{◌≡◌, ◌<◌, ℕ, slice_get}
use Rattle.lk_reach.proofs.peers.same_program.Given as goal

-- the operations so far are the same
abbrev pub invariant-loop-at : goal.invariant-loop-at
invariant-loop-at l = (i : ℕ) → i < l.at → slice_get l.a.items i ≡ slice_get l.b.items i
