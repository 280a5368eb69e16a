use Rattle.std.proofs.Common.{◌≡◌, ◌<◌, ◌≤◌, ℕ, false}
use Rattle.lk_hash.specs.Table.{is_vacant, place_at}
use Rattle.lk_hash.proofs.probe.vacant_in.Given as goal

-- the places so far are taken
abbrev pub invariant-loop-at : goal.invariant-loop-at
invariant-loop-at l = (j : ℕ) → l.from ≤ j → j < l.at → is_vacant (place_at l.places j) ≡ false
