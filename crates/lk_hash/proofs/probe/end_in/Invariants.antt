use Rattle.std.proofs.Common.{◌≡◌, ◌<◌, ◌≤◌, ℕ, false}
use Rattle.lk_hash.specs.Table.{ends, place_at}
use Rattle.lk_hash.proofs.probe.end_in.Given as goal

-- the probe has not ended at the places so far
abbrev pub invariant-loop-at : goal.invariant-loop-at
invariant-loop-at l = (j : ℕ) → l.from ≤ j → j < l.at → ends l.lock (place_at l.places j) ≡ false
