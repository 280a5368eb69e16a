use Rattle.std.proofs.Common.{◌≡◌, ℕ, length, slice_index_or}
use Rattle.lk_reach.proofs.numbers.padded.pad.Given as goal

-- the list went on with zeros so far
abbrev pub invariant-loop-made : goal.invariant-loop-made
invariant-loop-made g l = record {
  same : (i : ℕ) → slice_index_or l.items.items i l.zero ≡ slice_index_or l.fn.items.items i l.zero;
  long : length l.items.items ≡ l._made;
}
