use Rattle.std.proofs.Common.{◌≡◌, ◌+◌, ◌≤◌, ◌<◌, ◌^◌, length, decimal}
use Rattle.lk_text.proofs.digits.digit_count.Given as goal

abbrev pub invariant-loop-left : goal.invariant-loop-left
invariant-loop-left l = record {
  count : l.count + length (decimal l.left) ≡ length (decimal l.n) + 1;
  fits : l.left < 2 ^ 64;
  some : 1 ≤ length (decimal l.left);
  short : length (decimal l.n) ≤ 20;
}

abbrev pub decreases-loop-left : goal.decreases-loop-left
decreases-loop-left l = l.left
