use Rattle.std.proofs.Common.{◌≡◌, ◌≤◌, length}
use Rattle.lk_machine_tests.proofs.hashes.fills.Given as goal

-- no more locks were entered than there were turns
abbrev pub invariant-loop-n : goal.invariant-loop-n
invariant-loop-n l = record {
  places : l.hash.places ≡ 16;
  entries : length l.hash.entries ≤ l.n;
}
