use Rattle.std.proofs.Common.{◌≡◌, ◌≤◌, ◌+◌, length}
use Rattle.lk_abs.specs.Judge.{taken_by}
use Rattle.lk_machine_tests.proofs.judging.first_breach.Given as goal

abbrev pub invariant-loop-text : goal.invariant-loop-text
invariant-loop-text g l = record {
  sockets : length l.judge.rules.sockets ≡ 6;
  locks : length l.judge.locks ≡ 2;
  few : taken_by l.judge ≤ taken_by l.initial.judge + l.told;
  short : l.told ≤ 100;
}
