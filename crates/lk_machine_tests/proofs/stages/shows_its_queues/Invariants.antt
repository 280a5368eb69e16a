use Rattle.std.proofs.Common.{◌≡◌, ◌≤◌, ◌*◌, length}
use Rattle.lk_abs.specs.Judge.{taken_by}
use Rattle.lk_machine_tests.proofs.stages.shows_its_queues.Given as goal

abbrev pub invariant-loop-stage : goal.invariant-loop-stage
invariant-loop-stage g l = record {
  sockets : length l.judge.rules.sockets ≡ 6;
  locks : length l.judge.locks ≡ 2;
  few : taken_by l.judge ≤ l.reached * 100;
  short : l.reached ≤ 100;
}
