use Rattle.std.proofs.Common.{◌≡◌}
use Rattle.lk_domain.specs.Ends.{Rests}
use Rattle.lk_thread_tests.proofs.handlers.look_from.Given as goal

-- between two looks the processor rests
abbrev pub invariant-loop-index : goal.invariant-loop-index
invariant-loop-index l = record {
  number : l.cpu.number ≡ l.initial.cpu.number;
  rests : Rests l.domain l.initial.cpu.number l.cpu;
}
