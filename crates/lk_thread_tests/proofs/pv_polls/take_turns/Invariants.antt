use Rattle.lk_thread_tests.specs.Halting.{IsReady}
use Rattle.lk_thread_tests.proofs.pv_polls.take_turns.Given as goal

abbrev pub invariant-loop : goal.invariant-loop
invariant-loop g l = IsReady l.domain l.cpu
