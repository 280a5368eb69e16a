use Rattle.lk_thread_tests.specs.Halting.{StandsAt}
use Rattle.lk_thread_tests.proofs.pv_polls.take_by_turns.Given as goal

abbrev pub invariant-loop : goal.invariant-loop
invariant-loop g l = StandsAt l.domain l.turn l.cpu
