use Rattle.lk_thread_tests.specs.Halting.{IsReady}
use Rattle.lk_thread_tests.proofs.pv_calls.take_turns.Given as goal

abbrev pub invariant-loop-turn : goal.invariant-loop-turn
invariant-loop-turn g l = IsReady l.domain l.cpu
