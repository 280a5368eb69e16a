use Rattle.std.specs.Prelude.{◌-◌}
use Rattle.lk_thread_tests.specs.Halting.{MayWrite}
use Rattle.lk_thread_tests.proofs.pv_region.add_all.Given as goal

abbrev pub invariant-loop-done : goal.invariant-loop-done
invariant-loop-done g l = MayWrite l.region.domain (1000 - l.done) l.cpu
