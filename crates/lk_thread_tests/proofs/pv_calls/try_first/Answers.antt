use Rattle.std.proofs.Common.{refl}
use Rattle.lk_rows.specs.declared.setup.Verb.TheVariants.{Try}
use Rattle.lk_thread_tests.proofs.Halted.{has, missed}
use Rattle.lk_thread_tests.proofs.pv_calls.try_first.Goals as goal

pub returns-clause-has : goal.returns-clause-has
returns-clause-has c e =
    has c.args.domain.now c.args.cpu.now c.pv_try_lock.new.cpu c.pv_try_lock.ensures.same Try (λ hs. refl) c.requires.ready (c.pv_try_lock.ensures.taken e)

pub returns-clause-ready : goal.returns-clause-ready
returns-clause-ready c e =
    missed c.args.domain.now c.args.cpu.now c.pv_try_lock.new.cpu c.pv_try_lock.ensures.same c.requires.ready (c.pv_try_lock.ensures.missed e)
