use Rattle.std.proofs.Common.{refl}
use Rattle.lk_rows.specs.declared.setup.Verb.TheVariants.{Lock}
use Rattle.lk_thread_tests.proofs.Halted.{has}
use Rattle.lk_thread_tests.proofs.pv_calls.take.Goals as goal

pub returns : goal.returns
returns g c =
    let ready = c.try_first.ensures.ready c.if-try_first.false in
    record { has = has c.args.domain.now c.try_first.new.cpu c.pv_lock.new.cpu c.pv_lock.ensures.same Lock (λ hs. refl) ready c.pv_lock.ensures.taken }
