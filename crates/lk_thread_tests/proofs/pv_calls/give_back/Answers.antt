use Rattle.lk_thread_tests.proofs.Halted.{freed}
use Rattle.lk_thread_tests.proofs.pv_calls.give_back.Goals as goal

pub pv_unlock-requires-clause-value : goal.pv_unlock-requires-clause-value
pv_unlock-requires-clause-value g c = c.requires.has.home

pub returns : goal.returns
returns g c =
    record { ready = freed c.args.domain.now c.args.cpu.now c.pv_unlock.new.cpu c.pv_unlock.ensures.same c.requires.has.domain_is c.pv_unlock.ensures.freed }
