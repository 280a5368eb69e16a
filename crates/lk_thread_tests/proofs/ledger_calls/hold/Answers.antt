use Rattle.std.proofs.Common.{None, ap, ◌∙◌}
use Rattle.lk_domain.specs.Ledgers.{Ledger}
use Rattle.lk_guard.proofs.Begins.{lock_begins}
use Rattle.lk_thread_tests.proofs.ledger_calls.hold.Goals as goal

pub returns-clause-holding : goal.returns-clause-holding
returns-clause-holding g c =
    (lock_begins c.args.domain.now c.args.cpu.now c.lock.new.cpu None None c.requires.idle
    c.lock.ensures.taken c.lock.ensures.look c.lock.ensures.polls).holding

pub returns-clause-home : goal.returns-clause-home
returns-clause-home g c =
    ap (λ (l : Ledger). l.out)
    (lock_begins c.args.domain.now c.args.cpu.now c.lock.new.cpu None None c.requires.idle
    c.lock.ensures.taken c.lock.ensures.look c.lock.ensures.polls).ledger
    ∙ c.requires.idle.home
