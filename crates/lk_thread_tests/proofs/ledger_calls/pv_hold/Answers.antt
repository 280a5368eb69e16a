use Rattle.std.proofs.Common.{ap, ◌∙◌}
use Rattle.lk_domain.specs.Ledgers.{Ledger}
use Rattle.lk_guard.proofs.PvBegins.{pv_begins}
use Rattle.lk_thread_tests.proofs.ledger_calls.pv_hold.Goals as goal

pub returns-clause-holding : goal.returns-clause-holding
returns-clause-holding g c =
    (pv_begins c.args.domain.now c.args.cpu.now c.pv_lock.new.cpu c.requires.free c.pv_lock.ensures.taken).holding

pub returns-clause-home : goal.returns-clause-home
returns-clause-home g c =
    ap (λ (l : Ledger). l.out)
    (pv_begins c.args.domain.now c.args.cpu.now c.pv_lock.new.cpu c.requires.free c.pv_lock.ensures.taken).ledger
    ∙ c.requires.free.nothing.home
