use Rattle.lk_domain.specs.Seats.{ledger_of}
use Rattle.lk_thread_tests.proofs.Pages.{taken, out2, may_come, home}
use Rattle.lk_thread_tests.proofs.ledger_calls.bring_back.Goals as goal

pub store-requires-clause-out : goal.store-requires-clause-out
store-requires-clause-out g c =
    let k = (g.D.HasDomain.inside c.args.domain.now).plan in
    let g0 = ledger_of c.args.cpu.now in
    let g1 = ledger_of c.journal_out-journal.new.cpu in
    let g2 = ledger_of c.load-held.new.cpu in
    let t = c.journal_out-journal.ensures.out in
    let x = c.load-held.result in (
      taken k g0 g1 g2 c.journal_out-journal.result t x c.load-held.ensures.loaded.ledger,
      out2 k g0 g1 g2 c.journal_out-journal.result t x c.load-held.ensures.loaded.ledger,
    )

pub journal_home-requires-clause-may : goal.journal_home-requires-clause-may
journal_home-requires-clause-may g c =
    may_come (g.D.HasDomain.inside c.args.domain.now).plan (ledger_of c.args.cpu.now) (ledger_of c.journal_out-journal.new.cpu)
    (ledger_of c.load-held.new.cpu) c.journal_out-journal.result c.journal_out-journal.ensures.out c.load-held.result
    c.load-held.ensures.loaded.ledger (ledger_of c.store.new.cpu) c.requires.account c.load-held.ensures.loaded.out
    c.store.ensures.stored c.store.new.cpu.number

pub returns-clause-home : goal.returns-clause-home
returns-clause-home g c =
    home (g.D.HasDomain.inside c.args.domain.now).plan (ledger_of c.args.cpu.now) (ledger_of c.journal_out-journal.new.cpu)
    (ledger_of c.load-held.new.cpu) c.journal_out-journal.result c.journal_out-journal.ensures.out c.load-held.result
    c.load-held.ensures.loaded.ledger (ledger_of c.store.new.cpu) c.requires.account c.load-held.ensures.loaded.out
    c.store.ensures.stored c.store.new.cpu.number (ledger_of c.journal_home.new.cpu) c.journal_home.ensures.ledger
