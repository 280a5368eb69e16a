use Rattle.std.proofs.Common.{ap, ◌∙◌, refl}
use Rattle.lk_domain.specs.Who.{Who}
use Rattle.lk_guard.proofs.Appends.{stands, may_come, appended}
use Rattle.lk_guard.proofs.books.Books.append.Goals as goal

pub settle-reply-requires-clause-stands : goal.settle-reply-requires-clause-stands
settle-reply-requires-clause-stands c =
    stands c.args.self.now.plan.now c.args.self.now.stand.lawful c.args.seat.now.me.0.ledger c.journal_out-journal.new.seat.me.0.ledger c.journal_out-journal.result c.journal_out-journal.ensures.out

pub journal_home-requires-clause-may : goal.journal_home-requires-clause-may
journal_home-requires-clause-may c =
    let t = c.args.task in (
      t.worker,
      ap (λ (w : Who). w.number) (c.settle-reply.ensures.rest.who ∙ c.journal_out-journal.ensures.rest.who) ∙ c.requires.worker,
      may_come c.args.self.now.plan.now c.args.self.now.stand.lawful c.args.seat.now.me.0.ledger c.journal_out-journal.new.seat.me.0.ledger c.journal_out-journal.result c.journal_out-journal.ensures.out
          t.worker t.number t.job c.settle-reply.result c.settle-reply.new.seat.me.0.ledger c.requires.job c.requires.writes c.settle-reply.ensures.ledger c.settle-reply.ensures.reply
          t.worker c.push.new.self refl c.requires.share c.push.ensures,
    )

pub returns-clause-appended : goal.returns-clause-appended
returns-clause-appended c =
    let t = c.args.task in
    let number = ap (λ (w : Who). w.number) (c.settle-reply.ensures.rest.who ∙ c.journal_out-journal.ensures.rest.who) ∙ c.requires.worker in
    appended c.args.self.now.plan.now c.args.self.now.stand.lawful c.args.seat.now.me.0.ledger c.journal_out-journal.new.seat.me.0.ledger c.journal_out-journal.result c.journal_out-journal.ensures.out
    t.worker t.number t.job c.settle-reply.result c.settle-reply.new.seat.me.0.ledger c.requires.job c.requires.writes c.settle-reply.ensures.ledger c.settle-reply.ensures.reply
    t.worker c.push.new.self c.journal_home.new.seat.me.0.ledger refl c.push.ensures (c.journal_home.ensures.ledger t.worker number)
