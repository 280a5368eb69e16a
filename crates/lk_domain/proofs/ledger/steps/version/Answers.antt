use Rattle.std.proofs.Common.{refl, ap, ◌∙◌, arith}
use Rattle.lk_domain.proofs.Names.{Me, step, none, Slot, Who, View}
use Rattle.lk_domain.proofs.journals.Loads.{sees}
use Rattle.lk_domain.specs.Ledgers.{sighted}
use Rattle.lk_domain.proofs.journals.Told as told
use Rattle.lk_domain.proofs.ledger.steps.version.Goals as goal

pub load-requires : goal.load-requires
load-requires c =
    let table = c.args.table.now.shared in
    let z = table.table_id in
    let at = c.requires.seat in
    let seat = c.args.seat.now in (
      at.table_is,
      (let w = c.requires.table.words in omega arith),
      sees table.key z.slots seat.id seat.me (step z.slots 1 0 0 none) at.number c.requires.held,
    )

pub returns-clause-rest : goal.returns-clause-rest
returns-clause-rest c =
    let m = c.args.seat.now.me in
    let n = c.load.new.seat.me in
    let e = c.load.ensures.2.seat in
    let g = sighted m.0.ledger c.load.result in
    record { table = c.load.ensures.0; id = c.load.ensures.1; who = told.who m n g e; calls = told.calls m n g e }

pub returns-clause-seat : goal.returns-clause-seat
returns-clause-seat c =
    let at = c.requires.seat in
    let m = c.args.seat.now.me in
    let n = c.load.new.seat.me in
    let e = c.load.ensures.2.seat in
    let g = sighted m.0.ledger c.load.result in
    let who = told.who m n g e in
    record {
      table_is = (c.load.ensures.0) ∙ at.table_is;
      plan_is = ap (λ (w : Who). w.plan) who ∙ at.plan_is;
      number = (at.number.0, ap (λ (w : Who). w.number) who ∙ at.number.1);
      carried = told.carried m n g e refl c.requires.seat.carried;
    }

pub returns-clause-seen : goal.returns-clause-seen
returns-clause-seen c =
    let e = c.load.ensures.2 in
    record { ledger = ap (λ (x : Me Slot View). x.0.ledger) e.seat; rises = e.rises; one = e.one }
