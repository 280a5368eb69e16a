use Rattle.std.proofs.Common.{refl, sym, ap, ◌∙◌, arith}
use Rattle.lk_domain.proofs.Names.{Me, step, none, Slot, Who, balance_at, Plan, View}
use Rattle.lk_domain.proofs.journals.Loads.{loads}
use Rattle.lk_domain.specs.Ledgers.{loaded}
use Rattle.lk_domain.proofs.journals.Told as told
use Rattle.lk_domain.proofs.ledger.steps.load.Goals as goal

pub load-requires : goal.load-requires
load-requires c =
    let table = c.args.table.now.shared in
    let z = table.table_id in
    let of = c.requires.table in
    let at = c.requires.seat in
    let seat = c.args.seat.now in
    let i = c.balance_word-word.result in (
      at.table_is,
      (let few = of.lawful.accounts in let w = of.words in let a = c.requires.account in let e = c.balance_word-word.ensures in omega arith),
      loads table.key c.args.plan.now z.slots seat.id seat.me c.args.account i (step z.slots i 0 0 none) of.key_is
          at.plan_is c.balance_word-word.ensures refl c.requires.account at.number c.requires.held,
    )

pub returns-clause-rest : goal.returns-clause-rest
returns-clause-rest c =
    let at = c.requires.seat in
    let m = c.args.seat.now.me in
    let n = c.load.new.seat.me in
    let e = c.load.ensures.2 c.args.account (c.balance_word-word.ensures ∙ ap (λ (k : Plan). balance_at k c.args.account) (sym at.plan_is)) in
    let g = loaded m.0.ledger c.args.account c.load.result in
    record { table = c.load.ensures.0; id = c.load.ensures.1; who = told.who m n g e.seat; calls = told.calls m n g e.seat }

pub returns-clause-seat : goal.returns-clause-seat
returns-clause-seat c =
    let at = c.requires.seat in
    let m = c.args.seat.now.me in
    let n = c.load.new.seat.me in
    let e = c.load.ensures.2 c.args.account (c.balance_word-word.ensures ∙ ap (λ (k : Plan). balance_at k c.args.account) (sym at.plan_is)) in
    let g = loaded m.0.ledger c.args.account c.load.result in
    let who = told.who m n g e.seat in
    record {
      table_is = (c.load.ensures.0) ∙ at.table_is;
      plan_is = ap (λ (w : Who). w.plan) who ∙ at.plan_is;
      number = (at.number.0, ap (λ (w : Who). w.number) who ∙ at.number.1);
      carried = told.carried m n g e.seat refl at.carried;
    }

pub returns-clause-loaded : goal.returns-clause-loaded
returns-clause-loaded c =
    let at = c.requires.seat in
    let e = c.load.ensures.2 c.args.account (c.balance_word-word.ensures ∙ ap (λ (k : Plan). balance_at k c.args.account) (sym at.plan_is)) in
    record { ledger = ap (λ (x : Me Slot View). x.0.ledger) e.seat; out = e.out; one = e.one }
