use Rattle.std.proofs.Common.{refl, sym, ap, ◌∙◌, arith}
use Rattle.lk_domain.proofs.Names.{Me, step, none, Slot, carried_with, Who, balance_at, Plan, View}
use Rattle.lk_domain.proofs.journals.Stores.{stores}
use Rattle.lk_domain.specs.Ledgers.{stored}
use Rattle.lk_domain.proofs.journals.Told as told
use Rattle.lk_domain.proofs.ledger.steps.store.Goals as goal

pub store-requires : goal.store-requires
store-requires c =
    let table = c.args.table.now.shared in
    let z = table.table_id in
    let of = c.requires.table in
    let at = c.requires.seat in
    let seat = c.args.seat.now in
    let i = c.balance_word-word.result in (
      at.table_is,
      (let few = of.lawful.accounts in let w = of.words in let a = c.requires.account in let e = c.balance_word-word.ensures in omega arith),
      stores table.key c.args.plan.now z.slots seat.id seat.me c.requires.out.0 c.args.account i c.args.amount
          (step z.slots i c.args.amount 0 none) of.key_is at.plan_is c.balance_word-word.ensures refl c.requires.account
          at.number c.requires.held c.requires.out.1,
    )

pub returns-clause-rest : goal.returns-clause-rest
returns-clause-rest c =
    let at = c.requires.seat in
    let m = c.args.seat.now.me in
    let n = c.store.new.seat.me in
    let o = c.requires.out.0 in
    let e = c.store.ensures.2 c.args.account o (c.balance_word-word.ensures ∙ ap (λ (k : Plan). balance_at k c.args.account) (sym at.plan_is)) c.requires.out.1 in
    let g = stored m.0.ledger o c.args.account c.args.amount in
    record { table = c.store.ensures.0; id = c.store.ensures.1; who = told.who m n g e; calls = told.calls m n g e }

pub returns-clause-seat : goal.returns-clause-seat
returns-clause-seat c =
    let at = c.requires.seat in
    let m = c.args.seat.now.me in
    let n = c.store.new.seat.me in
    let o = c.requires.out.0 in
    let e = c.store.ensures.2 c.args.account o (c.balance_word-word.ensures ∙ ap (λ (k : Plan). balance_at k c.args.account) (sym at.plan_is)) c.requires.out.1 in
    let g = stored m.0.ledger o c.args.account c.args.amount in
    let who = told.who m n g e in
    record {
      table_is = (c.store.ensures.0) ∙ at.table_is;
      plan_is = ap (λ (w : Who). w.plan) who ∙ at.plan_is;
      number = (at.number.0, ap (λ (w : Who). w.number) who ∙ at.number.1);
      carried = told.carried m n g e (ap (carried_with m.0.who.outs) (sym c.requires.out.1)) at.carried;
    }

pub returns-clause-stored : goal.returns-clause-stored
returns-clause-stored c o has =
    ap (λ (x : Me Slot View). x.0.ledger)
    (c.store.ensures.2 c.args.account o (c.balance_word-word.ensures ∙ ap (λ (k : Plan). balance_at k c.args.account) (sym c.requires.seat.plan_is)) has)
