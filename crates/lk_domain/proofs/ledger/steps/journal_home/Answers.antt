use Rattle.std.proofs.Common.{sym, ap, ◌∙◌, ◌≡◌, ◌∷◌, List, ℕ, Some, arith}
use Rattle.lk_domain.proofs.Names.{Me, rest, step, none, Slot, carried_of, carried_with}
use Rattle.lk_domain.proofs.Names.{empty_places, Who, Entries, View}
use Rattle.lk_domain.proofs.journals.Stores.{brings_at}
use Rattle.lk_domain.proofs.journals.Told as told
use Rattle.lk_domain.proofs.ledger.steps.journal_home.Goals as goal

pub store-requires : goal.store-requires
store-requires c =
    let table = c.args.table.now.shared in
    let z = table.table_id in
    let of = c.requires.table in
    let at = c.requires.seat in
    let seat = c.args.seat.now in
    let may = c.requires.may.2 in
    let under = empty_places seat.me.0.who.outs in
    let alone : rest seat.me.1 ≡ under = ap rest (at.carried ∙ ap (carried_with seat.me.0.who.outs) may.has) in (
      c.exchange.ensures.0 ∙ at.table_is,
      (let w = of.words in omega arith),
      brings_at table.key c.args.plan.now z.slots c.exchange.new.seat.id c.exchange.new.seat.me seat.me.0 c.args.journal under
          c.len-version.result (step z.slots 1 c.len-version.result 0 none) of.key_is
          (c.exchange.ensures.3 ∙ ap (λ (l : List (ℕ × Slot)). let m : Me Slot View = (seat.me.0, (0, Some (Entries c.args.journal)) ∷ l) in m) alone)
          (c.requires.may.0, c.requires.may.1) c.requires.held may c.len-version.ensures,
    )

pub returns-clause-rest : goal.returns-clause-rest
returns-clause-rest c =
    let z = c.args.table.now.shared.table_id in
    let at = c.requires.seat in
    let seat = c.args.seat.now in
    let may = c.requires.may.2 in
    let under = empty_places seat.me.0.who.outs in
    let alone : rest seat.me.1 ≡ under = ap rest (at.carried ∙ ap (carried_with seat.me.0.who.outs) may.has) in
    let e = c.exchange.ensures.3 ∙ ap (λ (l : List (ℕ × Slot)). let m : Me Slot View = (seat.me.0, (0, Some (Entries c.args.journal)) ∷ l) in m) alone in
    let t = told.came_home (step z.slots 1 c.len-version.result 0 none) c.exchange.new.seat.me c.store.new.seat.me c.len-version.result seat.me.0
    c.args.journal may.out c.requires.may.0 may.more under c.store.ensures.2 e may.has c.requires.may.1 may.items in
    record { table = c.store.ensures.0 ∙ c.exchange.ensures.0; id = c.store.ensures.1 ∙ c.exchange.ensures.1; who = ap (λ (x : Me Slot View). x.0.who) t; calls = ap (λ (x : Me Slot View). x.0.calls) t }

pub returns-clause-seat : goal.returns-clause-seat
returns-clause-seat c =
    let at = c.requires.seat in
    let z = c.args.table.now.shared.table_id in
    let seat = c.args.seat.now in
    let may = c.requires.may.2 in
    let under = empty_places seat.me.0.who.outs in
    let alone : rest seat.me.1 ≡ under = ap rest (at.carried ∙ ap (carried_with seat.me.0.who.outs) may.has) in
    let e = c.exchange.ensures.3 ∙ ap (λ (l : List (ℕ × Slot)). let m : Me Slot View = (seat.me.0, (0, Some (Entries c.args.journal)) ∷ l) in m) alone in
    let t = told.came_home (step z.slots 1 c.len-version.result 0 none) c.exchange.new.seat.me c.store.new.seat.me c.len-version.result seat.me.0
    c.args.journal may.out c.requires.may.0 may.more under c.store.ensures.2 e may.has c.requires.may.1 may.items in
    let who = ap (λ (x : Me Slot View). x.0.who) t in
    record {
      table_is = (c.store.ensures.0 ∙ c.exchange.ensures.0) ∙ at.table_is;
      plan_is = ap (λ (w : Who). w.plan) who ∙ at.plan_is;
      number = (at.number.0, ap (λ (w : Who). w.number) who ∙ at.number.1);
      carried = ap (λ (x : Me Slot View). x.1) t ∙ ap (λ (x : Me Slot View). carried_of x.0) (sym t);
    }

pub returns-clause-ledger : goal.returns-clause-ledger
returns-clause-ledger c p numbered o es has items =
    let z = c.args.table.now.shared.table_id in
    let at = c.requires.seat in
    let seat = c.args.seat.now in
    let may = c.requires.may.2 in
    let under = empty_places seat.me.0.who.outs in
    let alone : rest seat.me.1 ≡ under = ap rest (at.carried ∙ ap (carried_with seat.me.0.who.outs) may.has) in
    let e = c.exchange.ensures.3 ∙ ap (λ (l : List (ℕ × Slot)). let m : Me Slot View = (seat.me.0, (0, Some (Entries c.args.journal)) ∷ l) in m) alone in
    let t = told.came_home (step z.slots 1 c.len-version.result 0 none) c.exchange.new.seat.me c.store.new.seat.me c.len-version.result seat.me.0
    c.args.journal o p es under c.store.ensures.2 e has numbered items in
    ap (λ (x : Me Slot View). x.0.ledger) t
