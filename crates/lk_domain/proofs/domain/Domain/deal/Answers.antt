use Rattle.std.proofs.Common.{sym, ap, arith, ◌∙◌, [], Some, subst}
use Rattle.lk_domain.proofs.Names.{Me, step, none, halts, are_calls, no_calls, Slot, IsNoted}
use Rattle.lk_domain.proofs.Names.{locks_of, carried_of, carried_with, dealer, view, Plan, View}
use Rattle.lk_domain.proofs.{seats.Dealt.{draws, drawn_by}, seats.Parted.splits_at}
use Rattle.lk_domain.proofs.domain.Domain.deal.Goals as goal

pub fetch_add-number-requires : goal.fetch_add-number-requires
fetch_add-number-requires c =
    let d = c.args.self.now in
    let k = d.table.shared.key in
    let z = d.table.shared.table_id in (
      c.requires.table,
      omega (arith, d.words),
      draws k d.plan z.slots c.args.seat.now.id c.args.seat.now.me c.args.number (step z.slots 0 1 0 none) d.key c.requires.dealer c.requires.low,
    )

pub split_seat-seat-requires : goal.split_seat-seat-requires
split_seat-seat-requires c =
    let d = c.args.self.now in
    let k = d.table.shared.key in
    let seat = c.fetch_add-number.new.seat in
    let t = drawn_by d.plan c.args.seat.now.me seat.me c.args.number c.fetch_add-number.result (step d.table.shared.table_id.slots 0 1 0 none) c.requires.dealer c.fetch_add-number.ensures.2 in (
      c.fetch_add-number.ensures.0 ∙ c.requires.table,
      omega (arith, d.words),
      splits_at k d.plan seat.id c.args.number seat.me.0 t.1,
    )

pub invariant_of-result : goal.invariant_of-result
invariant_of-result c =
    let d = c.args.self.now in
    let seat = c.fetch_add-number.new.seat in
    let t = drawn_by d.plan c.args.seat.now.me seat.me c.args.number c.fetch_add-number.result (step d.table.shared.table_id.slots 0 1 0 none) c.requires.dealer c.fetch_add-number.ensures.2 in
    let at = ap (λ (x : Me Slot View). x.0) c.split_seat-seat.ensures.4 in
    let calls = ap (λ (v : View). v.calls) at in
    let few = d.lawful.cpus in
    record {
      numbered = ap (λ (v : View). v.who.number) at ∙ (ap (λ (v : View). Some (Rattle.lk_domain.specs.Views.own_number v.who.number)) t.1 ∙ (let z = t.0 in let y = c.requires.low in ap Some (omega arith)));
      noted = λ on. subst (λ (v : View). IsNoted c.args.notes (locks_of v.who.plan) v.calls) (sym at)
          (subst (λ (k : Plan). IsNoted c.args.notes (locks_of k) no_calls) (sym (ap (λ (v : View). v.who.plan) t.1))
          (c.requires.notes (sym (ap (λ (v : View). halts v.who.plan.mode) at ∙ ap (λ (v : View). halts v.who.plan.mode) t.1) ∙ on)));
      apart = λ _. ap (λ (x : Rattle.lk_domain.specs.Calls.Calls). are_calls x.frames) calls;
      carried = ap (λ (x : Me Slot View). x.1) c.split_seat-seat.ensures.4 ∙ sym (ap carried_of at ∙ ap (λ (v : View). carried_with [] v.ledger.out) t.1);
    }

pub returns-clause-dealer : goal.returns-clause-dealer
returns-clause-dealer c =
    let d = c.args.self.now in
    let t = drawn_by d.plan c.args.seat.now.me c.fetch_add-number.new.seat.me c.args.number c.fetch_add-number.result (step d.table.shared.table_id.slots 0 1 0 none) c.requires.dealer c.fetch_add-number.ensures.2 in
    ap (λ (x : Me Slot View). x.0) c.split_seat-seat.ensures.2
    ∙ ap (λ (v : View). view (dealer v.who.plan (Rattle.lk_domain.specs.Views.own_number v.who.dealt)) no_calls Rattle.lk_domain.specs.Ledgers.no_ledger) t.1

pub returns-clause-cpu : goal.returns-clause-cpu
returns-clause-cpu c =
    let d = c.args.self.now in
    let t = drawn_by d.plan c.args.seat.now.me c.fetch_add-number.new.seat.me c.args.number c.fetch_add-number.result (step d.table.shared.table_id.slots 0 1 0 none) c.requires.dealer c.fetch_add-number.ensures.2 in
    let at = ap (λ (x : Me Slot View). x.0) c.split_seat-seat.ensures.4 in
    let few = d.lawful.cpus in
    record {
      domain_is = record {
        table = c.split_seat-seat.ensures.3 ∙ (c.fetch_add-number.ensures.0 ∙ c.requires.table);
        plan = ap (λ (v : View). v.who.plan) at ∙ ap (λ (v : View). v.who.plan) t.1;
        low = (let z = t.0 in let y = c.requires.low in omega arith);
      };
      number = (let z = t.0 in let y = c.requires.low in omega arith);
      who = ap (λ (v : View). v.who) at ∙ ap (λ (v : View). Rattle.lk_domain.specs.Views.newcomer v.who.plan (Rattle.lk_domain.specs.Views.own_number v.who.number)) t.1;
      calls = ap (λ (v : View). v.calls) at;
      ledger = ap (λ (v : View). v.ledger) at ∙ ap (λ (v : View). v.ledger) t.1;
      slots = ap (λ (x : Me Slot View). x.1) c.split_seat-seat.ensures.4;
    }
