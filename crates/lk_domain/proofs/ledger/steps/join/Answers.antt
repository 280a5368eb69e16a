use Rattle.std.proofs.Common.{sym, ap, ◌∙◌, arith}
use Rattle.lk_domain.proofs.Names.{Me, Slot, carried_of, carried_with, View}
use Rattle.lk_domain.proofs.seats.Parted.{joins}
use Rattle.lk_domain.proofs.ledger.steps.join.Goals as goal

pub join_seat-requires : goal.join_seat-requires
join_seat-requires c =
    let table = c.args.table.now.shared in
    let at = c.requires.seat in
    let seat = c.args.seat.now in
    let other = c.args.other in (
      at.table_is,
      c.requires.other.table_is,
      c.requires.other.carried ∙ (λ i. carried_with (c.requires.none i) (c.requires.rests.home i)),
      (let w = c.requires.table.words in omega arith),
      joins table.key seat.id other.id seat.me.0 other.me.0 at.number c.requires.rests,
    )

pub returns-clause-seat : goal.returns-clause-seat
returns-clause-seat c =
    let at = c.requires.seat in
    let e = c.join_seat.ensures.2 in
    let v = ap (λ (x : Me Slot View). x.0) e in
    record {
      table_is = c.join_seat.ensures.0 ∙ at.table_is;
      plan_is = ap (λ (x : View). x.who.plan) v ∙ at.plan_is;
      number = (at.number.0, ap (λ (x : View). x.who.number) v ∙ at.number.1);
      carried = ap (λ (x : Me Slot View). x.1) e ∙ (at.carried ∙ ap carried_of (sym v));
    }
