use Rattle.std.proofs.Common.{◌≡◌, ◌∙◌, sym, ap, subst}
use Rattle.lk_pvdomain.proofs.Names.{Me, Slot, AtEntry, Enters, InCall, View}
use Rattle.lk_pvdomain.proofs.ways.Ways.{moved_seat}
use Rattle.lk_pvdomain.proofs.states.enter.Goals as goal

pub returns-then-met-eq0-clause-step : goal.returns-then-met-eq0-clause-step
returns-then-met-eq0-clause-step c = c.look_entry-met.ensures.spares c.if-met-eq0.true

pub store_entry-requires : goal.store_entry-requires
store_entry-requires c =
    let r = c.requires in
    let back = sym (c.look_entry-met.ensures.stays c.if-met-eq0.false) in
    record {
      of = moved_seat r.of c.look_entry-met.ensures.same.0 (ap (λ (m : Me Slot View). m.0.who) (c.look_entry-met.ensures.stays c.if-met-eq0.false));
      row = subst (λ (m : Me Slot View). InCall (AtEntry c.args.own) m.0) back r.row;
      ready = subst (λ (m : Me Slot View). m.0.calls.ready ≡ 2) back r.ready;
    }

pub returns-clause-same : goal.returns-clause-same
returns-clause-same c =
    (c.store_entry.ensures.same.0 ∙ c.look_entry-met.ensures.same.0, c.store_entry.ensures.same.1 ∙ c.look_entry-met.ensures.same.1)

pub returns-clause-step : goal.returns-clause-step
returns-clause-step c =
    subst (λ (m : Me Slot View). Enters m c.store_entry.result c.store_entry.new.seat.me)
    (c.look_entry-met.ensures.stays c.if-met-eq0.false) c.store_entry.ensures.step
