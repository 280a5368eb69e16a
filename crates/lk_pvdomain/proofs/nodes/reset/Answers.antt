use Rattle.std.proofs.Common.{◌≡◌, ◌≢◌, ◌∙◌, sym, ap, subst}
use Rattle.lk_pvdomain.proofs.Names.{Me, table_of, Slot, AtEntry, InCall, IsNumbered, View}
use Rattle.lk_domain.specs.{NodePlays.readied_by, Words.part_index}
use Rattle.lk_domain.specs.declared.part.Part.TheVariants as part_is
use Rattle.lk_pvdomain.proofs.nodes.reset.Goals as goal

pub returns-then-look_reset-eq0-clause-step : goal.returns-then-look_reset-eq0-clause-step
returns-then-look_reset-eq0-clause-step c = c.look_reset.ensures.spares c.if-look_reset-eq0.true

pub reset-requires : goal.reset-requires
reset-requires c =
    let r = c.requires in
    let back = sym (c.look_reset.ensures.stays c.if-look_reset-eq0.false) in
    record {
      table = table_of c.args.domain.now;
      seat = c.look_reset.ensures.same.0 ∙ r.of.table_is;
      number = subst (λ (m : Me Slot View). IsNumbered m.0) back (c.args.own.cpu, r.of.number);
      own = r.of.near;
      row = subst (λ (m : Me Slot View). InCall (AtEntry c.args.own) m.0) back r.row;
      ready = subst (λ (m : Me Slot View). c.args.part ≢ part_is.Flag → m.0.calls.ready ≡ part_index c.args.part) back r.ready;
      plan = subst (λ (m : Me Slot View). m.0.who.plan ≡ c.args.domain.now.plan) back r.of.plan;
    }

pub returns-clause-same : goal.returns-clause-same
returns-clause-same c = (c.reset.ensures.same.0 ∙ c.look_reset.ensures.same.0, c.reset.ensures.same.1 ∙ c.look_reset.ensures.same.1)

pub returns-clause-step : goal.returns-clause-step
returns-clause-step c =
    c.reset.ensures.step
    ∙ ap (λ (m : Me Slot View). (readied_by c.args.part m.0, m.1)) (c.look_reset.ensures.stays c.if-look_reset-eq0.false)
