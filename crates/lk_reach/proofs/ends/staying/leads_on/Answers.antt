use Rattle.std.proofs.Common.{arith, ap, get_or, length, sym, subst}
use Rattle.lk_reach.proofs.Names.{slice_get-get_or, Setup, IsSuch}
use Rattle.lk_reach.specs.Sights.{LeadsOnBy, MayTry}
use Rattle.lk_names.specs.declared.events.Act.TheVariants as act
use Rattle.lk_reach.proofs.ends.staying.leads_on.Goals.{else-is_edge-via-then-is_edge+else-leads_by}
use Rattle.lk_reach.proofs.ends.staying.leads_on.Goals.{else-is_edge-via-else-is_edge}
use Rattle.lk_reach.proofs.ends.staying.leads_on.Goals as goal

pub leads_by-requires : goal.leads_by-requires
leads_by-requires c =
    let inv = c.loop-number.invariant in
    let back = sym inv.setup in
    let cpus = inv.cpus in
    let before = c.requires.such.cpus in
    let few = c.requires.few in
    let low = c.loop-number-test.true in
    let size = ap length c.acts-number-end.ensures in
    record {
      few = omega (arith, cpus, before, few);
      such = subst (λ (q : Setup). IsSuch q c.loop-number.machine) back inv;
      may = subst (λ (q : Setup). MayTry c.args.plan.now q c.args.space.now) back c.requires.may;
      there = c.requires.there;
      act = omega (arith, low, size);
    }

pub returns-then-leads_by : goal.returns-then-leads_by
returns-then-leads_by c =
    let inv = c.loop-number.invariant in
    let acts = c.args.plan.now.acts.items in
    let i = c.loop-number.number in
    let low = c.loop-number-test.true in
    let size = ap length c.acts-number-end.ensures in
    let a = get_or acts i (act.Step 0) in
    let at = slice_get-get_or acts i (act.Step 0) (omega (arith, low, size)) in
    record {
      on = λ yes. record {
        act = a;
        move = c.requires.may.moves i a at;
        other = subst (λ (q : Setup). LeadsOnBy c.args.plan.now q c.args.space.now c.args.state a) inv.setup
            (c.leads_by.ensures.other c.if-leads_by.true a at);
      };
      such = subst (λ (q : Setup). IsSuch q c.leads_by.new.machine) inv.setup c.leads_by.ensures.such;
    }

pub loop-number-preserved : goal.loop-number-preserved
loop-number-preserved c =
    let inv = c.loop-number.invariant in
    elim c.else-is_edge.branch [
      | else-is_edge-via-then-is_edge+else-leads_by w ↦
          rw w.machine-is (subst (λ (q : Setup). IsSuch q w.leads_by.new.machine) inv.setup w.leads_by.ensures.such)
      | else-is_edge-via-else-is_edge w ↦ rw w.machine-is inv
    ]

pub returns : goal.returns
returns c = record { on = λ yes. cc; such = c.loop-number.invariant }
