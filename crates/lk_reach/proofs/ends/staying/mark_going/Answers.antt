use Rattle.std.proofs.Common.{arith, subst, false}
use Rattle.lk_reach.proofs.Names.{slice_get_within, Setup, IsSuch}
use Rattle.lk_reach.proofs.apart.Going.{going_more, stays_more, stays_then}
use Rattle.lk_reach.specs.Sights.{LeadsOn}
use Rattle.lk_reach.proofs.ends.staying.mark_going.Goals as goal

pub loop-state-preserved-then-is_settled : goal.loop-state-preserved-then-is_settled
loop-state-preserved-then-is_settled c =
    let inv = c.loop-state.invariant in
    record {
      such = inv.such;
      going = inv.going;
      stays = stays_then c.args.book.now c.loop-state.state c.loop-state.marks.items (c.is_settled.ensures c.if-is_settled.true)
          inv.stays;
    }

pub loop-state-preserved : goal.loop-state-preserved
loop-state-preserved c =
    let inv = c.loop-state.invariant in
    let n = c.loop-state.state in
    let plan = c.args.plan.now in
    let z = c.args.machine.now.setup in
    let v = c.args.space.now in
    let old = c.loop-state.marks.items in
    let new = c.mark.new.marks.items in
    record {
      such = subst (λ (q : Setup). IsSuch q c.leads_on.new.machine) inv.such.setup c.leads_on.ensures.such;
      going = going_more plan z v n old new c.mark.ensures
          (subst (λ (q : Setup). LeadsOn plan q v n) inv.such.setup (c.leads_on.ensures.on c.if-not-leads_on.false)) inv.going;
      stays = stays_more c.args.book.now n old new c.mark.ensures inv.stays;
    }

pub returns-clause-stays : goal.returns-clause-stays
returns-clause-stays c =
    let inv = c.loop-state.invariant in
    let end = c.loop-state-test.false in
    let all = c.len-state-end.ensures in
    let count = inv.going.count in
    λ k off.
    let low = slice_get_within c.loop-state.marks.items k false off in
    inv.stays k (omega (arith, low, count, end, all)) off
