use Rattle.std.proofs.Common.{◌∙◌, List, arith, sym, subst, IfSome}
use Rattle.lk_reach.proofs.Names.{Setup, IsSuch, IsHere, AreFound, MayLook, IsPath, AreMoves, state_after}
use Rattle.lk_reach.proofs.Names.{Keeps, AreMade}
use Rattle.lk_reach.specs.{Helped.{IsFound, MayKeep}, declared.found.Finding.Finding}
use Rattle.lk_reach.proofs.apart.Helped as helped
use Rattle.lk_reach.proofs.helper.Helper.leave.Goals as goal

pub here_at-requires : goal.here_at-requires
here_at-requires c =
    let there = c.requires.there in
    let ways = c.requires.sent.1 in
    let count = ways.count in
    record { low = ways.low; there = omega (arith, there, count); met = there }

pub find-found-requires-clause-ready : goal.find-found-requires-clause-ready
find-found-requires-clause-ready c =
    let inv = c.loop-act.invariant in
    let back = sym inv.same in
    let v = c.args.space.now in
    record {
      may = subst (λ (q : Setup). MayLook c.args.plan.now v q) back c.requires.sent.0.may;
      such = subst (λ (q : Setup). IsSuch q c.loop-act.self.machine) back inv.such;
      made = subst (λ (q : Setup). AreMade q v c.loop-act.self.steps.made.items) back inv.made;
    }

pub find-found-requires-clause-here : goal.find-found-requires-clause-here
find-found-requires-clause-here c =
    let p = c.args.plan.now in
    let z = c.args.self.now.machine.setup in
    let v = c.args.space.now in
    let k = c.args.state in
    let may = c.requires.sent.0.may in
    let here = c.in-Ok.here in
    let e = c.in-Ok.ensures in
    subst (λ (q : Setup). IsHere p q v here) (sym c.loop-act.invariant.same)
    (helped.is_here p z v here k may.begun e.state (may.good k c.requires.there) e.key may.folds
    (helped.if_some here.way (λ w. IsPath p c.args.book.now 0 k w.items)
    (λ w. AreMoves p.extras z w.items × Keeps v k (state_after p z w.items))
    (λ w path. c.requires.sent.1.ways k w.items c.requires.there path) e.way))

pub find-found-requires-clause-found : goal.find-found-requires-clause-found
find-found-requires-clause-found c =
    let inv = c.loop-act.invariant in
    subst (λ (q : Setup). AreFound c.args.plan.now q c.args.space.now c.loop-act.self.findings.items) (sym inv.same) inv.found

pub loop-act-preserved : goal.loop-act-preserved
loop-act-preserved c =
    let inv = c.loop-act.invariant in
    let p = c.args.plan.now in
    let v = c.args.space.now in
    let z = c.args.self.now.machine.setup in
    let e = c.find-found.ensures in
    let new = c.find-found.new.self in
    record {
      same = e.kept.such.setup ∙ inv.same;
      such = subst (λ (q : Setup). IsSuch q new.machine) inv.same e.kept.such;
      made = subst (λ (q : Setup). AreMade q v new.steps.made.items) inv.same e.kept.made;
      found = helped.found_more p z v c.loop-act.self.findings.items c.keep.new.findings.items c.find-found.result inv.found
          (subst (λ (q : Setup). IfSome c.find-found.result (λ (f : Finding). IsFound p q v f)) inv.same e.found)
          (subst (λ (fs : List Finding). MayKeep fs c.keep.new.findings.items c.find-found.result)
          (λ i. (e.kept.findings i).items) c.keep.ensures);
    }
