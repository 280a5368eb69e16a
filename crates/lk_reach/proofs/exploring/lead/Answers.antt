use Rattle.std.proofs.Common.{◌≡◌, ◌∙◌, ap, List, ℕ, Some, sym, subst, slice_get}
use Rattle.lk_reach.proofs.Names.{Machine, Setup, AreHelpers, IsReached, AreMade, Helper}
use Rattle.lk_reach.proofs.apart.Remembered.{made_grown}
use Rattle.lk_reach.specs.declared.steps.Steps.{Steps}
use Rattle.lk_reach.proofs.apart.Helped as helped
use Rattle.lk_reach.proofs.exploring.lead.Goals as goal

pub settle-requires : goal.settle-requires
settle-requires g c =
    let p = c.args.plan.now in
    let z = c.args.crew.now.machine.setup in
    let v = c.args.space.now in
    let f = c.in-Some.finding in
    let t = c.in-Some.ensures in
    helped.may_settle p z v c.args.here.now.spot.state f t.state c.requires.here.folds
    (helped.one_found p z v c.args.crew.now.helpers.list.items f c.requires.helpers t.one)

pub returns-in_ok-then-in-Some-clause-noted : goal.returns-in_ok-then-in-Some-clause-noted
returns-in_ok-then-in-Some-clause-noted g c s a at has reached =
    let p = c.args.plan.now in
    let z = c.args.crew.now.machine.setup in
    let v = c.args.space.now in
    let f = c.in-Some.finding in
    let t = c.in-Some.ensures in
    let act : slice_get p.acts.items f.act ≡ Some a = subst (λ (n : ℕ). slice_get p.acts.items n ≡ Some a) (sym t.act) at in
    helped.found_noted p z c.requires.here.begun v c.settle.new.space c.args.here.now c.in_ok-then-in-Some.then c.requires.here
    s a has reached (c.requires.moves c.args.number a at) f t.state act
    (helped.one_found p z v c.args.crew.now.helpers.list.items f c.requires.helpers t.one) c.in_ok-then-in-Some.ensures

pub returns-in_ok-then-in-Some-clause-told : goal.returns-in_ok-then-in-Some-clause-told
returns-in_ok-then-in-Some-clause-told g c s a at has reached =
    let p = c.args.plan.now in
    let z = c.args.crew.now.machine.setup in
    let v = c.args.space.now in
    let f = c.in-Some.finding in
    let t = c.in-Some.ensures in
    let act : slice_get p.acts.items f.act ≡ Some a = subst (λ (n : ℕ). slice_get p.acts.items n ≡ Some a) (sym t.act) at in
    helped.found_told p z c.requires.here.begun v c.settle.new.space c.args.here.now c.in_ok-then-in-Some.then c.requires.here
    s a has reached (c.requires.moves c.args.number a at) f t.state act
    (helped.one_found p z v c.args.crew.now.helpers.list.items f c.requires.helpers t.one)

pub returns-in_ok-then-in-Some-clause-helpers : goal.returns-in_ok-then-in-Some-clause-helpers
returns-in_ok-then-in-Some-clause-helpers g c =
    let p = c.args.plan.now in
    let z = c.args.crew.now.machine.setup in
    let v = c.args.space.now in
    let w = c.settle.new.space in
    subst (λ (hs : List Helper). AreHelpers p z w hs) (sym c.in-Some.ensures.helpers)
    (helped.helpers_grown p z v w
    (helped.settled_grows p z v w c.args.here.now.spot.state c.in-Some.finding.then c.in_ok-then-in-Some.then c.in_ok-then-in-Some.ensures)
    c.args.crew.now.helpers.list.items c.requires.helpers)

pub returns-in_ok-then-in-Some-clause-made : goal.returns-in_ok-then-in-Some-clause-made
returns-in_ok-then-in-Some-clause-made g c =
    let p = c.args.plan.now in
    let z = c.args.crew.now.machine.setup in
    let v = c.args.space.now in
    let w = c.settle.new.space in
    subst (λ (x : Steps). AreMade z w x.made.items) (sym c.in-Some.ensures.steps)
    (made_grown z v w (helped.settled_grows p z v w c.args.here.now.spot.state c.in-Some.finding.then c.in_ok-then-in-Some.then c.in_ok-then-in-Some.ensures)
    c.args.crew.now.steps.made.items c.requires.made)

pub returns-in_ok-found-in-None-clause-helpers : goal.returns-in_ok-found-in-None-clause-helpers
returns-in_ok-found-in-None-clause-helpers g c =
    let p = c.args.plan.now in
    let z = c.args.crew.now.machine.setup in
    let v = c.args.space.now in
    let w = c.visit.new.space in
    let here = c.requires.here in
    let same = ap (λ (m : Machine). m.setup) c.in-None.ensures.machine in
    let e = c.in_ok-found-in-None.ensures in
    let grows = (e.noted here.state here.keeps
    (subst (λ (q : Setup). IsReached p q here.state) (sym same) here.reached)).grows in
    subst (λ (hs : List Helper). AreHelpers p z w hs) (sym (e.helpers ∙ c.in-None.ensures.helpers))
    (helped.helpers_grown p z v w grows c.args.crew.now.helpers.list.items c.requires.helpers)
