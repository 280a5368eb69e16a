use Rattle.std.proofs.Common.{arith, ◌∙◌, ◌+◌, ap, length, sym, subst}
use Rattle.lk_reach.proofs.Names.{slice_get_within, Machine, Setup, IsExplored, IsSuch, AreHelpers}
use Rattle.lk_reach.proofs.Names.{HaveWays, MayLook, IsBegun, SpaceValue, AreMade}
use Rattle.lk_reach.proofs.apart.Leading.{ways_of}
use Rattle.lk_reach.specs.declared.steps.Steps.{Steps}
use Rattle.lk_reach.proofs.exploring.leave_all.Goals as goal

pub look_ahead-requires-clause-may : goal.look_ahead-requires-clause-may
look_ahead-requires-clause-may g c κs outlives =
    let inv = c.loop-state.invariant in
    let p = c.args.plan.now in
    let v = c.loop-state.space in
    let before = c.requires.such.cpus in
    let few = c.requires.few in
    let may : MayLook p v c.args.crew.now.machine.setup = record {
      few = omega (arith, before, few);
      begun = c.requires.begun;
      moves = inv.explored.acts.only;
      good = inv.explored.good;
      folds = inv.explored.folds;
    } in
    subst (λ (q : Setup). MayLook p v q) (sym inv.same) may

pub look_ahead-requires-clause-ways : goal.look_ahead-requires-clause-ways
look_ahead-requires-clause-ways g c κs outlives =
    let inv = c.loop-state.invariant in
    let p = c.args.plan.now in
    let v = c.loop-state.space in
    let b = c.loop-state.book in
    subst (λ (q : Setup). HaveWays p b v q) (sym inv.same)
    (ways_of p c.args.crew.now.machine v b c.loop-state.state c.requires.begun inv.explored inv.columns c.requires.few
    c.requires.such inv.within)

pub look_ahead-requires-clause-helpers : goal.look_ahead-requires-clause-helpers
look_ahead-requires-clause-helpers g c κs outlives =
    let inv = c.loop-state.invariant in
    subst (λ (q : Setup). AreHelpers c.args.plan.now q c.loop-state.space c.loop-state.crew.helpers.list.items) (sym inv.same)
    inv.helpers

pub leave-requires-clause-few : goal.leave-requires-clause-few
leave-requires-clause-few g c κs outlives =
    let many = ap (λ (m : Machine). length m.cpus) c.look_ahead.ensures.machine in
    let cpus = c.loop-state.invariant.such.cpus in
    let before = c.requires.such.cpus in
    let few = c.requires.few in
    omega (arith, many, cpus, before, few)

pub leave-requires-clause-begun : goal.leave-requires-clause-begun
leave-requires-clause-begun g c κs outlives =
    let same = ap (λ (m : Machine). m.setup) c.look_ahead.ensures.machine ∙ c.loop-state.invariant.same in
    subst (λ (q : Setup). IsBegun c.args.plan.now q) (sym same) c.requires.begun

pub leave-requires-clause-such : goal.leave-requires-clause-such
leave-requires-clause-such g c κs outlives =
    let inv = c.loop-state.invariant in
    let e = c.look_ahead.ensures in
    let n = c.look_ahead.new.self.machine in
    let same = ap (λ (m : Machine). m.setup) e.machine ∙ inv.same in
    subst (λ (q : Setup). IsSuch q n) (sym same)
    (subst (λ (m : Machine). IsSuch c.args.crew.now.machine.setup m) (sym e.machine) inv.such)

pub leave-requires-clause-helpers : goal.leave-requires-clause-helpers
leave-requires-clause-helpers g c κs outlives =
    let e = c.look_ahead.ensures in
    subst (λ (q : Setup). AreHelpers c.args.plan.now q c.look_ahead.new.space c.look_ahead.new.self.helpers.list.items)
    (sym (ap (λ (m : Machine). m.setup) e.machine)) e.helpers

pub leave-requires-clause-made : goal.leave-requires-clause-made
leave-requires-clause-made g c κs outlives =
    let e = c.look_ahead.ensures in
    let same = ap (λ (m : Machine). m.setup) e.machine ∙ c.loop-state.invariant.same in
    subst (λ (q : Setup). AreMade q c.look_ahead.new.space c.look_ahead.new.self.steps.made.items) (sym same)
    (subst (λ (v : SpaceValue). AreMade c.args.crew.now.machine.setup v c.look_ahead.new.self.steps.made.items) (sym e.space)
    (subst (λ (x : Steps). AreMade c.args.crew.now.machine.setup c.loop-state.space x.made.items) (sym e.steps)
    c.loop-state.invariant.made))

pub leave-requires-clause-there : goal.leave-requires-clause-there
leave-requires-clause-there g c κs outlives =
    let within = c.loop-state.invariant.within in
    let other = c.if-state-len.false in
    let len = c.len.ensures in
    let many = ap (λ (v : SpaceValue). length v.keys) c.look_ahead.ensures.space in
    omega (arith, within, other, len, many)

pub leave-requires-clause-explored : goal.leave-requires-clause-explored
leave-requires-clause-explored g c κs outlives =
    let inv = c.loop-state.invariant in
    let same = ap (λ (m : Machine). m.setup) c.look_ahead.ensures.machine ∙ inv.same in
    subst (λ (v : SpaceValue). IsExplored c.args.plan.now c.look_ahead.new.self.machine.setup v c.loop-state.book c.loop-state.state)
    (sym c.look_ahead.ensures.space)
    (subst (λ (q : Setup). IsExplored c.args.plan.now q c.loop-state.space c.loop-state.book c.loop-state.state) (sym same)
    inv.explored)

pub leave-requires-clause-columns : goal.leave-requires-clause-columns
leave-requires-clause-columns g c κs outlives = c.loop-state.invariant.columns

pub loop-state-preserved : goal.loop-state-preserved
loop-state-preserved g c =
    let inv = c.loop-state.invariant in
    let p = c.args.plan.now in
    let ahead = c.look_ahead.ensures in
    let same = ap (λ (m : Machine). m.setup) ahead.machine ∙ inv.same in
    let e = c.in_ok-leave.ensures in
    let n = c.loop-state.state in
    let w = c.leave.new.space in
    let d = c.leave.new.book in
    let explored = subst (λ (q : Setup). IsExplored p q w d (n + 1)) same e.explored in
    let now = explored.left n (omega arith) in
    let low = slice_get_within w.keys n now.keeps.key now.keeps.is in
    record {
      such = subst (λ (q : Setup). IsSuch q c.leave.new.crew.machine) same e.such;
      same = e.setup ∙ same;
      explored = explored;
      columns = e.columns;
      made = subst (λ (q : Setup). AreMade q w c.leave.new.crew.steps.made.items) same e.made;
      helpers = subst (λ (q : Setup). AreHelpers p q w c.leave.new.crew.helpers.list.items) same e.helpers;
      within = omega (arith, low);
    }
