use Rattle.std.proofs.Common.{arith, List, ap, ◌≡◌, ◌≤◌, ◌∙◌, length, refl, sym, subst}
use Rattle.lk_reach.proofs.Names.{Machine, Setup, IsExplored, IsSuch, AreFresh, AreHelpers, IsBegun}
use Rattle.lk_reach.proofs.Names.{IsReached, bare, cpus_of, start_of, Keeps, Helper}
use Rattle.lk_reach.proofs.Left as left
use Rattle.lk_reach.proofs.Closed as closed
use Rattle.lk_reach.proofs.apart.Helped as helped
use Rattle.lk_reach.proofs.Known as known
use Rattle.lk_reach.proofs.apart.Noted as noted
use Rattle.lk_reach.proofs.exploring.explore.Goals as goal

pub leave_all-requires-clause-few : goal.leave_all-requires-clause-few
leave_all-requires-clause-few g c κs outlives =
    let m = c.args.machine in
    let e = c.in_ok-met.ensures in
    let same : c.new-crew.result.machine ≡ m = c.new-crew.ensures.machine ∙ e.machine in
    subst (λ (q : Machine). length q.cpus ≤ 8) (sym same) c.requires.few

pub leave_all-requires-clause-begun : goal.leave_all-requires-clause-begun
leave_all-requires-clause-begun g c κs outlives =
    let p = c.args.plan in
    let m = c.args.machine in
    let e = c.in_ok-met.ensures in
    let same : c.new-crew.result.machine ≡ m = c.new-crew.ensures.machine ∙ e.machine in
    subst (λ (q : Machine). IsBegun p q.setup) (sym same) c.requires.start.begun

pub leave_all-requires-clause-such : goal.leave_all-requires-clause-such
leave_all-requires-clause-such g c κs outlives =
    let p = c.args.plan in
    let m = c.args.machine in
    let e = c.in_ok-met.ensures in
    let same : c.new-crew.result.machine ≡ m = c.new-crew.ensures.machine ∙ e.machine in
    let z = m.setup in
    let laws : closed.Laws = record { runs = c.runs_keep.ensures.run; setup = c.acts_change_little.ensures.setup } in
    let begun = c.requires.start.begun in
    let such : IsSuch z m = subst (λ (q : Machine). IsSuch z q) (sym c.requires.start.there)
    (closed.reached_such laws p z begun (bare (start_of p z)) (closed.reached_start laws p z begun)) in
    subst (λ (q : Machine). IsSuch q.setup q) (sym same) such

pub leave_all-requires-clause-helpers : goal.leave_all-requires-clause-helpers
leave_all-requires-clause-helpers g c κs outlives =
    let p = c.args.plan in
    let m = c.args.machine in
    let e = c.in_ok-met.ensures in
    let same : c.new-crew.result.machine ≡ m = c.new-crew.ensures.machine ∙ e.machine in
    let crew = c.new-crew.result in
    subst (λ (hs : List Helper). AreHelpers p crew.machine.setup c.in_ok-met.met.space hs) (sym c.new-crew.ensures.helpers)
    (helped.fresh_helpers p crew.machine.setup c.in_ok-met.met.space c.args.helpers.list.items
    (subst (λ (q : Machine). AreFresh q.setup c.args.helpers.list.items) (sym same) c.requires.helpers))

pub leave_all-requires-clause-made : goal.leave_all-requires-clause-made
leave_all-requires-clause-made g c κs outlives =
    helped.none_made c.new-crew.result.machine.setup c.in_ok-met.met.space c.new-crew.result.steps.made.items
    c.new-crew.ensures.steps

pub leave_all-requires-clause-explored : goal.leave_all-requires-clause-explored
leave_all-requires-clause-explored g c κs outlives =
    let p = c.args.plan in
    let m = c.args.machine in
    let e = c.in_ok-met.ensures in
    let same : c.new-crew.result.machine ≡ m = c.new-crew.ensures.machine ∙ e.machine in
    let z = m.setup in
    let laws : closed.Laws = record { runs = c.runs_keep.ensures.run; setup = c.acts_change_little.ensures.setup } in
    let begun = c.requires.start.begun in
    let there = c.requires.start.there in
    let v = c.in_ok-met.met.space in
    let count = e.count in
    let new = e.book in
    let keeps : Keeps v 0 (bare (start_of p z)) = subst (λ (q : Machine). Keeps v 0 q) there e.keeps in
    subst (λ (q : Machine). IsExplored p q.setup v c.in_ok-met.met.book 0) (sym same)
    (left.explored_start p z laws begun c.requires.start.acts v c.in_ok-met.met.book 0 new keeps
    (λ k low. omega (arith, low, count))
    (λ folds. noted.first_folds p z begun v m there count e.keeps (e.folds folds).0 (e.folds folds).1))

pub leave_all-requires-clause-columns : goal.leave_all-requires-clause-columns
leave_all-requires-clause-columns g c κs outlives = c.in_ok-met.ensures.book.columns

pub returns : goal.returns
returns g c =
    let p = c.args.plan in
    let m = c.args.machine in
    let z = m.setup in
    let laws : closed.Laws = record { runs = c.runs_keep.ensures.run; setup = c.acts_change_little.ensures.setup } in
    let e = c.in_ok-left.ensures in
    let begun = c.requires.start.begun in
    let start : IsReached p z m = subst (λ (q : Machine). IsReached p z q) (sym c.requires.start.there)
    (closed.reached_start laws p z begun) in
    let few = c.requires.few in
    let count = c.cpus-cpus.ensures in
    let same = ap (λ (q : Machine). q.setup) (c.new-crew.ensures.machine ∙ c.in_ok-met.ensures.machine) in
    let last = c.machine-machine.ensures in
    let now = c.machine-machine.result in
    let explored = subst (λ (q : Setup). IsExplored p q c.leave_all.new.space c.leave_all.new.book c.in_ok-left.left)
    same e.explored in
    let such = subst (λ (q : Machine). IsSuch z q) (sym last)
    (subst (λ (q : Setup). IsSuch q c.leave_all.new.crew.machine) same e.such) in
    let setup = ap (λ (q : Machine). q.setup) last ∙ e.setup ∙ same in
    let back = sym setup in
    record {
      all = λ whole acts moves.
          let met = known.whole_met laws p z begun c.leave_all.new.space c.leave_all.new.book c.in_ok-left.left explored whole acts moves in
          (met.number, met.like);
      only = explored.good;
      graph = record {
        begun = subst (λ (q : Setup). IsBegun p q) back begun;
        explored = subst (λ (q : Setup). IsExplored p q c.leave_all.new.space c.leave_all.new.book c.in_ok-left.left) back explored;
        columns = e.columns;
        within = e.within;
        cpus = subst (λ (q : Setup). c.cpus-cpus.result ≡ cpus_of q) back
            (count ∙ (closed.reached_such laws p z begun m start).cpus);
        few = omega (arith, few, count);
        such = subst (λ (q : Setup). IsSuch q now) back such;
      };
      plan = refl;
      setup = setup;
    }
