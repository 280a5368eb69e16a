use Rattle.std.proofs.Common.{arith}
use Rattle.lk_reach.proofs.Names.{slice_get_within}
use Rattle.lk_reach.proofs.Closed.{Laws}
use Rattle.lk_reach.proofs.apart.Finding.{acts_name_cpus, all_stepped, graph_same, never_done}
use Rattle.lk_reach.proofs.apart.Finding.{shortest_deed, way_same}
use Rattle.lk_reach.proofs.graph.Graph.acts_to_deed.Goals as goal

pub first_deed-requires : goal.first_deed-requires
first_deed-requires c =
    let laws : Laws = record { runs = c.runs_keep.ensures.run; setup = c.acts_change_little.ensures.setup } in
    let g = c.args.self.now in
    let is = c.requires.graph in
    let few = is.few in
    let cpus = is.cpus in
    let such = is.such.cpus in
    record {
      few = omega (arith, few, cpus, such);
      such = is.such;
      stepped = all_stepped laws g is;
      range = acts_name_cpus laws g is;
    }

pub act-last-requires : goal.act-last-requires
act-last-requires c =
    let done = c.in-Some.ensures.some.done in
    slice_get_within c.args.self.now.plan.acts.items c.in-Some.number done.act done.is

pub acts_to-requires : goal.acts_to-requires
acts_to-requires c = record {
  graph = graph_same c.args.self.now c.first_deed.new.machine c.first_deed.ensures.such c.requires.graph;
  there = c.in-Some.ensures.some.there;
}

pub returns-in_ok-acts-in-Some : goal.returns-in_ok-acts-in-Some
returns-in_ok-acts-in-Some c =
    let laws : Laws = record { runs = c.runs_keep.ensures.run; setup = c.acts_change_little.ensures.setup } in
    let g = c.args.self.now in
    let such = c.first_deed.ensures.such in
    let m = c.first_deed.new.machine in
    record {
      some = shortest_deed laws g c.requires.graph c.args.sought c.requires.any c.in-Some.state c.in-Some.number c.in_ok-acts-in-Some.acts.items c.act-last.result
          c.in-Some.ensures.some c.act-last.ensures (way_same g m such c.in-Some.state c.in_ok-acts-in-Some.acts.items c.in_ok-acts-in-Some.ensures);
      none = tt;
      graph = graph_same g m such c.requires.graph;
    }

pub returns-in-None : goal.returns-in-None
returns-in-None c =
    let laws : Laws = record { runs = c.runs_keep.ensures.run; setup = c.acts_change_little.ensures.setup } in
    let g = c.args.self.now in
    record {
      some = tt;
      none = λ whole. never_done laws g c.requires.graph c.args.sought c.requires.any c.in-None.ensures.none whole;
      graph = graph_same g c.first_deed.new.machine c.first_deed.ensures.such c.requires.graph;
    }
