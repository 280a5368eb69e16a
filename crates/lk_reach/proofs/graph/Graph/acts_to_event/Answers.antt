use Rattle.std.proofs.Common.{List, subst, sym}
use Rattle.lk_reach.proofs.Names.{slice_get_within, Act}
use Rattle.lk_reach.proofs.{Closed.Laws, apart.Leading.{never_told, shortest_event}}
use Rattle.lk_reach.specs.Told.{IsShortestToEvent}
use Rattle.lk_reach.proofs.graph.Graph.acts_to_event.Goals as goal

pub acts_to-requires : goal.acts_to-requires
acts_to-requires c =
    let told = c.requires.graph.explored.tellings c.args.kind c.in-Some.origin c.in-Some.ensures.some in
    record {
      graph = c.requires.graph;
      there = slice_get_within c.args.self.now.space.keys c.in-Some.origin.state told.made.keeps.key told.made.keeps.is;
    }

pub act_of-requires : goal.act_of-requires
act_of-requires c =
    let told = c.requires.graph.explored.tellings c.args.kind c.in-Some.origin c.in-Some.ensures.some in
    slice_get_within c.args.self.now.plan.acts.items c.in-Some.origin.act told.made.act told.made.doing

pub returns-in_ok-add-in-Some : goal.returns-in_ok-add-in-Some
returns-in_ok-add-in-Some c =
    let laws : Laws = record { runs = c.runs_keep.ensures.run; setup = c.acts_change_little.ensures.setup } in
    let g = c.args.self.now in
    record {
      some = subst (λ (acts : List Act). IsShortestToEvent g c.args.kind acts) (sym c.in_ok-add-in-Some.ensures)
          (shortest_event laws g c.requires.graph c.args.kind c.in-Some.origin c.in_ok-acts-in-Some.acts.items c.act_of.result
          c.in-Some.ensures.some c.in_ok-acts-in-Some.ensures c.act_of.ensures);
      none = tt;
    }

pub returns-in-None : goal.returns-in-None
returns-in-None c =
    let laws : Laws = record { runs = c.runs_keep.ensures.run; setup = c.acts_change_little.ensures.setup } in
    record {
      some = tt;
      none = λ whole. never_told laws c.args.self.now c.requires.graph c.args.kind whole c.in-None.ensures.none;
    }
