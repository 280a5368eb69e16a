use Rattle.std.proofs.Common.{subst}
use Rattle.lk_reach.proofs.Names.{IsWay, Graph}
use Rattle.lk_reach.proofs.{Closed.Laws, Ending.{no_stuck, shortest_stuck}, apart.Finding.way_same}
use Rattle.lk_reach.proofs.graph.Graph.acts_to_stuck.Goals as goal

pub returns-in-Some : goal.returns-in-Some
returns-in-Some c =
    let laws : Laws = record { runs = c.runs_keep.ensures.run; setup = c.acts_change_little.ensures.setup } in
    let g = c.args.self.now in
    let k = c.in-Some.state in
    let acts = c.in_ok-acts-in-Some.acts.items in
    let re = c.stuck.ensures.same in
    record {
      some = shortest_stuck laws g c.requires.graph c.in_ok-marks.marks.items k acts c.in_ok-marks.ensures.marks c.in-Some.ensures.some
          (way_same g c.stuck.new.self.machine re.such k acts
          (subst (λ (h : Graph). IsWay h k acts) re.same c.in_ok-acts-in-Some.ensures));
      none = tt;
      graph = c.stuck.ensures.graph;
    }

pub returns : goal.returns
returns c =
    let laws : Laws = record { runs = c.runs_keep.ensures.run; setup = c.acts_change_little.ensures.setup } in
    record {
      some = tt;
      none = no_stuck laws c.args.self.now c.requires.graph c.in_ok-marks.marks.items c.in_ok-marks.ensures.marks c.in-None.ensures.none c.requires.whole;
      graph = c.stuck.ensures.graph;
    }
