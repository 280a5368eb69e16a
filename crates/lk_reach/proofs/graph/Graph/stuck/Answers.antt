use Rattle.std.proofs.Common.{arith, refl}
use Rattle.lk_reach.proofs.{Closed.Laws, Ending.stuck_all, apart.Finding.graph_same}
use Rattle.lk_reach.proofs.graph.Graph.stuck.Goals as goal

pub mark_going-requires : goal.mark_going-requires
mark_going-requires c =
    let is = c.requires.graph in
    let few = is.few in
    let cpus = is.cpus in
    let such = is.such.cpus in
    record {
      few = omega (arith, few, cpus, such);
      such = is.such;
      may = record { begun = is.begun; moves = is.explored.acts.only; good = is.explored.good };
      going = c.in_ok-marks.ensures;
    }

pub returns : goal.returns
returns c =
    let laws : Laws = record { runs = c.runs_keep.ensures.run; setup = c.acts_change_little.ensures.setup } in
    let g = c.args.self.now in
    let m = c.mark_going.new.machine in
    let such = c.mark_going.ensures.such in
    record {
      marks = stuck_all laws g c.requires.graph c.mark_going.new.marks.items c.turn.new.marks.items c.requires.whole
          c.in_ok-mark_going.ensures.going c.in_ok-mark_going.ensures.stays c.turn.ensures;
      graph = graph_same g m such c.requires.graph;
      whole = c.requires.whole;
      same = record { such = such; same = refl };
    }
