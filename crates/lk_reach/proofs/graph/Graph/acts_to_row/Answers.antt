use Rattle.lk_reach.proofs.{Closed.Laws, apart.Leading.{no_row, shortest_row}}
use Rattle.lk_reach.proofs.graph.Graph.acts_to_row.Goals as goal

pub returns-in_ok-acts-in-Some : goal.returns-in_ok-acts-in-Some
returns-in_ok-acts-in-Some c =
    let laws : Laws = record { runs = c.runs_keep.ensures.run; setup = c.acts_change_little.ensures.setup } in
    let first = c.in-Some.ensures in
    record {
      some = shortest_row laws c.args.self.now c.requires.graph c.in-Some.state c.args.row c.in_ok-acts-in-Some.acts.items
          c.in_ok-acts-in-Some.ensures first.some.1 first.first;
      none = tt;
    }

pub returns-in-None : goal.returns-in-None
returns-in-None c =
    let laws : Laws = record { runs = c.runs_keep.ensures.run; setup = c.acts_change_little.ensures.setup } in
    record {
      some = tt;
      none = λ whole acts moves. no_row laws c.args.self.now c.requires.graph c.args.row whole c.in-None.ensures.none acts moves;
    }
