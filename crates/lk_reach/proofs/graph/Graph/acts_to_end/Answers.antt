use Rattle.lk_reach.proofs.{Closed.Laws, Ending.{no_end, shortest_end}}
use Rattle.lk_reach.proofs.graph.Graph.acts_to_end.Goals as goal

pub returns-in-Some : goal.returns-in-Some
returns-in-Some c =
    let laws : Laws = record { runs = c.runs_keep.ensures.run; setup = c.acts_change_little.ensures.setup } in
    record {
      some = shortest_end laws c.args.self.now c.requires.graph c.in_ok-marks.marks.items c.in-Some.state c.in_ok-acts-in-Some.acts.items
          c.in_ok-marks.ensures c.in-Some.ensures.some c.in_ok-acts-in-Some.ensures;
      none = tt;
    }

pub returns : goal.returns
returns c =
    let laws : Laws = record { runs = c.runs_keep.ensures.run; setup = c.acts_change_little.ensures.setup } in
    record {
      some = tt;
      none = λ whole. no_end laws c.args.self.now c.requires.graph c.in_ok-marks.marks.items c.in_ok-marks.ensures c.in-None.ensures.none whole;
    }
