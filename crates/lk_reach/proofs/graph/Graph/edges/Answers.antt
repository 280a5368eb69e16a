use Rattle.std.proofs.Common.{length}
use Rattle.lk_reach.proofs.{Closed.Laws, Columns.leads_there, Ending.led}
use Rattle.lk_reach.proofs.graph.Graph.edges.Goals as goal

pub returns : goal.returns
returns c =
    let laws : Laws = record { runs = c.runs_keep.ensures.run; setup = c.acts_change_little.ensures.setup } in
    let g = c.args.self.now in
    let is = c.requires.graph in
    record {
      count = is.columns.edges;
      all = λ k i low within. leads_there g.book (length g.plan.acts.items) g.left k i is.columns low within;
      led = λ k i j leads. led laws g is k i j leads;
    }
