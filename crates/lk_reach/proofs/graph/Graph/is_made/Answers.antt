use Rattle.lk_reach.proofs.apart.Used.{made_by, unmade_by}
use Rattle.lk_reach.proofs.graph.Graph.is_made.Goals as goal

pub returns : goal.returns
returns c =
    let g = c.args.self.now in
    let used = c.args.used.now.items in
    record {
      yes = λ yes. made_by g.space g.cpus used c.args.row c.requires (c.makes_used.ensures.yes yes);
      no = λ no. unmade_by g.space g.cpus used c.args.row c.requires (c.makes_used.ensures.no no);
    }
