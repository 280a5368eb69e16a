use Rattle.std.proofs.Common.{arith}
use Rattle.lk_reach.proofs.{Folded.laws, apart.Leading.{are_low, path_leads, way_to}}
use Rattle.lk_reach.proofs.graph.Graph.acts_to.Goals as goal

pub path_to-requires : goal.path_to-requires
path_to-requires c =
    let g = c.args.self.now in
    let there = c.requires.there in
    let count = c.requires.graph.explored.count in
    record {
      low = are_low g.plan g.machine.setup g.space g.book g.left c.requires.graph.explored;
      there = omega (arith, there, count);
    }

pub returns : goal.returns
returns c =
    let g = c.args.self.now in
    let acts = c.in_ok-acts.acts.items in
    way_to laws g c.requires.graph c.args.state acts c.requires.there
    (path_leads laws g c.requires.graph acts 0 c.args.state c.in_ok-acts.ensures)
