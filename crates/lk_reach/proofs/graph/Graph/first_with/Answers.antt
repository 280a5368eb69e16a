use Rattle.std.proofs.Common.{arith}
use Rattle.lk_reach.proofs.Names.{slice_get_within}
use Rattle.lk_reach.proofs.graph.Graph.first_with.Goals as goal

pub returns-clause-none : goal.returns-clause-none
returns-clause-none c = λ k s has cpus made.
    let low = slice_get_within c.args.self.now.space.keys k has.key has.is in
    let end = c.loop-state-test.false in
    let count = c.states-state-end.ensures in
    c.loop-state.invariant k (omega (arith, low, end, count)) s has cpus made
