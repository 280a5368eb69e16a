use Rattle.std.proofs.Common.{arith}
use Rattle.lk_reach.proofs.Formed.{rests_count, rests_self, rests_then}
use Rattle.lk_reach.proofs.forms.free_nodes.Goals as goal

pub loop-index-init : goal.loop-index-init
loop-index-init c = rests_self c.args.machine.now c.args.cpu

pub free_node-requires-clause-cpu : goal.free_node-requires-clause-cpu
free_node-requires-clause-cpu c =
    let low = c.requires in
    let size = rests_count c.args.machine.now c.loop-index.machine c.args.cpu c.loop-index.invariant in
    omega (arith, low, size)

pub loop-index-preserved : goal.loop-index-preserved
loop-index-preserved c =
    rests_then c.args.machine.now c.loop-index.machine c.free_node.new.machine c.args.cpu c.requires
    c.loop-index.invariant c.free_node.ensures
