use Rattle.lk_abs.proofs.Steps.{counted-step}
use Rattle.lk_abs.proofs.queues.count_on.Goals as goal

pub loop-at-preserved : goal.loop-at-preserved
loop-at-preserved c =
    record { items = counted-step c.args.passes.now.items c.loop-at.passes.items c.loop-at.at c.get_mut-count.result.now c.loop-at.invariant.items c.get_mut-count.ensures.value; room = c.loop-at.invariant.room }
