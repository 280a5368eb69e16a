use Rattle.std.proofs.Common.{◌*◌}
use Rattle.lk_abs.proofs.Kicking.{roused-step}
use Rattle.lk_abs.proofs.kick_record.rouse.Goals as goal

pub loop-ctx-preserved : goal.loop-ctx-preserved
loop-ctx-preserved c =
    record { roused = roused-step c.args.asleep.now.items c.loop-ctx.asleep.items (c.args.cpu * 6) c.loop-ctx.ctx c.get_mut.result.now c.loop-ctx.invariant.roused c.get_mut.ensures.value; room = c.loop-ctx.invariant.room }
