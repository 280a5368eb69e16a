use Rattle.lk_order.proofs.orders.Orders.note_interrupted.Goals as goal

pub note_above-requires : goal.note_above-requires
note_above-requires c = rw c.program-ops.ensures (c.requires.lawful.short c.args.cpu c.loop-program.program)
