use Rattle.lk_order.proofs.orders.Orders.note_nested.Goals as goal

pub note_while_held-requires : goal.note_while_held-requires
note_while_held-requires c = rw c.program-ops.ensures (c.requires.lawful.short c.args.cpu c.args.number)
