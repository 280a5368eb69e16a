use Rattle.std.proofs.Common.{arith}
use Rattle.lk_reach.proofs.Listed.{push_puts}
use Rattle.lk_reach.proofs.numbers.padded.set_item.Goals as goal

pub returns : goal.returns
returns g c =
    let count = c.len.ensures in
    let high = c.if-at-len.false in
    push_puts c.args.zero c.args.items.now.items c.pad.new.items.items c.push_item.new.items.items c.args.«at» c.args.item
    c.in_ok-pad.ensures (omega (arith, count, high)) c.in_ok-push_item.ensures
