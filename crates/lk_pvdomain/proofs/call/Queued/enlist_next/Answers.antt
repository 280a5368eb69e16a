use Rattle.std.proofs.Common.{refl}
use Rattle.lk_pvdomain.proofs.{ways.Arrives.kept, ways.Hands.k3_leaves, ways.Leads.fill_asks}
use Rattle.lk_pvdomain.proofs.call.Queued.enlist_next.Goals as goal

pub put_in-requires : goal.put_in-requires
put_in-requires c =
    let w = c.requires.waits.1 in
    record { on = (_, w.of); lock = w.low; node = c.requires.to; row = fill_asks w c.args.to refl w.has.next }

pub returns-then-put_in : goal.returns-then-put_in
returns-then-put_in c s w = k3_leaves c.put_in.ensures.same w (c.put_in.ensures.fills c.if-put_in.true)

pub returns : goal.returns
returns c s w = (c.requires.to, kept c.put_in.ensures.same w (c.put_in.ensures.stays c.if-put_in.false))
