use Rattle.lk_pvdomain.proofs.Names.{table_of}
use Rattle.lk_pvdomain.proofs.{ways.Arrives.{link_asks, g5_links}, ways.Ways.numbered}
use Rattle.lk_pvdomain.proofs.call.Queued.link.Goals as goal

pub link-requires : goal.link-requires
link-requires c =
    let w = c.requires.waits.1 in
    record { table = table_of c.args.self.now.domain.now; seat = w.of.table_is; number = numbered w; prev = c.requires.prev; own = w.of.near; row = link_asks w }

pub returns : goal.returns
returns c s w = g5_links c.link.ensures.same w c.link.ensures.step.1
