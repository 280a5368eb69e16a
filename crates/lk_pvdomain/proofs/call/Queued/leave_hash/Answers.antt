use Rattle.std.proofs.Common.{refl}
use Rattle.lk_pvdomain.proofs.ways.Leads.{seek_asks, e9_empties}
use Rattle.lk_pvdomain.proofs.call.Queued.leave_hash.Goals as goal

pub take_out-requires : goal.take_out-requires
take_out-requires c =
    let w = c.requires.1 in
    record { on = (_, w.of); lock = w.low; row = seek_asks w refl; fresh = w.fresh }

pub returns : goal.returns
returns c s w = e9_empties c.take_out.ensures.same w c.take_out.ensures.step
