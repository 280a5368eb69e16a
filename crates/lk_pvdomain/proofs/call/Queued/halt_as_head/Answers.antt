use Rattle.std.proofs.Common.{refl}
use Rattle.lk_pvdomain.proofs.{ways.Leads.e12_halts, ways.Waits.halt_asks}
use Rattle.lk_pvdomain.proofs.call.Queued.halt_as_head.Goals as goal

pub halt-requires : goal.halt-requires
halt-requires c =
    let w = c.requires.1 in
    record { of = w.of; row = halt_asks w refl; awake = w.awake }

pub returns : goal.returns
returns c s w = e12_halts c.halt.ensures.same w c.halt.ensures.step
