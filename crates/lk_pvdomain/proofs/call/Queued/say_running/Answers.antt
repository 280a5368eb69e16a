use Rattle.std.proofs.Common.{refl}
use Rattle.lk_pvdomain.proofs.ways.Waits.{mine, rouse_asks, w7_wakes}
use Rattle.lk_pvdomain.proofs.call.Queued.say_running.Goals as goal

pub rouse-requires : goal.rouse-requires
rouse-requires c =
    let w = c.requires.1 in
    let own = c.args.self.now.own in
    record { on = (_, w.of); node = w.of.near; row = rouse_asks w own _ refl (mine w.frame own w.has.me) refl }

pub returns : goal.returns
returns c s w = w7_wakes c.rouse.ensures.same w c.rouse.ensures.step
