use Rattle.std.proofs.Common.{refl}
use Rattle.lk_pvdomain.proofs.{ways.Arrives.kept, ways.Leads.{fill_asks, e6_enters}}
use Rattle.lk_pvdomain.proofs.call.Queued.enter_hash.Goals as goal

pub put_in-requires : goal.put_in-requires
put_in-requires c =
    let w = c.requires.1 in
    record { on = (_, w.of); lock = w.low; node = w.of.near; row = fill_asks w c.args.self.now.own refl w.has }

pub returns-clause-enters : goal.returns-clause-enters
returns-clause-enters c e s w = e6_enters c.put_in.ensures.same w (c.put_in.ensures.fills e)

pub returns-clause-stays : goal.returns-clause-stays
returns-clause-stays c e s w = kept c.put_in.ensures.same w (c.put_in.ensures.stays e)
