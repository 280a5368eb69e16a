use Rattle.std.proofs.Common.{refl}
use Rattle.lk_pvdomain.proofs.Names.{eqb-false, eqb-true, table_of}
use Rattle.lk_pvdomain.proofs.{ways.Leads.{un_off, un_on}, ways.Waits.{flag_asks, w1_set, w1_unset}}
use Rattle.lk_pvdomain.proofs.ways.Ways.{numbered}
use Rattle.lk_pvdomain.proofs.call.Queued.spin.Goals as goal

pub look_flag-requires : goal.look_flag-requires
look_flag-requires c =
    let w = c.requires.1 in
    record { table = table_of c.args.self.now.domain.now; seat = w.of.table_is; number = numbered w; own = w.of.near; row = flag_asks w refl w.has.me }

pub returns-clause-leads : goal.returns-clause-leads
returns-clause-leads c e s w = w1_set c.look_flag.ensures.same w c.look_flag.ensures.step (eqb-false _ _ (un_on _ e))

pub returns-clause-unset : goal.returns-clause-unset
returns-clause-unset c e s w = w1_unset c.look_flag.ensures.same w c.look_flag.ensures.step (eqb-true _ _ (un_off _ e))
