use Rattle.std.proofs.Common.{refl}
use Rattle.lk_pvdomain.proofs.{ways.Leads.e2_runs, ways.Waits.{mine, told_asks}}
use Rattle.lk_pvdomain.proofs.call.Queued.run_as_head.Goals as goal

pub store_state-requires : goal.store_state-requires
store_state-requires c =
    let w = c.requires.1 in
    let own = c.args.self.now.own in
    record { on = (_, w.of); node = w.of.near; row = told_asks w own _ refl (mine w.frame own w.has.me) refl }

pub returns : goal.returns
returns c s w = e2_runs c.store_state.ensures.same w c.store_state.ensures.step
