use Rattle.std.proofs.Common.{refl}
use Rattle.lk_pvdomain.proofs.Names.{eqb-false, eqb-true}
use Rattle.lk_pvdomain.proofs.{ways.Leads.{e1_hashed, e1_else}, ways.Waits.{mine, look_asks}}
use Rattle.lk_pvdomain.proofs.call.Queued.look_at_state.Goals as goal

pub look_state-requires : goal.look_state-requires
look_state-requires c =
    let w = c.requires.1 in
    let own = c.args.self.now.own in
    record { on = (_, w.of); node = w.of.near; row = look_asks w own refl (mine w.frame own w.has) }

pub returns-clause-hashed : goal.returns-clause-hashed
returns-clause-hashed c e s w = e1_hashed c.look_state.ensures.same w c.look_state.ensures.step (eqb-true _ _ e)

pub returns-clause-other : goal.returns-clause-other
returns-clause-other c e s w = e1_else c.look_state.ensures.same w c.look_state.ensures.step (eqb-false _ _ e)
