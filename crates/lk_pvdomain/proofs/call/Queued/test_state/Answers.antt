use Rattle.std.proofs.Common.{refl}
use Rattle.lk_pvdomain.proofs.Names.{eqb-false, eqb-true}
use Rattle.lk_pvdomain.proofs.ways.Waits.{mine, look_asks, w5_halted, w5_else}
use Rattle.lk_pvdomain.proofs.call.Queued.test_state.Goals as goal

pub look_state-requires : goal.look_state-requires
look_state-requires c =
    let w = c.requires.1 in
    let own = c.args.self.now.own in
    record { on = (_, w.of); node = w.of.near; row = look_asks w own refl (mine w.frame own w.has.me) }

pub returns-clause-halted : goal.returns-clause-halted
returns-clause-halted c e s w = w5_halted c.look_state.ensures.same w c.look_state.ensures.step (eqb-true _ _ e)

pub returns-clause-other : goal.returns-clause-other
returns-clause-other c e s w = w5_else c.look_state.ensures.same w c.look_state.ensures.step (eqb-false _ _ e)
