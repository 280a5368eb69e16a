use Rattle.std.proofs.Common.{refl}
use Rattle.lk_pvdomain.proofs.Names.{eqb-false, eqb-true}
use Rattle.lk_pvdomain.proofs.{ways.Hands.{next_node, k1_leaves, k1_signs}, ways.Waits.rouse_asks}
use Rattle.lk_pvdomain.proofs.call.Queued.mark_hashed.Goals as goal

pub rouse-requires : goal.rouse-requires
rouse-requires c =
    let w = c.requires.waits.1 in
    record { on = (_, w.of); node = c.requires.to; row = rouse_asks w c.args.to _ refl (next_node w.frame c.args.to w.has.next) refl }

pub returns-clause-halted : goal.returns-clause-halted
returns-clause-halted c e s w = k1_signs c.rouse.ensures.same w c.rouse.ensures.step (eqb-true _ _ e)

pub returns-clause-runs : goal.returns-clause-runs
returns-clause-runs c e s w = k1_leaves c.rouse.ensures.same w c.rouse.ensures.step (eqb-false _ _ e)
