use Rattle.std.proofs.Common.{refl, arith}
use Rattle.std.proofs.lemmas.Bool.{leb-true, leb-false}
use Rattle.lk_pvdomain.proofs.ways.Waits.{before, look_asks, w2_stops, w2_last, w2_again}
use Rattle.lk_pvdomain.proofs.call.Queued.watch.Goals as goal

pub look_state-requires : goal.look_state-requires
look_state-requires c =
    let w = c.requires.waits.1 in
    let prev = c.args.spinning.prev in
    record { on = (_, w.of); node = c.requires.prev; row = look_asks w prev refl (before w.frame prev w.has.prev) }

pub returns-then-look_state-ne-RUNNING-clause-stops : goal.returns-then-look_state-ne-RUNNING-clause-stops
returns-then-look_state-ne-RUNNING-clause-stops c e s w = w2_stops c.look_state.ensures.same w c.look_state.ensures.step c.if-look_state-ne-RUNNING.true

pub returns-clause-stops : goal.returns-clause-stops
returns-clause-stops c e s w = w2_last c.look_state.ensures.same w c.look_state.ensures.step c.if-look_state-ne-RUNNING.false (leb-true c.args.spinning.left 1 e)

pub returns-clause-again : goal.returns-clause-again
returns-clause-again c e s w =
    w2_again c.look_state.ensures.same w c.look_state.ensures.step c.if-look_state-ne-RUNNING.false (λ z. let more = leb-false c.args.spinning.left 1 e in omega (arith, more, z))
