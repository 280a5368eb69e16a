use Rattle.lk_run.proofs.RwTurning as on
use Rattle.lk_run.proofs.Turning as turn
use Rattle.lk_run.specs.declared.read_waiter.ReadPlace.TheVariants as place
use Rattle.lk_run.proofs.call.Reader.spin.Goals as goal

pub look_past-requires-clause-nested : goal.look_past-requires-clause-nested
look_past-requires-clause-nested c = on.two_calls c.requires.at

pub look_past-requires-clause-waits : goal.look_past-requires-clause-waits
look_past-requires-clause-waits c = on.at_nested c.requires

pub returns-then-look_past : goal.returns-then-look_past
returns-then-look_past c =
    let entered = c.look_past.ensures.entered c.if-look_past.true in
    turn.ends entered.rest (λ s t h. entered.has s t h.1)

pub returns : goal.returns
returns c =
    let held = c.look_past.ensures.held c.if-look_past.false in
    turn.rests place.Spins held.rest tt (λ s t h. (h.0, held.stays s t h.1))
