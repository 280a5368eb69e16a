use Rattle.lk_rows.specs.declared.parts.Pc.TheVariants.{E15}
use Rattle.lk_pv.proofs.hand.hand_on.Goals as goal

pub hand-event-requires-clause-next : goal.hand-event-requires-clause-next
hand-event-requires-clause-next c = rw (c.named.ensures, c.frame-frame.ensures) (c.requires.ready.ready.reaches E15 c.requires.here)
