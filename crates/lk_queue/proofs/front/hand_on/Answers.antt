use Rattle.lk_rows.specs.declared.parts.Pc.TheVariants.{G11}
use Rattle.lk_queue.proofs.front.hand_on.Goals as goal

pub hand-event-requires-clause-next : goal.hand-event-requires-clause-next
hand-event-requires-clause-next c = rw (c.named.ensures, c.frame-frame.ensures) (c.requires.ready.reaches G11 c.requires.here)
