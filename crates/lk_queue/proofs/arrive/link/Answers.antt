use Rattle.lk_rows.specs.declared.parts.Pc.TheVariants.{G5}
use Rattle.lk_queue.proofs.arrive.link.Goals as goal

pub set_next-requires : goal.set_next-requires
set_next-requires c = rw (c.named-prev.ensures, c.frame-frame.ensures) (c.requires.ready.reaches G5 c.requires.here)
