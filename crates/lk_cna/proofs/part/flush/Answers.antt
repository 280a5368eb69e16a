use Rattle.lk_rows.specs.declared.parts.Pc.TheVariants.{C9}
use Rattle.lk_cna.proofs.part.flush.Goals as goal

pub set_next-requires : goal.set_next-requires
set_next-requires c = rw (c.named-tail.ensures, c.frame-frame.ensures) (c.requires.ready.ready.reaches C9 c.requires.here)
