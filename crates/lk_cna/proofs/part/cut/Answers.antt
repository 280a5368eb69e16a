use Rattle.lk_rows.specs.declared.parts.Pc.TheVariants.{C5}
use Rattle.lk_cna.proofs.part.cut.Goals as goal

pub set_next-requires : goal.set_next-requires
set_next-requires c = rw (c.named-last.ensures, c.frame-frame.ensures) (c.requires.ready.ready.reaches C5 c.requires.here)
