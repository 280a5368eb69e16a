use Rattle.lk_rows.specs.declared.parts.Pc.TheVariants.{C6}
use Rattle.lk_cna.proofs.part.set_tail.Goals as goal

pub set_second_tail-requires : goal.set_second_tail-requires
set_second_tail-requires c = rw (c.named-first.ensures, c.frame-frame.ensures) (c.requires.ready.ready.reaches C6 c.requires.here)
