use Rattle.lk_rows.specs.declared.parts.Pc.TheVariants.{C7}
use Rattle.lk_cna.proofs.hand.count.Goals as goal

pub set_runs-requires : goal.set_runs-requires
set_runs-requires c = rw (c.named-next.ensures, c.frame-frame.ensures) (c.requires.ready.ready.reaches C7 c.requires.here)
