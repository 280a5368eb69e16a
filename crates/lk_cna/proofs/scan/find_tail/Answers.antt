use Rattle.lk_rows.specs.declared.parts.Pc.TheVariants.{C3}
use Rattle.lk_cna.proofs.scan.find_tail.Goals as goal

pub node-tail-requires : goal.node-tail-requires
node-tail-requires c = rw (c.named.ensures, c.frame-frame.ensures) (c.requires.ready.ready.reaches C3 c.requires.here)
