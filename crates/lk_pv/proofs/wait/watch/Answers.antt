use Rattle.lk_rows.specs.declared.parts.Pc.TheVariants.{W2}
use Rattle.lk_pv.proofs.wait.watch.Goals as goal

pub node-requires : goal.node-requires
node-requires c = rw (c.named.ensures, c.frame-frame.ensures) (c.requires.ready.ready.reaches W2 c.requires.here)
