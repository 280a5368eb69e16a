use Rattle.lk_rows.specs.declared.parts.Pc.TheVariants.{W4}
use Rattle.lk_pv.proofs.wait.look_once_more.Goals as goal

pub node-requires : goal.node-requires
node-requires c = rw (c.named.ensures, c.frame-frame.ensures) (c.requires.ready.ready.reaches W4 c.requires.here)
