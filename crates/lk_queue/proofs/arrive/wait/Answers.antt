use Rattle.lk_rows.specs.declared.parts.Pc.TheVariants.{G6}
use Rattle.lk_queue.proofs.arrive.wait.Goals as goal

pub node-requires : goal.node-requires
node-requires c = rw (c.named.ensures, c.frame-frame.ensures) (c.requires.ready.reaches G6 c.requires.here)
