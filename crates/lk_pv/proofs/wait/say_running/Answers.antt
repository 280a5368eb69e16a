use Rattle.lk_rows.specs.declared.parts.Pc.TheVariants.{W7}
use Rattle.lk_pv.proofs.wait.say_running.Goals as goal

pub node-requires : goal.node-requires
node-requires c = rw (c.named-me.ensures, c.frame-frame.ensures) (c.requires.ready.ready.reaches W7 c.requires.here)

pub set_state-requires : goal.set_state-requires
set_state-requires c = rw (c.named-me.ensures, c.frame-frame.ensures) (c.requires.ready.ready.reaches W7 c.requires.here)
