use Rattle.lk_rows.specs.declared.parts.Pc.TheVariants.{W3}
use Rattle.lk_pv.proofs.wait.say_halted.Goals as goal

pub set_state-requires : goal.set_state-requires
set_state-requires c = rw (c.named-me.ensures, c.frame-frame.ensures) (c.requires.ready.ready.reaches W3 c.requires.here)
