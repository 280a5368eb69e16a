use Rattle.lk_rows.specs.declared.parts.Pc.TheVariants.{E2}
use Rattle.lk_pv.proofs.front.say_running.Goals as goal

pub set_state-requires : goal.set_state-requires
set_state-requires c = rw (c.named-me.ensures, c.frame-frame.ensures) (c.requires.ready.ready.reaches E2 c.requires.here)
