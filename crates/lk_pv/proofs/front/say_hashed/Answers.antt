use Rattle.lk_rows.specs.declared.parts.Pc.TheVariants.{E10}
use Rattle.lk_pv.proofs.front.say_hashed.Goals as goal

pub set_state-requires : goal.set_state-requires
set_state-requires c = rw (c.named-me.ensures, c.frame-frame.ensures) (c.requires.ready.ready.reaches E10 c.requires.here)
