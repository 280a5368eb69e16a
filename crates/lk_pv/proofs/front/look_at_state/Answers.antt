use Rattle.lk_rows.specs.declared.parts.Pc.TheVariants.{E1}
use Rattle.lk_pv.proofs.front.look_at_state.Goals as goal

pub node-requires : goal.node-requires
node-requires c = rw (c.named.ensures, c.frame-frame.ensures) (c.requires.ready.ready.reaches E1 c.requires.here)
