use Rattle.lk_rows.specs.declared.parts.Pc.TheVariants.{K1}
use Rattle.lk_pv.proofs.hand.mark_hashed.Goals as goal

pub node-requires : goal.node-requires
node-requires c = rw (c.named-next.ensures, c.frame-frame.ensures) (c.requires.ready.ready.reaches K1 c.requires.here)

pub set_state-requires : goal.set_state-requires
set_state-requires c = rw (c.named-next.ensures, c.frame-frame.ensures) (c.requires.ready.ready.reaches K1 c.requires.here)
