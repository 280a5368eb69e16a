use Rattle.lk_rows.specs.declared.parts.Pc.TheVariants.{W5}
use Rattle.lk_pv.proofs.wait.test_state.Goals as goal

pub node-state-requires : goal.node-state-requires
node-state-requires c = rw (c.named.ensures, c.frame-frame.ensures) (c.requires.ready.ready.reaches W5 c.requires.here)
