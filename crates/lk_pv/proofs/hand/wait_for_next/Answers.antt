use Rattle.lk_rows.specs.declared.parts.Pc.TheVariants.{E14}
use Rattle.lk_pv.proofs.hand.wait_for_next.Goals as goal

pub find_next-requires-clause-own : goal.find_next-requires-clause-own
find_next-requires-clause-own c = c.requires.ready.ready.reaches E14 c.requires.here
