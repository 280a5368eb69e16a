use Rattle.lk_rows.specs.declared.parts.Pc.TheVariants.{G10}
use Rattle.lk_queue.proofs.front.wait_for_next.Goals as goal

pub find_next-requires-clause-own : goal.find_next-requires-clause-own
find_next-requires-clause-own c = c.requires.ready.reaches G10 c.requires.here
