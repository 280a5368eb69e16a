use Rattle.lk_reach.proofs.Names.{AreFinishing}
use Rattle.lk_reach.proofs.graph.Graph.doomed.Given as goal

-- from who is marked some schedule finishes
abbrev pub invariant-loop-made : goal.invariant-loop-made
invariant-loop-made l = AreFinishing l.self l.marks.items
