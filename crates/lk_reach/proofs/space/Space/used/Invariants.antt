use Rattle.lk_reach.proofs.Names.{AreUsed}
use Rattle.lk_reach.proofs.space.Space.used.Given as goal

-- each mark says whether one of the states so far has the part
abbrev pub invariant-loop-state : goal.invariant-loop-state
invariant-loop-state l = AreUsed l.self l.cpus l.state l.marks.items
