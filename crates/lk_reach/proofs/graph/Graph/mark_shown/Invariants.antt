use Rattle.lk_reach.proofs.Names.{AreGoing}
use Rattle.lk_reach.proofs.graph.Graph.mark_shown.Given as goal

-- whoever is marked goes on, or is done
abbrev pub invariant-loop-state : goal.invariant-loop-state
invariant-loop-state l = AreGoing l.self.plan l.self.machine.setup l.self.space l.marks.items
