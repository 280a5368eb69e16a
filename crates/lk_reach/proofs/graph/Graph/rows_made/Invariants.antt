use Rattle.std.proofs.Common.{◌≡◌, length}
use Rattle.lk_reach.proofs.Names.{AreMarked}
use Rattle.lk_reach.proofs.graph.Graph.rows_made.Given as goal

-- each mark so far says whether a step makes the row of its number
abbrev pub invariant-loop-number : goal.invariant-loop-number
invariant-loop-number l = record {
  count : length l.marks.items ≡ l.number;
  marked : AreMarked l.self.space l.self.cpus l.rows l.marks.items;
}
