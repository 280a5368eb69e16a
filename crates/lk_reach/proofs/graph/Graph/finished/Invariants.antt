use Rattle.std.proofs.Common.{◌≡◌, length}
use Rattle.lk_reach.proofs.Ending.{EndsSo}
use Rattle.lk_reach.proofs.graph.Graph.finished.Given as goal

-- each mark so far says whether everybody is done
abbrev pub invariant-loop-state : goal.invariant-loop-state
invariant-loop-state l = record {
  count : length l.marks.items ≡ l.state;
  so : EndsSo l.self l.marks.items;
}
