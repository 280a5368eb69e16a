use Rattle.std.proofs.Common.{◌≢◌, ◌<◌, ℕ, Some, true, slice_get}
use Rattle.lk_reach.proofs.Names.{LeadsTo}
use Rattle.lk_reach.proofs.graph.Graph.leads_some.Given as goal

-- none of the acts so far leads to a marked state
abbrev pub invariant-loop-act : goal.invariant-loop-act
invariant-loop-act l = (i j : ℕ) → i < l.act → LeadsTo l.self.book l.state i j → slice_get l.marks.items j ≢ Some true
