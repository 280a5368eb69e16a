use Rattle.std.proofs.Common.{◌≡◌, ◌<◌, ℕ, length}
use Rattle.lk_reach.proofs.Names.{Machine, MakesRow, Keeps}
use Rattle.lk_reach.proofs.graph.Graph.first_with.Given as goal

-- no state so far makes the row
abbrev pub invariant-loop-state : goal.invariant-loop-state
invariant-loop-state l = (j : ℕ) → j < l.state → (s : Machine) → Keeps l.self.space j s
    → length s.cpus ≡ l.self.cpus → ¬ MakesRow s l.row
