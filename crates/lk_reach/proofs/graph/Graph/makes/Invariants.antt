use Rattle.std.proofs.Common.{◌≡◌, ◌≢◌, ◌<◌, ℕ, Some, length}
use Rattle.lk_reach.proofs.Names.{Machine, row_of, Keeps}
use Rattle.lk_rows.specs.Machine.{cpu_at}
use Rattle.lk_reach.proofs.graph.Graph.makes.Given as goal

-- no processor so far makes the row
abbrev pub invariant-loop-cpu : goal.invariant-loop-cpu
invariant-loop-cpu l = (s : Machine) → Keeps l.self.space l.state s → length s.cpus ≡ l.self.cpus
    → (p : ℕ) → p < l.cpu → row_of (cpu_at s p) ≢ Some l.row
