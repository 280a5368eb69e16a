use Rattle.std.proofs.Common.{◌≡◌, ◌<◌, ℕ, true, length}
use Rattle.lk_reach.proofs.Names.{Machine, is_over, Keeps}
use Rattle.lk_rows.specs.Machine.{cpu_at}
use Rattle.lk_reach.proofs.space.Space.are_over_at.Given as goal

-- each processor so far is done
abbrev pub invariant-loop-cpu : goal.invariant-loop-cpu
invariant-loop-cpu l = (s : Machine) → Keeps l.self l.state s → length s.cpus ≡ l.cpus
    → (p : ℕ) → p < l.cpu → is_over (cpu_at s p) ≡ true
