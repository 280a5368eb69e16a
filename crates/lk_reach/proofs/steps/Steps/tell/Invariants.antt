use Rattle.std.proofs.Common.{◌≡◌}
use Rattle.lk_reach.proofs.steps.Steps.tell.Given as goal

abbrev pub invariant-loop : goal.invariant-loop
invariant-loop l = l.self.made ≡ l.fn.self.made
