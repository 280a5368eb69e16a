use Rattle.std.proofs.Common.{◌≡◌}
use Rattle.lk_reach.proofs.crew.Crew.turn.Given as goal

-- the helpers, the machine and its steps stay as they are
abbrev pub invariant-loop-gone : goal.invariant-loop-gone
invariant-loop-gone g l = record {
  helpers : l.self.helpers.list.items ≡ l.fn.self.helpers.list.items;
  machine : l.self.machine ≡ l.fn.self.machine;
  steps : l.self.steps ≡ l.fn.self.steps;
}
