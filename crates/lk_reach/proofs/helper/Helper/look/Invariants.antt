use Rattle.std.proofs.Common.{◌≡◌}
use Rattle.lk_reach.proofs.Names.{IsSuch, AreFound, AreMade}
use Rattle.lk_reach.proofs.helper.Helper.look.Given as goal

-- what was found so far is so
abbrev pub invariant-loop-state : goal.invariant-loop-state
invariant-loop-state l = record {
  same : l.self.machine.setup ≡ l.fn.self.machine.setup;
  such : IsSuch l.fn.self.machine.setup l.self.machine;
  made : AreMade l.fn.self.machine.setup l.space l.self.steps.made.items;
  found : AreFound l.plan l.fn.self.machine.setup l.space l.self.findings.items;
}
