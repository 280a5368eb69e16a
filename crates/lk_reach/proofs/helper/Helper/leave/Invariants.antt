use Rattle.std.proofs.Common.{◌≡◌}
use Rattle.lk_reach.proofs.Names.{IsSuch, AreFound, AreMade}
use Rattle.lk_reach.proofs.helper.Helper.leave.Given as goal

-- what was found so far is so
abbrev pub invariant-loop-act : goal.invariant-loop-act
invariant-loop-act l = record {
  same : l.self.machine.setup ≡ l.fn.self.machine.setup;
  such : IsSuch l.fn.self.machine.setup l.self.machine;
  made : AreMade l.fn.self.machine.setup l.space l.self.steps.made.items;
  found : AreFound l.plan l.fn.self.machine.setup l.space l.self.findings.items;
}
