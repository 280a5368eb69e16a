use Rattle.std.proofs.Common.{◌≡◌, ◌≤◌, length}
use Rattle.lk_reach.proofs.Names.{AreColumns, IsExplored, IsSuch, AreHelpers, AreMade}
use Rattle.lk_reach.proofs.exploring.leave_all.Given as goal

-- the states before this one are left
abbrev pub invariant-loop-state : goal.invariant-loop-state
invariant-loop-state g l = record {
  such : IsSuch l.fn.crew.machine.setup l.crew.machine;
  same : l.crew.machine.setup ≡ l.fn.crew.machine.setup;
  explored : IsExplored l.plan l.fn.crew.machine.setup l.space l.book l.state;
  columns : AreColumns l.book (length l.plan.acts.items) l.state 0;
  made : AreMade l.fn.crew.machine.setup l.space l.crew.steps.made.items;
  helpers : AreHelpers l.plan l.fn.crew.machine.setup l.space l.crew.helpers.list.items;
  within : l.state ≤ length l.space.keys;
}
