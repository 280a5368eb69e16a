use Rattle.std.proofs.Common.{◌≡◌, Some, length, IfSome, slice_get}
use Rattle.lk_reach.proofs.Names.{AreColumns, IsExplored, IsSuch, AreHelpers, AreMoves, state_after}
use Rattle.lk_reach.proofs.Names.{Keeps, AreMade}
use Rattle.lk_reach.specs.Explored.{IsHalfLeft}
use Rattle.lk_reach.proofs.exploring.leave.Given as goal

-- the acts so far were tried on the state
abbrev pub invariant-loop-number : goal.invariant-loop-number
invariant-loop-number g l = record {
  such : IsSuch l.fn.crew.machine.setup l.crew.machine;
  same : l.crew.machine.setup ≡ l.fn.crew.machine.setup;
  explored : IsExplored l.plan l.fn.crew.machine.setup l.space l.book l.state;
  half : IsHalfLeft l.plan l.fn.crew.machine.setup l.space l.book l.state l.plan.acts.items l.number;
  columns : AreColumns l.book (length l.plan.acts.items) l.state l.number;
  way : IfSome l.here.way (λ way. AreMoves l.plan.extras l.fn.crew.machine.setup way.items
      × Keeps l.space l.state (state_after l.plan l.fn.crew.machine.setup way.items));
  key : slice_get l.space.keys l.state ≡ Some l.here.spot.key;
  made : AreMade l.fn.crew.machine.setup l.space l.crew.steps.made.items;
  helpers : AreHelpers l.plan l.fn.crew.machine.setup l.space l.crew.helpers.list.items;
}
