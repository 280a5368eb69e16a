use Rattle.std.proofs.Common.{◌<◌, ℕ}
use Rattle.lk_reach.proofs.Names.{IsSuch, NoneAt}
use Rattle.lk_reach.proofs.seeking.first_deed.Given as goal

-- on none of the states so far an act does
abbrev pub invariant-loop-state : goal.invariant-loop-state
invariant-loop-state l = record {
  such : IsSuch l.fn.machine.setup l.machine;
  none : (k : ℕ) → k < l.state → NoneAt l.fn.machine.setup l.space l.plan.acts.items l.sought k;
}
