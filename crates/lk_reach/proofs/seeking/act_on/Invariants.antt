use Rattle.std.proofs.Common.{◌≡◌, ◌<◌, ℕ, Some, slice_get}
use Rattle.lk_reach.proofs.Names.{Act, IsSuch}
use Rattle.lk_reach.specs.Seeking.{DoesNotAt}
use Rattle.lk_reach.proofs.seeking.act_on.Given as goal

-- none of the acts so far does
abbrev pub invariant-loop-number : goal.invariant-loop-number
invariant-loop-number l = record {
  such : IsSuch l.fn.machine.setup l.machine;
  none : (i : ℕ) (a : Act) → i < l.number → slice_get l.plan.acts.items i ≡ Some a
      → DoesNotAt l.fn.machine.setup l.space l.state l.sought a;
}
