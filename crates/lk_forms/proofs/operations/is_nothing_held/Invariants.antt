use Rattle.std.proofs.Common.{◌≡◌, [], true}
use Rattle.lk_forms.specs.Operations.{same_holds}
use Rattle.lk_forms.proofs.operations.is_nothing_held.Given as goal

abbrev pub invariant-loop-lock : goal.invariant-loop-lock
invariant-loop-lock l = same_holds l.lock l.ops [] ≡ true
