use Rattle.std.proofs.Common.{◌≡◌, ◌++◌, ◌∷◌, [], take, true}
use Rattle.lk_forms.specs.Operations.{same_holds}
use Rattle.lk_forms.proofs.operations.are_kept.Given as goal

abbrev pub invariant-loop-lock : goal.invariant-loop-lock
invariant-loop-lock l = same_holds l.lock (take l.«at» l.before) (l.before ++ l.op ∷ []) ≡ true
