use Rattle.std.proofs.Common.{length}
use Rattle.lk_forms.specs.Fronts.{HasDigits}
use Rattle.lk_forms.proofs.plain.digits.Given as goal

abbrev pub invariant-loop-rest : goal.invariant-loop-rest
invariant-loop-rest l = HasDigits l.bytes l.value l.rest

abbrev pub decreases-loop-rest : goal.decreases-loop-rest
decreases-loop-rest l = length l.rest
