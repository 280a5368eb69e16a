use Rattle.lk_reach.specs.Steps.{MayForget}
use Rattle.lk_reach.proofs.steps.add_places.Given as goal

abbrev pub invariant-loop : goal.invariant-loop
invariant-loop l = MayForget l.fn.made.items l.made.items
