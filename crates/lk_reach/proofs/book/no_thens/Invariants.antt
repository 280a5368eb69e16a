use Rattle.lk_reach.specs.Explored.{AreEmpty}
use Rattle.lk_reach.proofs.book.no_thens.Given as goal

-- so many columns are there, without a number
abbrev pub invariant-loop-made : goal.invariant-loop-made
invariant-loop-made l = AreEmpty l.thens.items l._made
