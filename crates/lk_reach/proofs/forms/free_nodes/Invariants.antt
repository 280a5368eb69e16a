use Rattle.lk_reach.proofs.Names.{Rests}
use Rattle.lk_reach.proofs.forms.free_nodes.Given as goal

-- the part differs in what nobody reads alone
abbrev pub invariant-loop-index : goal.invariant-loop-index
invariant-loop-index l = Rests l.fn.machine l.machine l.cpu
