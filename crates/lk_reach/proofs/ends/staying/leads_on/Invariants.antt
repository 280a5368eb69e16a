use Rattle.lk_reach.proofs.Names.{IsSuch}
use Rattle.lk_reach.proofs.ends.staying.leads_on.Given as goal

-- the machine is one of its setup
abbrev pub invariant-loop-number : goal.invariant-loop-number
invariant-loop-number l = IsSuch l.fn.machine.setup l.machine
