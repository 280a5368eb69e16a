use Rattle.lk_lock.proofs.Names.{IsStill}
use Rattle.lk_lock.proofs.working.set_copies.Given as goal

-- between two copies the processor stands as it did
abbrev pub invariant-loop-number : goal.invariant-loop-number
invariant-loop-number g l = IsStill l.fn.cpu l.cpu
