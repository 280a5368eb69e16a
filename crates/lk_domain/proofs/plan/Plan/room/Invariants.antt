use Rattle.std.proofs.Common.{◌≡◌, ◌≤◌, ◌*◌, take}
use Rattle.lk_domain.proofs.Names.{sum}
use Rattle.lk_domain.proofs.plan.Plan.room.Given as goal

abbrev pub invariant-loop-cpu : goal.invariant-loop-cpu
invariant-loop-cpu l = (l.room ≡ sum (take l.cpu l.self.shares.items)) × (l.room ≤ l.cpu * 4294967295)
