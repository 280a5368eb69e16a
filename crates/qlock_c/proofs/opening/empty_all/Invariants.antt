use Rattle.std.proofs.Common.{◌≡◌, None}
use Rattle.qlock_c.proofs.Opened.{AreFirst}
use Rattle.qlock_c.proofs.opening.empty_all.Given as goal

-- the first ones are empty
abbrev pub invariant-loop-i : goal.invariant-loop-i
invariant-loop-i l = AreFirst (λ _ cpu. cpu.handle.inner ≡ None) l.i l.cpus
