use Rattle.std.proofs.Common.{◌≡◌, ◌<◌, ℕ}
use Rattle.lk_reach.proofs.Names.{LeadsTo}
use Rattle.lk_reach.proofs.ends.staying.stays.Given as goal

-- none of the acts so far led to another number
abbrev pub invariant-loop-act : goal.invariant-loop-act
invariant-loop-act l = (i j : ℕ) → i < l.act → LeadsTo l.book l.state i j → j ≡ l.state
