-- The phases that hold the lock, without the program's knowing it yet.
use Rattle.std.proofs.Common.{Bool, true, false}
use Rattle.lk_waits.proofs.Names.{Phase, Holds}
use Rattle.lk_law.specs.Phase.Phase.{Hands, Tends}

abbrev pub owns : Phase → Bool
owns Holds = true
owns (Hands n) = true
owns (Tends n) = true
owns _ = false
