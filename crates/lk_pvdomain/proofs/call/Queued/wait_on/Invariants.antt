use Rattle.lk_pvdomain.proofs.Names.{G1, Start, At}
use Rattle.lk_pvdomain.specs.PvWords.{Any, Rests}
use Rattle.lk_pvdomain.proofs.call.Queued.wait_on.Given as goal

abbrev pub invariant-loop : goal.invariant-loop
invariant-loop g l = (s : Start) → At l.self s G1 Any l.fn.seat → Rests l.self l.place s l.seat
