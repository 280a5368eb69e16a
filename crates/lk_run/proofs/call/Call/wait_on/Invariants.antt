use Rattle.lk_run.proofs.Names.{Path, Rest}
use Rattle.lk_run.specs.Resting.{Arrived, Fits, Owes}
use Rattle.lk_run.proofs.call.Call.wait_on.Given as goal

abbrev pub invariant-loop : goal.invariant-loop
invariant-loop g l =
    (goal.iterator-loop g).can_next l.iterator' × (goal.iterator-loop g).is_finite l.iterator'
    × Path Rest (Arrived l.self l.met) (Fits l.self.domain.now.plan) (Owes l.self) g.I.Irq.nests l.place l.fn.cpu
    (g.I.Irq.polls l.fn.irq) l.cpu (g.I.Irq.polls l.irq)
