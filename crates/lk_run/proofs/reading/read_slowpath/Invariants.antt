use Rattle.lk_run.proofs.Names.{Path, ReadPlace}
use Rattle.lk_run.specs.PolledRead.{Began, Fits, Owes}
use Rattle.lk_run.proofs.reading.read_slowpath.Given as goal

abbrev pub invariant-loop : goal.invariant-loop
invariant-loop g l =
    (goal.iterator-loop g).can_next l.iterator' × (goal.iterator-loop g).is_finite l.iterator'
    × Path ReadPlace (Began l.domain l.fn.lock.index) (Fits l.domain.plan) (Owes l.domain l.fn.lock.index) g.I.Irq.nests l.place l.fn.cpu
    (g.I.Irq.polls l.fn.irq) l.cpu (g.I.Irq.polls l.irq)
