use Rattle.std.proofs.Common.{None, refl, sym, subst}
use Rattle.lk_port.proofs.Names.{Spins, Lock, Domain, Holds}
use Rattle.lk_run.specs.Polled.{Arrived, Waits}
use Rattle.lk_port.proofs.spin.settles.Goals as goal

pub returns-in-None-clause-holds : goal.returns-in-None-clause-holds
returns-in-None-clause-holds c e s begun =
    let is = c.domain.ensures in
    let l = c.args.lock.index in
    let arrived = subst (λ (d : Domain). Arrived d l c.args.arrival.met s c.args.cpu.now) (sym is) begun in
    subst (λ (d : Domain). Holds d Lock l Spins s c.settle.new.cpu None) is (c.settle.ensures.holds c.in-None.is s arrived)

pub returns-in-Some-clause-waits : goal.returns-in-Some-clause-waits
returns-in-Some-clause-waits c e s begun =
    let is = c.domain.ensures in
    let w = c.in-Some.waiter in
    let arrived = subst (λ (d : Domain). Arrived d c.args.lock.index c.args.arrival.met s c.args.cpu.now) (sym is) begun in
    (w, refl, c.settle.ensures.lock w c.in-Some.is, subst (λ (d : Domain). Waits d w s c.settle.new.cpu) is (c.settle.ensures.waits w c.in-Some.is s arrived))
