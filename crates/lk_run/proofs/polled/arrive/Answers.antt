use Rattle.std.proofs.Common.{◌≡◌, None, subst}
use Rattle.lk_run.proofs.Names.{starting}
use Rattle.lk_run.specs.{Polled.Arrived, declared.waiter.Arrival.Arrival}
use Rattle.lk_run.proofs.polled.arrive.Goals as goal

pub returns-then-met-eq0-clause-holds : goal.returns-then-met-eq0-clause-holds
returns-then-met-eq0-clause-holds c e nests = c.fast-met.ensures.taken c.if-met-eq0.true nests None

pub returns-clause-met : goal.returns-clause-met
returns-clause-met c a e nests =
    let same : record { met = c.fast-met.result } ≡ a = cc e in
    subst (λ (b : Arrival). Arrived c.args.domain.now c.args.lock.index b.met (starting c.args.cpu.now nests None) c.fast-met.new.cpu) same
    (c.fast-met.ensures.waits c.if-met-eq0.false nests None)
