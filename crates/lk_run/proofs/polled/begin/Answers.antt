use Rattle.std.proofs.Common.{◌≡◌, ℕ, Option, None, Some, true, false, refl, sym, ◌∙◌}
use Rattle.lk_run.proofs.Names.{Spins, Lock, calls_of, Cpu, Domain, Holds, starting}
use Rattle.lk_run.proofs.{Steps.{still_of, rest_both}, Ways.none_more}
use Rattle.lk_run.specs.{Polled.{Waits, TakesOne}, declared.waiter.Waiter.Waiter}
use Rattle.lk_run.proofs.polled.begin.Goals as goal

pub returns-in-None-clause-holds : goal.returns-in-None-clause-holds
returns-in-None-clause-holds c e nests = c.arrive.ensures.holds c.in-None.is nests

pub returns-in-None-clause-once : goal.returns-in-None-clause-once
returns-in-None-clause-once c = (c.arrive.ensures.holds c.in-None.is false).once

pub settle-requires-clause-domain : goal.settle-requires-clause-domain
settle-requires-clause-domain c = still_of c.args.domain.now c.args.cpu.now c.arrive.new.cpu c.arrive.ensures.rest c.requires.domain

pub settle-requires-clause-begun : goal.settle-requires-clause-begun
settle-requires-clause-begun c = (starting c.args.cpu.now true None, c.arrive.ensures.met c.in-Some.arrival c.in-Some.is true)

pub returns-in-Some-clause-rest : goal.returns-in-Some-clause-rest
returns-in-Some-clause-rest c =
    rest_both c.args.cpu.now c.arrive.new.cpu c.settle.new.cpu c.arrive.ensures.rest c.settle.ensures.rest

pub returns-in-Some-clause-holds : goal.returns-in-Some-clause-holds
returns-in-Some-clause-holds c e nests =
    c.settle.ensures.holds e (starting c.args.cpu.now nests None) (c.arrive.ensures.met c.in-Some.arrival c.in-Some.is nests)

pub returns-in-Some-clause-waits : goal.returns-in-Some-clause-waits
returns-in-Some-clause-waits c w e nests =
    c.settle.ensures.waits w e (starting c.args.cpu.now nests None) (c.arrive.ensures.met c.in-Some.arrival c.in-Some.is nests)

-- a call that began with no lock has taken one, or none and waits
takes : (d : Domain) (l : ℕ) (next : Option Waiter) (old new : Cpu) → (next ≡ None → Holds d Lock l Spins (starting old false None) new None)
    → ((w : Waiter) → next ≡ Some w → Waits d w (starting old false None) new) → TakesOne next (calls_of old) (calls_of new)
takes d l None old new holds waits = (holds refl).once
takes d l (Some w) old new holds waits = (waits w refl).waits.looked.once ∙ sym (none_more (calls_of old).taken)

pub returns-in-Some-clause-once : goal.returns-in-Some-clause-once
returns-in-Some-clause-once c =
    let s = starting c.args.cpu.now false None in
    let begun = c.arrive.ensures.met c.in-Some.arrival c.in-Some.is false in
    takes c.args.domain.now c.args.lock.index c.settle.result c.args.cpu.now c.settle.new.cpu
    (λ e. c.settle.ensures.holds e s begun) (λ w e. c.settle.ensures.waits w e s begun)
