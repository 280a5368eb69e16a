use Rattle.std.proofs.Common.{◌≡◌, None, sym, ◌∙◌, subst}
use Rattle.lk_run.proofs.Names.{Lock, lock_name, calls_of}
use Rattle.lk_run.proofs.Ways.{none_more}
use Rattle.lk_run.specs.{Polled.Waits, declared.waiter.Waiter.Waiter}
use Rattle.lk_run.proofs.Turning as turn
use Rattle.lk_run.proofs.polled.poll.Goals as goal

pub returns-in-Some-clause-waits : goal.returns-in-Some-clause-waits
returns-in-Some-clause-waits c w e s h =
    let r = c.in-Some.rest in
    let fits = c.turn.ensures.fits r c.in-Some.is in
    let same : record { lock = c.args.waiter.lock; rest = r } ≡ w = cc e in
    subst (λ (v : Waiter). Waits c.args.domain.now v s c.turn.new.cpu) same
    (record { low = h.low; nodes = fits.nodes; knows = fits.knows; waits = turn.due_none c.args.domain.now Lock (lock_name c.args.waiter.lock.index) r (c.turn.ensures.owes r c.in-Some.is s None h.waits) })

pub returns-in-Some-clause-once : goal.returns-in-Some-clause-once
returns-in-Some-clause-once c =
    let n = (calls_of c.args.cpu.now).taken in
    let s = c.requires.waits.0 in
    let waits = turn.exactly n c.requires.waits.1.waits (none_more n) in
    (c.turn.ensures.owes c.in-Some.rest c.in-Some.is (turn.since n s) None waits).once ∙ sym (none_more n)

pub returns-in-None-clause-once : goal.returns-in-None-clause-once
returns-in-None-clause-once c =
    let n = (calls_of c.args.cpu.now).taken in
    let s = c.requires.waits.0 in
    (c.turn.ensures.has c.in-None.is (turn.since n s) None (turn.exactly n c.requires.waits.1.waits (none_more n))).once
