use Rattle.std.proofs.Common.{◌≡◌, None, subst}
use Rattle.lk_run.proofs.RwTurning.{read_due_none}
use Rattle.lk_run.specs.{PolledRead.Waits, declared.read_waiter.ReadWaiter.ReadWaiter}
use Rattle.lk_run.proofs.polled_read.poll_read.Goals as goal

pub turn-requires-clause-waits : goal.turn-requires-clause-waits
turn-requires-clause-waits c =
    record { domain = c.requires.domain; start = c.requires.waits.0; told = None; at = c.requires.waits.1.rests }

pub returns-in-Some-clause-waits : goal.returns-in-Some-clause-waits
returns-in-Some-clause-waits c w e s h =
    let d = c.args.domain.now in
    let p = c.in-Some.place in
    let l = c.args.waiter.lock in
    let same : record { lock = l; place = p } ≡ w = cc e in
    subst (λ (v : ReadWaiter). Waits d v s c.turn.new.cpu) same
    (record {
      low = h.low;
      fits = c.turn.ensures.fits p c.in-Some.is;
      rests = read_due_none d l.index p s c.turn.new.cpu (c.turn.ensures.owes p c.in-Some.is s None h.rests);
    })

pub returns-in-None-clause-entered : goal.returns-in-None-clause-entered
returns-in-None-clause-entered c e s h = c.turn.ensures.has c.in-None.is s None h.rests
