use Rattle.std.proofs.Common.{◌≡◌, None, subst}
use Rattle.lk_run.proofs.RwTurning.{write_due_none}
use Rattle.lk_run.specs.{PolledWrite.Waits, declared.write_waiter.WriteWaiter.WriteWaiter}
use Rattle.lk_run.proofs.polled_write.begin_write_slowpath.Goals as goal

pub contend-requires : goal.contend-requires
contend-requires c =
    record { domain = c.requires.domain; start = c.requires.begun.0; told = None; at = c.requires.begun.1 }

pub returns-in-Some-clause-waits : goal.returns-in-Some-clause-waits
returns-in-Some-clause-waits c w e s h =
    let d = c.args.domain.now in
    let p = c.in-Some.place in
    let same : record { lock = c.args.lock; place = p } ≡ w = cc e in
    subst (λ (v : WriteWaiter). Waits d v s c.contend.new.cpu) same
    (record {
      low = c.requires.lock;
      fits = c.contend.ensures.fits p c.in-Some.is;
      rests = write_due_none d c.args.lock.index p s c.contend.new.cpu (c.contend.ensures.owes p c.in-Some.is s None h);
    })

pub returns-in-None-clause-entered : goal.returns-in-None-clause-entered
returns-in-None-clause-entered c e s h = c.contend.ensures.has c.in-None.is s None h
