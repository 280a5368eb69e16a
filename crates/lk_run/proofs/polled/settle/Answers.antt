use Rattle.std.proofs.Common.{◌≡◌, None, subst}
use Rattle.lk_run.proofs.Names.{Lock, lock_name}
use Rattle.lk_run.specs.{Polled.Waits, declared.waiter.Waiter.Waiter}
use Rattle.lk_run.proofs.Turning as turn
use Rattle.lk_run.proofs.polled.settle.Goals as goal

pub contend-requires : goal.contend-requires
contend-requires c =
    record { domain = c.requires.domain; start = c.requires.begun.0; told = None; arrives = c.requires.begun.1 }

pub returns-in-Some-clause-waits : goal.returns-in-Some-clause-waits
returns-in-Some-clause-waits c w e s h =
    let r = c.in-Some.rest in
    let fits = c.contend.ensures.fits r c.in-Some.is in
    let same : record { lock = c.args.lock; rest = r } ≡ w = cc e in
    subst (λ (v : Waiter). Waits c.args.domain.now v s c.contend.new.cpu) same
    (record {
      low = c.requires.lock;
      nodes = fits.nodes;
      knows = fits.knows;
      waits = turn.due_none c.args.domain.now Lock (lock_name c.args.lock.index) r (c.contend.ensures.owes r c.in-Some.is s None h);
    })

pub returns-in-None-clause-holds : goal.returns-in-None-clause-holds
returns-in-None-clause-holds c e s h = c.contend.ensures.has c.in-None.is s None h
