use Rattle.std.proofs.Common.{refl, ap}
use Rattle.lk_domain.specs.declared.domain.LockId.{LockId}
use Rattle.lk_rows.specs.declared.setup.Verb.TheVariants.{Lock}
use Rattle.lk_pvdomain.specs.PvPaths.{first_of}
use Rattle.lk_thread_tests.proofs.Halted.{has, came}
use Rattle.lk_thread_tests.proofs.pv_polls.begins.Goals as goal

pub returns : goal.returns
returns c =
    let d = c.args.domain.now in
    let old = c.args.cpu.now in
    let new = c.pv_begin.new.cpu in
    let ready = c.requires.ready in
    came d (first_of Lock 1 old.seat) c.pv_begin.result old new c.pv_begin.ensures.same ready.domain_is ready.free
    (λ e. has d old new c.pv_begin.ensures.same Lock (λ hs. refl) ready (c.pv_begin.ensures.taken e))
    (λ w e. ap (λ (l : LockId). l.index) (c.pv_begin.ensures.lock w e)) c.pv_begin.ensures.waits
