use Rattle.std.proofs.Common.{◌∙◌, ap, subst}
use Rattle.lk_domain.specs.declared.domain.LockId.{LockId}
use Rattle.lk_pvdomain.specs.PvCalls.{HasTakenSince}
use Rattle.lk_pvdomain.proofs.PvSeating.{same_of}
use Rattle.lk_thread_tests.proofs.Halted.{polled, came}
use Rattle.lk_thread_tests.proofs.pv_polls.polls.Goals as goal

pub pv_poll-requires : goal.pv_poll-requires
pv_poll-requires c = record { domain = c.requires.domain_is; waits = (c.requires.start, c.requires.waits) }

pub returns : goal.returns
returns c =
    let d = c.args.domain.now in
    let old = c.args.cpu.now in
    let new = c.pv_poll.new.cpu in
    let r = c.requires in
    came d r.start c.pv_poll.result old new c.pv_poll.ensures.same r.domain_is r.free
    (λ e. polled d r.start new (same_of d old new c.pv_poll.ensures.same r.domain_is) r.free
    (subst (λ n. HasTakenSince d n r.start new) r.lock (c.pv_poll.ensures.taken e r.start r.waits)))
    (λ w e. ap (λ (l : LockId). l.index) (c.pv_poll.ensures.lock w e) ∙ r.lock) (λ w e. c.pv_poll.ensures.waits w e r.start r.waits)
