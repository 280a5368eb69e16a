use Rattle.std.proofs.Common.{refl}
use Rattle.lk_lock.proofs.Names.{Writes}
use Rattle.lk_lock.proofs.Steps.{at_home, still_holding}
use Rattle.lk_lock.proofs.seat.Seat.try_write.Goals as goal

pub work_under-done-requires-clause-held : goal.work_under-done-requires-clause-held
work_under-done-requires-clause-held g c =
    at_home c.args.rw.now.id.index Writes c.args.self.now.cpu.now c.try_enter.new.cpu
    ((c.try_enter.ensures.taken c.if-not-try_enter.false).holding) refl

pub leave-requires-clause-holding : goal.leave-requires-clause-holding
leave-requires-clause-holding g c =
    let old = c.args.self.now.cpu.now in (
      old,
      still_holding c.args.rw.now.id.index Writes old c.try_enter.new.cpu
          ((c.try_enter.ensures.taken c.if-not-try_enter.false).holding) c.work_under-done.new.cpu
          c.work_under-done.ensures.still,
    )

pub returns-clause-before : goal.returns-clause-before
returns-clause-before g c =
    let old = c.args.self.now.cpu.now in
    c.leave.ensures.before old
    (still_holding c.args.rw.now.id.index Writes old c.try_enter.new.cpu
    ((c.try_enter.ensures.taken c.if-not-try_enter.false).holding) c.work_under-done.new.cpu
    c.work_under-done.ensures.still)
