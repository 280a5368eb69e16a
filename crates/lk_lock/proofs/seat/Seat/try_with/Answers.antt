use Rattle.std.proofs.Common.{refl}
use Rattle.lk_lock.proofs.Names.{Spins}
use Rattle.lk_lock.proofs.Steps.{at_home, still_holding}
use Rattle.lk_lock.proofs.seat.Seat.try_with.Goals as goal

pub work_under-done-requires-clause-held : goal.work_under-done-requires-clause-held
work_under-done-requires-clause-held g c =
    at_home c.args.spin.now.id.index Spins c.args.self.now.cpu.now c.try_take.new.cpu ((c.try_take.ensures.taken c.if-not-try_take.false).holding) refl

pub free_now-requires-clause-holding : goal.free_now-requires-clause-holding
free_now-requires-clause-holding g c =
    let old = c.args.self.now.cpu.now in (
      old,
      still_holding c.args.spin.now.id.index Spins old c.try_take.new.cpu ((c.try_take.ensures.taken c.if-not-try_take.false).holding) c.work_under-done.new.cpu
          c.work_under-done.ensures.still,
    )

pub returns-clause-before : goal.returns-clause-before
returns-clause-before g c =
    let old = c.args.self.now.cpu.now in
    c.free_now.ensures.before old
    (still_holding c.args.spin.now.id.index Spins old c.try_take.new.cpu ((c.try_take.ensures.taken c.if-not-try_take.false).holding) c.work_under-done.new.cpu
    c.work_under-done.ensures.still)
