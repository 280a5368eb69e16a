use Rattle.std.proofs.Common.{refl}
use Rattle.lk_lock.proofs.Names.{Spins}
use Rattle.lk_lock.proofs.Steps.{at_home, still_holding}
use Rattle.lk_lock.proofs.seat.Seat.with.Goals as goal

pub work_under-done-requires-clause-held : goal.work_under-done-requires-clause-held
work_under-done-requires-clause-held g c =
    at_home c.args.spin.now.id.index Spins c.args.self.now.cpu.now c.take_halting.new.cpu c.take_halting.ensures.holding refl

pub free_halting-requires-clause-holding : goal.free_halting-requires-clause-holding
free_halting-requires-clause-holding g c =
    let old = c.args.self.now.cpu.now in (
      old,
      still_holding c.args.spin.now.id.index Spins old c.take_halting.new.cpu c.take_halting.ensures.holding c.work_under-done.new.cpu
          c.work_under-done.ensures.still,
    )

pub returns-then-halts-clause-before : goal.returns-then-halts-clause-before
returns-then-halts-clause-before g c =
    let old = c.args.self.now.cpu.now in
    c.free_halting.ensures.before old
    (still_holding c.args.spin.now.id.index Spins old c.take_halting.new.cpu c.take_halting.ensures.holding c.work_under-done.new.cpu
    c.work_under-done.ensures.still)
