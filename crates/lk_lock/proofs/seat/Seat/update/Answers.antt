use Rattle.std.proofs.Common.{refl}
use Rattle.lk_lock.proofs.Names.{Writes, Z2, Write, terms_of, calls_of}
use Rattle.lk_lock.proofs.Steps.{at_home, been_in, still_holding, still_once_more}
use Rattle.lk_lock.proofs.seat.Seat.update.Goals as goal

pub work_on_own-done-requires-clause-held : goal.work_on_own-done-requires-clause-held
work_on_own-done-requires-clause-held g c =
    at_home c.args.shared.now.id.index Writes c.args.self.now.cpu.now c.enter.new.cpu c.enter.ensures.holding refl

pub set_copies-requires-clause-held : goal.set_copies-requires-clause-held
set_copies-requires-clause-held g c =
    let old = c.args.self.now.cpu.now in (
      old,
      still_holding c.args.shared.now.id.index Writes old c.enter.new.cpu c.enter.ensures.holding c.work_on_own-done.new.cpu
          c.work_on_own-done.ensures.still,
    )

pub leave-requires-clause-holding : goal.leave-requires-clause-holding
leave-requires-clause-holding g c =
    let old = c.args.self.now.cpu.now in (
      old,
      still_holding c.args.shared.now.id.index Writes old c.enter.new.cpu c.enter.ensures.holding c.set_copies.new.cpu
          (still_once_more c.enter.new.cpu c.work_on_own-done.new.cpu c.set_copies.new.cpu c.work_on_own-done.ensures.still
          c.set_copies.ensures),
    )

pub returns-clause-before : goal.returns-clause-before
returns-clause-before g c =
    let old = c.args.self.now.cpu.now in
    c.leave.ensures.before old
    (still_holding c.args.shared.now.id.index Writes old c.enter.new.cpu c.enter.ensures.holding c.set_copies.new.cpu
    (still_once_more c.enter.new.cpu c.work_on_own-done.new.cpu c.set_copies.new.cpu c.work_on_own-done.ensures.still
    c.set_copies.ensures))

pub returns-clause-path : goal.returns-clause-path
returns-clause-path g c =
    let old = c.args.self.now.cpu.now in
    been_in (terms_of c.args.self.now.domain.now.plan) old.number Write c.args.shared.now.id.index Writes Z2 (calls_of old)
    c.enter.new.cpu c.set_copies.new.cpu (calls_of c.leave.new.cpu)
    (still_once_more c.enter.new.cpu c.work_on_own-done.new.cpu c.set_copies.new.cpu c.work_on_own-done.ensures.still
    c.set_copies.ensures)
    c.enter.ensures.path c.leave.ensures.left
