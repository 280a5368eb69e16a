use Rattle.std.proofs.Common.{refl}
use Rattle.lk_lock.proofs.Names.{Spins}
use Rattle.lk_lock.proofs.Steps.{at_home, still_holding, still_inside}
use Rattle.lk_lock.proofs.held.Held.with.Goals as goal

pub work_under-done-requires-clause-held : goal.work_under-done-requires-clause-held
work_under-done-requires-clause-held g c =
    at_home c.args.spin.now.id.index Spins c.args.self.now.cpu.now c.take.new.cpu c.take.ensures.holding refl

pub free-requires-clause-holding : goal.free-requires-clause-holding
free-requires-clause-holding g c =
    let old = c.args.self.now.cpu.now in (
      old,
      still_holding c.args.spin.now.id.index Spins old c.take.new.cpu c.take.ensures.holding c.work_under-done.new.cpu
          c.work_under-done.ensures.still,
    )

pub returns-clause-inside : goal.returns-clause-inside
returns-clause-inside g c b i =
    let old = c.args.self.now.cpu.now in
    still_inside c.args.self.now.spin.now.id.index Spins b old i c.free.new.cpu
    (c.free.ensures.before old
    (still_holding c.args.spin.now.id.index Spins old c.take.new.cpu c.take.ensures.holding c.work_under-done.new.cpu
    c.work_under-done.ensures.still))
