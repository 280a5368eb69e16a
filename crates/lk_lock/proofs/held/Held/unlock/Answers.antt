use Rattle.lk_lock.proofs.Names.{Spins}
use Rattle.lk_lock.proofs.Steps.{came_home}
use Rattle.lk_lock.proofs.held.Held.unlock.Goals as goal

pub free-requires-clause-holding : goal.free-requires-clause-holding
free-requires-clause-holding g c = (
  c.requires.inside.0,
  came_home c.args.self.spin.now.id.index Spins c.requires.inside.0 c.args.self.cpu.now c.requires.inside.1 c.bring_home.new.cpu
      c.bring_home.ensures.brought,
)

pub returns-clause-before : goal.returns-clause-before
returns-clause-before g c b i =
    c.free.ensures.before b
    (came_home c.args.self.spin.now.id.index Spins b c.args.self.cpu.now i c.bring_home.new.cpu c.bring_home.ensures.brought)
