use Rattle.lk_lock.proofs.Names.{Spins}
use Rattle.lk_lock.proofs.{AwakeSteps.{frees, is_of}, Steps.{is_held, none_out}}
use Rattle.lk_lock.proofs.holding.free_now.Goals as goal

pub unlock-requires-clause-domain : goal.unlock-requires-clause-domain
unlock-requires-clause-domain c = is_of c.args.domain.now c.args.cpu.now c.requires.ready c.requires.awake

pub unlock-requires-clause-held : goal.unlock-requires-clause-held
unlock-requires-clause-held c =
    is_held c.args.id.index Spins c.requires.holding.0 c.args.cpu.now c.requires.holding.1

pub unlock-requires-clause-value : goal.unlock-requires-clause-value
unlock-requires-clause-value c =
    none_out c.args.id.index Spins c.requires.holding.0 c.args.cpu.now c.requires.holding.1

pub returns : goal.returns
returns c =
    frees c.args.domain.now c.args.cpu.now c.requires.ready c.requires.awake c.args.id.index c.unlock.new.cpu c.unlock.ensures.rest
    c.unlock.ensures.freed
