use Rattle.std.proofs.Common.{refl}
use Rattle.lk_lock.proofs.Names.{Spins}
use Rattle.lk_lock.proofs.Steps.{at_home}
use Rattle.lk_lock.proofs.held.Held.try_lock.Goals as goal

pub take_out-key-requires-clause-held : goal.take_out-key-requires-clause-held
take_out-key-requires-clause-held g c =
    at_home c.args.spin.now.id.index Spins c.args.cpu.now c.try_take.new.cpu (c.try_take.ensures.taken c.if-try_take.true).holding refl
