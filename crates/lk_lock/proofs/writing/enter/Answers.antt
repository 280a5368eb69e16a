use Rattle.lk_lock.proofs.Names.{Writes, Write}
use Rattle.lk_lock.proofs.AwakeSteps.{awake_rw, enters, is_of}
use Rattle.lk_lock.proofs.writing.enter.Goals as goal

pub write_lock-requires-clause-domain : goal.write_lock-requires-clause-domain
write_lock-requires-clause-domain g c =
    let d = c.args.domain.now in
    is_of d c.args.cpu.now c.requires.ready (awake_rw d c.args.id.index c.requires.lock)

pub returns : goal.returns
returns g c =
    let d = c.args.domain.now in
    let l = c.args.id.index in
    let in_it = c.write_lock.ensures.entered in
    enters d c.args.cpu.now c.requires.ready (awake_rw d l c.requires.lock) l Write Writes c.write_lock.new.cpu in_it.upto
    c.write_lock.ensures.rest in_it.entered in_it.look in_it.once c.requires.free
