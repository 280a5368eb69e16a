use Rattle.lk_lock.proofs.Names.{Writes, Z2}
use Rattle.lk_lock.proofs.{AwakeSteps.{awake_rw, is_of, leaves}, Steps.{none_out, way_held}}
use Rattle.lk_lock.proofs.writing.leave.Goals as goal

pub write_unlock-requires-clause-domain : goal.write_unlock-requires-clause-domain
write_unlock-requires-clause-domain c =
    let d = c.args.domain.now in
    is_of d c.args.cpu.now c.requires.ready (awake_rw d c.args.id.index c.requires.lock)

pub write_unlock-requires-clause-held : goal.write_unlock-requires-clause-held
write_unlock-requires-clause-held c =
    way_held c.args.id.index Writes c.requires.holding.0 c.args.cpu.now c.requires.holding.1

pub write_unlock-requires-clause-value : goal.write_unlock-requires-clause-value
write_unlock-requires-clause-value c =
    none_out c.args.id.index Writes c.requires.holding.0 c.args.cpu.now c.requires.holding.1

pub returns : goal.returns
returns c =
    let d = c.args.domain.now in
    let l = c.args.id.index in
    leaves d c.args.cpu.now c.requires.ready (awake_rw d l c.requires.lock) l Z2 Writes c.write_unlock.new.cpu
    c.write_unlock.ensures.rest c.write_unlock.ensures.left
