use Rattle.lk_lock.proofs.Names.{Reads, Z1}
use Rattle.lk_lock.proofs.{AwakeSteps.{awake_rw, is_of, leaves}, Steps.{none_out, way_held}}
use Rattle.lk_lock.proofs.reading.go_out.Goals as goal

pub read_unlock-requires-clause-domain : goal.read_unlock-requires-clause-domain
read_unlock-requires-clause-domain c =
    let d = c.args.domain.now in
    is_of d c.args.cpu.now c.requires.ready (awake_rw d c.args.id.index c.requires.lock)

pub read_unlock-requires-clause-held : goal.read_unlock-requires-clause-held
read_unlock-requires-clause-held c =
    way_held c.args.id.index Reads c.requires.holding.0 c.args.cpu.now c.requires.holding.1

pub read_unlock-requires-clause-value : goal.read_unlock-requires-clause-value
read_unlock-requires-clause-value c =
    none_out c.args.id.index Reads c.requires.holding.0 c.args.cpu.now c.requires.holding.1

pub returns : goal.returns
returns c =
    let d = c.args.domain.now in
    let l = c.args.id.index in
    leaves d c.args.cpu.now c.requires.ready (awake_rw d l c.requires.lock) l Z1 Reads c.read_unlock.new.cpu
    c.read_unlock.ensures.rest c.read_unlock.ensures.left
