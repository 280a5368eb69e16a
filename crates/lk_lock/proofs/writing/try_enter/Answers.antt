use Rattle.lk_lock.proofs.AwakeSteps.{awake_rw, enters_once, is_of, stays_out}
use Rattle.lk_lock.proofs.writing.try_enter.Goals as goal

pub try_write-requires-clause-domain : goal.try_write-requires-clause-domain
try_write-requires-clause-domain c =
    let d = c.args.domain.now in
    is_of d c.args.cpu.now c.requires.ready (awake_rw d c.args.id.index c.requires.lock)

pub returns-clause-taken : goal.returns-clause-taken
returns-clause-taken c on =
    let d = c.args.domain.now in
    let l = c.args.id.index in
    enters_once d c.args.cpu.now c.requires.ready (awake_rw d l c.requires.lock) l c.try_write.new.cpu c.try_write.ensures.rest
    (c.try_write.ensures.taken on) c.requires.free

pub returns-clause-missed : goal.returns-clause-missed
returns-clause-missed c off =
    let d = c.args.domain.now in
    let l = c.args.id.index in
    stays_out d c.args.cpu.now c.requires.ready (awake_rw d l c.requires.lock) l c.try_write.new.cpu c.try_write.ensures.rest
    (c.try_write.ensures.missed off)
