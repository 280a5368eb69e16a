use Rattle.std.proofs.Common.{inl}
use Rattle.lk_run.proofs.Names.{Try, calls_of}
use Rattle.lk_rows.specs.declared.parts.Pc.TheVariants.{T2}
use Rattle.lk_run.proofs.Steps.{tries, seat_of, moved, missed}
use Rattle.lk_domain.proofs.Ways as way
use Rattle.lk_run.proofs.spin.try_look.Goals as goal

pub look-requires-clause-row : goal.look-requires-clause-row
look-requires-clause-row c = inl (tries c.args.domain.now c.args.lock.index c.args.cpu.now c.requires.domain c.requires.may c.requires.kind)

pub returns-clause-free : goal.returns-clause-free
returns-clause-free c is =
    let d = c.args.domain.now in
    let a = c.args.cpu.now in
    let b = c.look.new.cpu in
    let l = c.args.lock.index in
    moved d Try l (calls_of a) a b c.look.ensures.rest T2
    (way.T1_sees d.plan a.number l a.seat.me b.seat.me c.look.result (seat_of d a c.requires.domain) c.requires.may.fresh (c.look.ensures.word (tries d l a c.requires.domain c.requires.may c.requires.kind)).by is)

pub returns-clause-missed : goal.returns-clause-missed
returns-clause-missed c is =
    let d = c.args.domain.now in
    let a = c.args.cpu.now in
    let b = c.look.new.cpu in
    let l = c.args.lock.index in
    missed d Try l (calls_of a) a b c.look.ensures.rest
    (way.T1_misses d.plan a.number l a.seat.me b.seat.me c.look.result (seat_of d a c.requires.domain) c.requires.may.fresh (c.look.ensures.word (tries d l a c.requires.domain c.requires.may c.requires.kind)).by is)
