use Rattle.std.proofs.Common.{false, refl}
use Rattle.lk_run.proofs.Names.{Try, takes_by, view_of}
use Rattle.lk_rows.specs.declared.parts.Pc.TheVariants.{T2}
use Rattle.lk_run.proofs.Steps.{plain_in, seat_of, took, missed}
use Rattle.lk_domain.proofs.Ways as way
use Rattle.lk_run.proofs.spin.try_swap.Goals as goal

pub take_free-requires-clause-row : goal.take_free-requires-clause-row
take_free-requires-clause-row c =
    let d = c.args.domain.now in
    let a = c.args.cpu.now in
    plain_in (takes_by Try) (view_of a) Try (record { index = c.args.lock.index; wait = false }) refl refl
    (way.acts_next (takes_by Try) d.plan a.number Try c.args.lock.index T2 c.requires.waits.0 (view_of a) c.requires.waits.1 refl)

pub returns-clause-taken : goal.returns-clause-taken
returns-clause-taken c is old at =
    let d = c.args.domain.now in
    let a = c.args.cpu.now in
    let b = c.take_free.new.cpu in
    let l = c.args.lock.index in
    took d Try l old a b c.take_free.ensures.rest
    (way.T2_takes d.plan a.number l a.seat.me b.seat.me c.take_free.result (seat_of d a c.requires.domain) old c.take_free.ensures.step.by at is)

pub returns-clause-missed : goal.returns-clause-missed
returns-clause-missed c is old at =
    let d = c.args.domain.now in
    let a = c.args.cpu.now in
    let b = c.take_free.new.cpu in
    let l = c.args.lock.index in
    missed d Try l old a b c.take_free.ensures.rest
    (way.T2_misses d.plan a.number l a.seat.me b.seat.me c.take_free.result (seat_of d a c.requires.domain) old c.take_free.ensures.step.by at is)
