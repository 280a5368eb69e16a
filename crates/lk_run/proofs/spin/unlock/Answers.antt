use Rattle.std.proofs.Common.{refl, false}
use Rattle.lk_run.proofs.Names.{apart_of, frees_by, view_of}
use Rattle.lk_rows.specs.declared.setup.Verb.TheVariants.{Unlock}
use Rattle.lk_run.proofs.Steps.{plain_in, seat_of}
use Rattle.lk_domain.proofs.Ways as way
use Rattle.lk_run.proofs.spin.unlock.Goals as goal

pub release-requires-clause-row : goal.release-requires-clause-row
release-requires-clause-row c =
    let d = c.args.domain.now in
    let a = c.args.cpu.now in
    plain_in (frees_by Unlock) (view_of a) Unlock (record { index = c.args.lock.index; wait = false }) refl refl
    (way.acts_release d.plan a.number c.args.lock.index (view_of a) (seat_of d a c.requires.domain) c.requires.domain.awake (apart_of a d c.requires.domain) c.requires.few c.requires.kind c.requires.held)

pub returns-clause-freed : goal.returns-clause-freed
returns-clause-freed c =
    let d = c.args.domain.now in
    let a = c.args.cpu.now in
    let t = way.frees d.plan a.number c.args.lock.index a.seat.me c.release.new.cpu.seat.me c.release.result (seat_of d a c.requires.domain) c.requires.domain.awake (apart_of a d c.requires.domain) c.release.ensures.step.by in
    record { freed = t.freed; ledger = t.ledger }
