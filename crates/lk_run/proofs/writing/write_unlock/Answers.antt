use Rattle.std.proofs.Common.{refl}
use Rattle.lk_run.proofs.Names.{apart_of, view_of}
use Rattle.lk_rows.specs.declared.setup.Verb.TheVariants.{WUnlock}
use Rattle.lk_domain.proofs.rw.Released.{writer, acts_leaving}
use Rattle.lk_domain.specs.RwRows.{leaves_by}
use Rattle.lk_run.proofs.Steps.{seat_of}
use Rattle.lk_run.proofs.RwTries as try
use Rattle.lk_run.proofs.writing.write_unlock.Goals as goal

pub writer_release-requires-clause-row : goal.writer_release-requires-clause-row
writer_release-requires-clause-row c =
    let d = c.args.domain.now in
    let a = c.args.cpu.now in
    acts_leaving d.plan a.number c.args.lock.index (view_of a) (seat_of d a c.requires.domain) (apart_of a d c.requires.domain) c.requires.few
    c.requires.kind writer (leaves_by WUnlock) refl c.requires.held

pub returns-clause-left : goal.returns-clause-left
returns-clause-left c = try.leaves writer c.args.domain.now c.args.lock.index c.args.cpu.now c.writer_release.new.cpu c.requires.domain c.writer_release.ensures.step.by
