use Rattle.std.proofs.Common.{ap, refl}
use Rattle.lk_run.proofs.Names.{Write, waits_in, seizes_at, calls_of}
use Rattle.lk_rows.specs.declared.parts.Pc.TheVariants.{Wr1}
use Rattle.lk_run.proofs.RwFast as fast
use Rattle.lk_run.proofs.RwSteps as rw
use Rattle.lk_run.proofs.writing.first.Goals as goal

pub seize_first-requires-clause-row : goal.seize_first-requires-clause-row
seize_first-requires-clause-row c =
    let d = c.args.domain.now in
    let a = c.args.cpu.now in
    let may = c.requires.may in
    rw.acts_begin (seizes_at (waits_in (calls_of a).frames c.args.lock.index) Write) d Write c.args.lock.index a c.requires.domain may refl c.requires.kind
    (ap (λ b. seizes_at b Write Wr1) may.fresh)

pub returns-clause-begins : goal.returns-clause-begins
returns-clause-begins c =
    let d = c.args.domain.now in
    let a = c.args.cpu.now in
    let b = c.seize_first.new.cpu in
    let l = c.args.lock.index in
    let step = c.seize_first.ensures in
    record {
      entered = λ is nests told.
          fast.writer_enters d l a b step.rest c.requires.domain c.requires.may.fresh c.seize_first.result nests told step.step.by is;
      out = λ is nests told.
          fast.writer_waits d l a b step.rest c.requires.domain c.requires.may.fresh c.seize_first.result nests told step.step.by is;
    }
