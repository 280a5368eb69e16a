use Rattle.std.proofs.Common.{ap, refl}
use Rattle.lk_run.proofs.Names.{Writes, Wr3, Wr4, Write, waits_in, seizes_at, calls_of}
use Rattle.lk_run.proofs.RwPlaces.{empty_by, full_by}
use Rattle.lk_run.proofs.RwRows as row
use Rattle.lk_run.proofs.RwCalling as on
use Rattle.lk_run.proofs.call.Writer.swap.Goals as goal

pub empty_to_writer-requires-clause-row : goal.empty_to_writer-requires-clause-row
empty_to_writer-requires-clause-row c =
    on.acts c.requires (seizes_at (waits_in (calls_of c.args.cpu.now).frames c.args.self.now.lock.index) Write) (ap (λ b. seizes_at b Write Wr3) (on.waits_on c.requires))

pub returns-clause-passed : goal.returns-clause-passed
returns-clause-passed c is =
    let made = c.empty_to_writer.ensures.step.by in
    on.passes c.requires c.empty_to_writer.ensures.rest refl made Writes
    (λ f. row.swap_enters _ _ f made.found c.requires.domain.awake (empty_by c.empty_to_writer.result made.found made.word is)) (λ e. cc e)

pub returns-clause-others : goal.returns-clause-others
returns-clause-others c is =
    let made = c.empty_to_writer.ensures.step.by in
    on.steps c.requires c.empty_to_writer.ensures.rest refl made Wr4 (λ e. cc e)
    (λ f. row.swap_misses _ _ f made.found (full_by c.empty_to_writer.result made.found made.word is))
