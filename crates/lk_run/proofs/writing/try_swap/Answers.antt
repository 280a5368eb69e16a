use Rattle.lk_run.proofs.Names.{Writes, Y5, TryWrite, waits_in, seizes_at, calls_of}
use Rattle.lk_run.proofs.RwPlaces.{empty_by, full_by}
use Rattle.lk_run.proofs.RwRows as row
use Rattle.lk_run.proofs.RwTries as try
use Rattle.lk_run.proofs.writing.try_swap.Goals as goal

pub empty_to_writer-requires-clause-row : goal.empty_to_writer-requires-clause-row
empty_to_writer-requires-clause-row c =
    try.acts_try c.args.domain.now TryWrite c.args.lock.index Y5 c.args.cpu.now c.requires.waits.0 c.requires.waits.1
    (seizes_at (waits_in (calls_of c.args.cpu.now).frames c.args.lock.index) TryWrite) (try.seizes_Y5 (waits_in (calls_of c.args.cpu.now).frames c.args.lock.index))

pub returns-clause-taken : goal.returns-clause-taken
returns-clause-taken c is old at =
    let d = c.args.domain.now in
    let a = c.args.cpu.now in
    let b = c.empty_to_writer.new.cpu in
    let l = c.args.lock.index in
    let made = c.empty_to_writer.ensures.step.by in
    try.on_gains d TryWrite l a b c.empty_to_writer.ensures.rest c.requires.domain made Y5 old at Writes
    (λ f. row.once_enters d.plan.mode b.number f made.found (empty_by c.empty_to_writer.result made.found made.word is))

pub returns-clause-missed : goal.returns-clause-missed
returns-clause-missed c is old at =
    let d = c.args.domain.now in
    let a = c.args.cpu.now in
    let b = c.empty_to_writer.new.cpu in
    let l = c.args.lock.index in
    let made = c.empty_to_writer.ensures.step.by in
    try.on_misses d TryWrite l a b c.empty_to_writer.ensures.rest c.requires.domain made Y5 old at
    (λ f. row.once_fails d.plan.mode b.number f made.found (full_by c.empty_to_writer.result made.found made.word is))
