use Rattle.std.proofs.Common.{sym, ◌∙◌}
use Rattle.lk_run.proofs.Names.{Reads, Y2, Y3, TryRead, waits_in, joins_at, calls_of}
use Rattle.lk_run.proofs.RwPlaces.{is_open_by, is_shut_by}
use Rattle.lk_run.proofs.RwRows as row
use Rattle.lk_run.proofs.RwTries as try
use Rattle.lk_run.proofs.reading.try_add.Goals as goal

pub add_bias-requires-clause-row : goal.add_bias-requires-clause-row
add_bias-requires-clause-row c =
    try.acts_try c.args.domain.now TryRead c.args.lock.index Y2 c.args.cpu.now c.requires.waits.0 c.requires.waits.1
    (joins_at (waits_in (calls_of c.args.cpu.now).frames c.args.lock.index) TryRead) (try.joins_Y2 (waits_in (calls_of c.args.cpu.now).frames c.args.lock.index))

pub returns-clause-taken : goal.returns-clause-taken
returns-clause-taken c is old at =
    let d = c.args.domain.now in
    let a = c.args.cpu.now in
    let b = c.add_bias.new.cpu in
    let l = c.args.lock.index in
    let made = c.add_bias.ensures.step.by in
    try.on_gains d TryRead l a b c.add_bias.ensures.rest c.requires.domain made Y2 old at Reads
    (λ f. row.add_enters d.plan.mode b.number f made.found (is_open_by c.add_bias.result made.found made.word (sym c.lets_readers_in.ensures ∙ is)))

pub returns-clause-closed : goal.returns-clause-closed
returns-clause-closed c is old at =
    let d = c.args.domain.now in
    let a = c.args.cpu.now in
    let b = c.add_bias.new.cpu in
    let l = c.args.lock.index in
    let made = c.add_bias.ensures.step.by in
    try.on_moves d TryRead l a b c.add_bias.ensures.rest c.requires.domain made Y2 old at Y3
    (λ f. row.add_misses d.plan.mode b.number f made.found (is_shut_by c.add_bias.result made.found made.word (sym c.lets_readers_in.ensures ∙ is)))
