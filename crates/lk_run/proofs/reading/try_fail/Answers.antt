use Rattle.std.proofs.Common.{refl}
use Rattle.lk_run.proofs.Names.{Y3, TryRead, quits_by}
use Rattle.lk_run.proofs.RwRows as row
use Rattle.lk_run.proofs.RwTries as try
use Rattle.lk_run.proofs.reading.try_fail.Goals as goal

pub subtract_bias-requires-clause-row : goal.subtract_bias-requires-clause-row
subtract_bias-requires-clause-row c =
    try.acts_try c.args.domain.now TryRead c.args.lock.index Y3 c.args.cpu.now c.requires.waits.0 c.requires.waits.1
    (quits_by TryRead) refl

pub returns-clause-missed : goal.returns-clause-missed
returns-clause-missed c old at =
    let d = c.args.domain.now in
    let a = c.args.cpu.now in
    let b = c.subtract_bias.new.cpu in
    let l = c.args.lock.index in
    let made = c.subtract_bias.ensures.step.by in
    try.on_misses d TryRead l a b c.subtract_bias.ensures.rest c.requires.domain made Y3 old at
    (λ f. row.gives_up d.plan.mode b.number f made.found)
