use Rattle.std.proofs.Common.{ap, ◌∙◌}
use Rattle.qlock_c.specs.declared.processor.Processor.{Processor}
use Rattle.qlock_c.proofs.Full.{full_has}
use Rattle.qlock_c.proofs.processor.take.Goals as goal

pub into_parcel-requires : goal.into_parcel-requires
into_parcel-requires c =
    full_has c.replace-whole.result.handle.inner
    (c.replace-whole.result.full ∙ (ap (λ (p : Processor). p.used) c.replace-whole.ensures.value ∙ c.if-not-cpu.false))
