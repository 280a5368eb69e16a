use Rattle.std.proofs.Common.{refl}
use Rattle.lk_run.proofs.Names.{Wr5, Write}
use Rattle.lk_domain.specs.RwRows.{awaits_by}
use Rattle.lk_run.proofs.RwRows as row
use Rattle.lk_run.proofs.RwCalling as on
use Rattle.lk_run.proofs.call.Writer.announce.Goals as goal

pub set_waiting-requires-clause-row : goal.set_waiting-requires-clause-row
set_waiting-requires-clause-row c = on.acts c.requires (awaits_by Write) refl

pub returns : goal.returns
returns c =
    let made = c.set_waiting.ensures.step.by in
    on.steps c.requires c.set_waiting.ensures.rest refl made Wr5 (λ e. cc e) (λ f. row.announces _ _ f made.found)
