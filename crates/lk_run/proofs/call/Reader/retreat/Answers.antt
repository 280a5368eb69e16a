use Rattle.std.proofs.Common.{refl}
use Rattle.lk_run.proofs.Names.{R4, Read, quits_by}
use Rattle.lk_run.proofs.RwRows as row
use Rattle.lk_run.proofs.RwCalling as on
use Rattle.lk_run.proofs.call.Reader.retreat.Goals as goal

pub subtract_bias-requires-clause-row : goal.subtract_bias-requires-clause-row
subtract_bias-requires-clause-row c = on.acts c.requires (quits_by Read) refl

pub returns : goal.returns
returns c =
    let made = c.subtract_bias.ensures.step.by in
    on.sets_out c.requires c.subtract_bias.ensures.rest refl made R4 (λ f. row.retreats _ _ f made.found) refl (λ e. cc e)
