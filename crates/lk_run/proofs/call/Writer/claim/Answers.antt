use Rattle.std.proofs.Common.{refl, sym, ◌∙◌}
use Rattle.lk_run.proofs.Names.{Writes, Wr5, Write}
use Rattle.lk_domain.specs.RwRows.{follows_by}
use Rattle.lk_run.proofs.RwPlaces.{cleared_by, uncleared_by}
use Rattle.lk_run.proofs.RwRows as row
use Rattle.lk_run.proofs.RwCalling as on
use Rattle.lk_run.proofs.call.Writer.claim.Goals as goal

pub waiting_to_writer-requires-clause-row : goal.waiting_to_writer-requires-clause-row
waiting_to_writer-requires-clause-row c = on.acts c.requires (follows_by Write) refl

pub returns-clause-passed : goal.returns-clause-passed
returns-clause-passed c is =
    let made = c.waiting_to_writer.ensures.step.by in
    on.passes c.requires c.waiting_to_writer.ensures.rest refl made Writes
    (λ f. row.claim_enters _ _ f made.found c.requires.domain.awake (cleared_by c.waiting_to_writer.result made.found made.word (sym c.has_only_waiting.ensures ∙ is))) (λ e. cc e)

pub returns-clause-biased : goal.returns-clause-biased
returns-clause-biased c is =
    let made = c.waiting_to_writer.ensures.step.by in
    on.steps c.requires c.waiting_to_writer.ensures.rest refl made Wr5 (λ e. cc e)
    (λ f. row.claim_misses _ _ f made.found (uncleared_by c.waiting_to_writer.result made.found made.word (sym c.has_only_waiting.ensures ∙ is)))
