use Rattle.std.proofs.Common.{ap, refl, sym, ◌∙◌, not, ◌&&◌}
use Rattle.lk_run.proofs.Names.{Fields, is_node, G9, is_unlocked, Fronts}
use Rattle.lk_domain.specs.Rows.{soles_by}
use Rattle.lk_run.proofs.Places.{met_by}
use Rattle.lk_run.proofs.Rows as row
use Rattle.lk_run.proofs.Calling as on
use Rattle.lk_run.proofs.call.Front.take_sole.Goals as goal

pub sole_claim-met-requires-clause-row : goal.sole_claim-met-requires-clause-row
sole_claim-met-requires-clause-row c =
    record { acts = on.acts_in c.requires (soles_by c.args.self.now.call.verb) (on.patient c.requires); me = c.requires.waits.looked.at.has.me }

pub word_met-requires : goal.word_met-requires
word_met-requires c =
    let q = c.args.self.now in
    let step = c.sole_claim-met.ensures.step in
    let made = step.by in
    let met = met_by q.call.domain.now c.args.cpu.now c.sole_claim-met.new.cpu c.requires.domain step in
    record { word = (made.found, met.packs, met.word) }

pub returns-clause-taken : goal.returns-clause-taken
returns-clause-taken c is =
    let q = c.args.self.now in
    let step = c.sole_claim-met.ensures.step in
    let made = step.by in
    let met = met_by q.call.domain.now c.args.cpu.now c.sole_claim-met.new.cpu c.requires.domain step in
    on.word_takes c.requires c.sole_claim-met.ensures.rest made refl
    (λ f has. row.sole_takes _ _ f made.found q.own q.second has
    (sym (c.is_sole.ensures ∙ ap (λ (y : Fields). is_unlocked y.locked && not y.pending && is_node y.tail q.own) (c.word_met.ensures made.found met.packs met.word)) ∙ is))

pub returns-clause-others : goal.returns-clause-others
returns-clause-others c is =
    let q = c.args.self.now in
    let step = c.sole_claim-met.ensures.step in
    let made = step.by in
    let met = met_by q.call.domain.now c.args.cpu.now c.sole_claim-met.new.cpu c.requires.domain step in
    on.word_steps c.requires c.sole_claim-met.ensures.rest made G9 (Fronts q.own q.second) (λ e. cc e)
    (λ f has. row.sole_misses _ _ f made.found q.own q.second has
    (sym (c.is_sole.ensures ∙ ap (λ (y : Fields). is_unlocked y.locked && not y.pending && is_node y.tail q.own) (c.word_met.ensures made.found met.packs met.word)) ∙ is))
