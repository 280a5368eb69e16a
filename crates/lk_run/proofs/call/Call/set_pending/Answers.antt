use Rattle.std.proofs.Common.{ap, subst, sym, ◌∙◌, ◌≡◌, ◌⊎◌}
use Rattle.lk_run.proofs.Names.{G1, P1, P2, P3, P4, after_pending, Any, Steps}
use Rattle.lk_domain.specs.Rows.{pends_by}
use Rattle.lk_run.proofs.Places.{met_by, pend_else, pend_place}
use Rattle.lk_run.proofs.Rows as row
use Rattle.lk_run.proofs.Calling as on
use Rattle.lk_run.proofs.call.Call.set_pending.Goals as goal

pub set_pending-met-requires-clause-row : goal.set_pending-met-requires-clause-row
set_pending-met-requires-clause-row c = on.acts_in c.requires (pends_by c.args.self.now.verb) (on.patient c.requires)

pub word_met-requires : goal.word_met-requires
word_met-requires c =
    let step = c.set_pending-met.ensures.step in
    let made = step.by in
    let met = met_by c.args.self.now.domain.now c.args.cpu.now c.set_pending-met.new.cpu c.requires.domain step in
    record { word = (made.found, met.packs, met.word) }

pub returns-clause-place : goal.returns-clause-place
returns-clause-place c =
    let step = c.set_pending-met.ensures.step in
    let made = step.by in
    let met = met_by c.args.self.now.domain.now c.args.cpu.now c.set_pending-met.new.cpu c.requires.domain step in
    subst (λ q. (q ≡ P2) ⊎ (q ≡ P3) ⊎ (q ≡ P4) ⊎ (q ≡ G1)) (sym (c.after_pending.ensures ∙ ap after_pending (c.word_met.ensures made.found met.packs met.word)))
    (pend_place made.found)

pub returns-clause-goes : goal.returns-clause-goes
returns-clause-goes c =
    let step = c.set_pending-met.ensures.step in
    let made = step.by in
    let met = met_by c.args.self.now.domain.now c.args.cpu.now c.set_pending-met.new.cpu c.requires.domain step in
    let is = c.after_pending.ensures ∙ ap after_pending (c.word_met.ensures made.found met.packs met.word) in
    subst (λ q. Steps c.args.self.now P1 Any q Any c.args.cpu.now c.set_pending-met.new.cpu) (sym is)
    (on.word_steps c.requires c.set_pending-met.ensures.rest made (after_pending made.found) Any (pend_else made.found)
    (λ f has. row.pends _ _ f made.found))
