use Rattle.std.proofs.Common.{ap, inl, refl, subst, sym, ◌∙◌, ◌≡◌, ◌⊎◌}
use Rattle.lk_run.proofs.Names.{G1, P0, P1, to_queue, Any, Steps}
use Rattle.lk_run.proofs.Places.{met_by, queue_else, queue_place}
use Rattle.lk_run.proofs.Rows as row
use Rattle.lk_run.proofs.Calling as on
use Rattle.lk_run.proofs.call.Call.look_again.Goals as goal

pub look-met-requires-clause-row : goal.look-met-requires-clause-row
look-met-requires-clause-row c = inl (on.looks_in c.requires refl)

pub word_met-requires : goal.word_met-requires
word_met-requires c =
    let step = c.look-met.ensures.word (on.looks_in c.requires refl) in
    let made = step.by in
    let met = met_by c.args.self.now.domain.now c.args.cpu.now c.look-met.new.cpu c.requires.domain step in
    record { word = (made.found, met.packs, met.word) }

pub returns-clause-place : goal.returns-clause-place
returns-clause-place c =
    let step = c.look-met.ensures.word (on.looks_in c.requires refl) in
    let made = step.by in
    let met = met_by c.args.self.now.domain.now c.args.cpu.now c.look-met.new.cpu c.requires.domain step in
    subst (λ q. (q ≡ P1) ⊎ (q ≡ G1)) (sym (c.to_queue.ensures ∙ ap to_queue (c.word_met.ensures made.found met.packs met.word))) (queue_place made.found)

pub returns-clause-goes : goal.returns-clause-goes
returns-clause-goes c =
    let step = c.look-met.ensures.word (on.looks_in c.requires refl) in
    let made = step.by in
    let met = met_by c.args.self.now.domain.now c.args.cpu.now c.look-met.new.cpu c.requires.domain step in
    let is = c.to_queue.ensures ∙ ap to_queue (c.word_met.ensures made.found met.packs met.word) in
    subst (λ q. Steps c.args.self.now P0 Any q Any c.args.cpu.now c.look-met.new.cpu) (sym is)
    (on.word_steps c.requires c.look-met.ensures.rest made (to_queue made.found) Any (queue_else made.found)
    (λ f has. row.again_goes _ _ f made.found))
