use Rattle.std.proofs.Common.{ap, inl, refl, subst, sym, ◌∙◌, ◌≡◌, ◌⊎◌, if◌then◌else◌, not, ◌&&◌}
use Rattle.lk_run.proofs.Names.{Fields, is_node, G7, G8, G9, is_unlocked, Word, Fronts}
use Rattle.lk_run.proofs.{Places.{front_place, met_by}, Ways.{Leads, sees}}
use Rattle.lk_run.proofs.Rows as row
use Rattle.lk_run.proofs.Calling as on
use Rattle.lk_run.proofs.call.Front.wait_as_front.Goals as goal

pub look-met-requires-clause-row : goal.look-met-requires-clause-row
look-met-requires-clause-row c = inl (on.looks_in c.requires refl)

pub word_met-word-requires : goal.word_met-word-requires
word_met-word-requires c =
    let step = c.look-met.ensures.word (on.looks_in c.requires refl) in
    let made = step.by in
    let met = met_by c.args.self.now.call.domain.now c.args.cpu.now c.look-met.new.cpu c.requires.domain step in
    record { word = (made.found, met.packs, met.word) }

pub returns-clause-place : goal.returns-clause-place
returns-clause-place c =
    let step = c.look-met.ensures.word (on.looks_in c.requires refl) in
    let made = step.by in
    let met = met_by c.args.self.now.call.domain.now c.args.cpu.now c.look-met.new.cpu c.requires.domain step in
    let q = c.args.self.now in
    let is = c.after_look.ensures ∙ ap (λ (y : Fields). if is_unlocked y.locked && not y.pending then (if is_node y.tail q.own && not c.is_some.result then G8 else G9) else G7) (c.word_met-word.ensures made.found met.packs met.word) in
    subst (λ p. (p ≡ G7) ⊎ (p ≡ G8) ⊎ (p ≡ G9)) (sym is) (front_place (is_unlocked made.found.locked && not made.found.pending) (is_node made.found.tail q.own && not c.is_some.result))

pub returns-clause-goes : goal.returns-clause-goes
returns-clause-goes c other =
    let step = c.look-met.ensures.word (on.looks_in c.requires refl) in
    let made = step.by in
    let met = met_by c.args.self.now.call.domain.now c.args.cpu.now c.look-met.new.cpu c.requires.domain step in
    let q = c.args.self.now in
    let is = c.after_look.ensures ∙ ap (λ (y : Fields). if is_unlocked y.locked && not y.pending then (if is_node y.tail q.own && not c.is_some.result then G8 else G9) else G7) (c.word_met-word.ensures made.found met.packs met.word) in
    on.word_steps c.requires c.look-met.ensures.rest made c.after_look.result (Fronts q.own q.second) other
    (λ f has. subst (λ p. Leads q.call.domain.now.plan.mode c.look-met.new.cpu.number (sees q.call.domain.now c.args.cpu.now c.look-met.new.cpu) G7 f (Word made.found) p (Fronts q.own q.second)) (sym is)
    (row.front_looks _ _ f made.found q.own q.second has (is_unlocked made.found.locked && not made.found.pending) (is_node made.found.tail q.own && not c.is_some.result) refl
    (ap (λ b. is_node made.found.tail q.own && not b) (sym c.is_some.ensures))))

pub returns-clause-stays : goal.returns-clause-stays
returns-clause-stays c same =
    let step = c.look-met.ensures.word (on.looks_in c.requires refl) in
    let made = step.by in
    let met = met_by c.args.self.now.call.domain.now c.args.cpu.now c.look-met.new.cpu c.requires.domain step in
    let q = c.args.self.now in
    let is = c.after_look.ensures ∙ ap (λ (y : Fields). if is_unlocked y.locked && not y.pending then (if is_node y.tail q.own && not c.is_some.result then G8 else G9) else G7) (c.word_met-word.ensures made.found met.packs met.word) in
    on.word_looks c.requires c.look-met.ensures.rest made
    (λ f has. subst (λ p. Leads q.call.domain.now.plan.mode c.look-met.new.cpu.number (sees q.call.domain.now c.args.cpu.now c.look-met.new.cpu) G7 f (Word made.found) p (Fronts q.own q.second)) (sym is ∙ same)
    (row.front_looks _ _ f made.found q.own q.second has (is_unlocked made.found.locked && not made.found.pending) (is_node made.found.tail q.own && not c.is_some.result) refl
    (ap (λ b. is_node made.found.tail q.own && not b) (sym c.is_some.ensures))))
