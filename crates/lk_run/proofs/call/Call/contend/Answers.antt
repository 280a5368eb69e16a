use Rattle.std.proofs.Common.{subst, sym, ◌∙◌, ◌≡◌, ◌⊎◌}
use Rattle.lk_run.proofs.Names.{G1, P0, P1, V1, after_fast}
use Rattle.lk_run.proofs.Places.{fast_place, last_of_four}
use Rattle.lk_run.proofs.Calling as on
use Rattle.lk_run.proofs.call.Call.contend.Goals as goal

pub word_met-requires : goal.word_met-requires
word_met-requires c = let h = c.requires.arrives in record { word = (h.found, h.packs, h.word) }

pub spin-requires : goal.spin-requires
spin-requires c = on.came_at c.args.self.now c.word_met.ensures (sym c.in-V1.is ∙ (c.after_fast.ensures ∙ (λ i. after_fast (c.mode.ensures i) c.word_met.result))) c.requires

pub returns-in-V1 : goal.returns-in-V1
returns-in-V1 c = on.turned_by c.args.self.now c.word_met.ensures (sym c.in-V1.is ∙ (c.after_fast.ensures ∙ (λ i. after_fast (c.mode.ensures i) c.word_met.result))) c.spin.ensures

pub look_on-requires : goal.look_on-requires
look_on-requires c = on.came_at c.args.self.now c.word_met.ensures (sym c.in-P0.is ∙ (c.after_fast.ensures ∙ (λ i. after_fast (c.mode.ensures i) c.word_met.result))) c.requires

pub returns-in-P0 : goal.returns-in-P0
returns-in-P0 c = on.turned_by c.args.self.now c.word_met.ensures (sym c.in-P0.is ∙ (c.after_fast.ensures ∙ (λ i. after_fast (c.mode.ensures i) c.word_met.result))) c.look_on.ensures

pub pend-requires : goal.pend-requires
pend-requires c = on.came_at c.args.self.now c.word_met.ensures (sym c.in-P1.is ∙ (c.after_fast.ensures ∙ (λ i. after_fast (c.mode.ensures i) c.word_met.result))) c.requires

pub returns-in-P1 : goal.returns-in-P1
returns-in-P1 c = on.turned_by c.args.self.now c.word_met.ensures (sym c.in-P1.is ∙ (c.after_fast.ensures ∙ (λ i. after_fast (c.mode.ensures i) c.word_met.result))) c.pend.ensures

pub slow-requires : goal.slow-requires
slow-requires c =
    let by = c.after_fast.ensures ∙ (λ i. after_fast (c.mode.ensures i) c.word_met.result) in
    let last = last_of_four c.after_fast.result (subst (λ q. (q ≡ V1) ⊎ (q ≡ P0) ⊎ (q ≡ P1) ⊎ (q ≡ G1)) (sym by) (fast_place c.args.self.now.domain.now.plan.mode c.word_met.result))
    c.in_default.not-V1 c.in_default.not-P0 c.in_default.not-P1 in
    on.came_at c.args.self.now c.word_met.ensures (sym last ∙ by) c.requires

pub returns-in_default : goal.returns-in_default
returns-in_default c =
    let by = c.after_fast.ensures ∙ (λ i. after_fast (c.mode.ensures i) c.word_met.result) in
    let last = last_of_four c.after_fast.result (subst (λ q. (q ≡ V1) ⊎ (q ≡ P0) ⊎ (q ≡ P1) ⊎ (q ≡ G1)) (sym by) (fast_place c.args.self.now.domain.now.plan.mode c.word_met.result))
    c.in_default.not-V1 c.in_default.not-P0 c.in_default.not-P1 in
    on.turned_by c.args.self.now c.word_met.ensures (sym last ∙ by) c.slow.ensures
