use Rattle.std.proofs.Common.{ap, inl, refl, sym, ◌∙◌}
use Rattle.lk_run.proofs.Names.{Fields, P4, is_unlocked, Any}
use Rattle.lk_run.proofs.Places.{met_by}
use Rattle.lk_run.proofs.Rows as row
use Rattle.lk_run.proofs.Calling as on
use Rattle.lk_run.proofs.call.Call.watch.Goals as goal

pub look-met-requires-clause-row : goal.look-met-requires-clause-row
look-met-requires-clause-row c = inl (on.looks_in c.requires refl)

pub word_met-requires : goal.word_met-requires
word_met-requires c =
    let step = c.look-met.ensures.word (on.looks_in c.requires refl) in
    let made = step.by in
    let met = met_by c.args.self.now.domain.now c.args.cpu.now c.look-met.new.cpu c.requires.domain step in
    record { word = (made.found, met.packs, met.word) }

pub returns-clause-free : goal.returns-clause-free
returns-clause-free c is =
    let step = c.look-met.ensures.word (on.looks_in c.requires refl) in
    let made = step.by in
    let met = met_by c.args.self.now.domain.now c.args.cpu.now c.look-met.new.cpu c.requires.domain step in
    on.word_steps c.requires c.look-met.ensures.rest made P4 Any (λ e. cc e)
    (λ f has. row.watch_sees _ _ f made.found (sym (c.is_unlocked.ensures ∙ ap (λ (y : Fields). is_unlocked y.locked) (c.word_met.ensures made.found met.packs met.word)) ∙ is))

pub returns-clause-held : goal.returns-clause-held
returns-clause-held c is =
    let step = c.look-met.ensures.word (on.looks_in c.requires refl) in
    let made = step.by in
    let met = met_by c.args.self.now.domain.now c.args.cpu.now c.look-met.new.cpu c.requires.domain step in
    on.word_looks c.requires c.look-met.ensures.rest made
    (λ f has. row.watch_waits _ _ f made.found (sym (c.is_unlocked.ensures ∙ ap (λ (y : Fields). is_unlocked y.locked) (c.word_met.ensures made.found met.packs met.word)) ∙ is))
