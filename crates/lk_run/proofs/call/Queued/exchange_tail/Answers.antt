use Rattle.std.proofs.Common.{Some, ap, sym, ◌∙◌, ◌≡◌}
use Rattle.lk_run.proofs.Names.{Fields, NodeName, G4, G7, view_of, Cpu, Owns, At}
use Rattle.lk_rows.specs.declared.parts.Pc.TheVariants.{G5}
use Rattle.lk_domain.specs.{NodePlays.Arrives, Rows.arrives_by}
use Rattle.lk_run.proofs.Places.{met_by}
use Rattle.lk_run.specs.{Frames.Follows, declared.call.Queued.Queued}
use Rattle.lk_run.proofs.Rows as row
use Rattle.lk_run.proofs.Calling as on
use Rattle.lk_run.proofs.call.Queued.exchange_tail.Goals as goal

-- the call may exchange the tail
arrival : (q : Queued) (cpu : Cpu) → At q.call G4 (Owns q.own) cpu
    → Arrives q.call.lock q.own q.call.verb (view_of cpu)
arrival q cpu at = record { acts = on.acts_in at (arrives_by q.call.verb) (on.patient at); me = at.waits.looked.at.has.me }

pub exchange_tail-met-requires-clause-row : goal.exchange_tail-met-requires-clause-row
exchange_tail-met-requires-clause-row c = (c.args.self.now.call.verb, (arrival c.args.self.now c.args.cpu.now c.requires))

pub word_met-requires : goal.word_met-requires
word_met-requires c = let word = c.exchange_tail-met.ensures.word in record { word = (word.found, word.packs, word.word) }

pub returns-in-None-clause-first : goal.returns-in-None-clause-first
returns-in-None-clause-first c e =
    let w = c.args.self.now.call in
    let step = c.exchange_tail-met.ensures.step c.if-met-expected.false w.verb (arrival c.args.self.now c.args.cpu.now c.requires) in
    let made = step.by in
    let met = met_by w.domain.now c.args.cpu.now c.exchange_tail-met.new.cpu c.requires.domain step in
    on.word_steps c.requires c.exchange_tail-met.ensures.rest made G7 (Owns c.args.self.now.own) (λ h. cc h)
    (λ f has. row.arrives_first _ _ f made.found c.args.self.now.own has c.requires.domain.awake
    (sym (ap (λ (y : Fields). y.tail) (c.word_met.ensures made.found met.packs met.word)) ∙ c.in-None.is))

pub returns-in-Some-clause-behind : goal.returns-in-Some-clause-behind
returns-in-Some-clause-behind c next e =
    let w = c.args.self.now.call in
    let step = c.exchange_tail-met.ensures.step c.if-met-expected.false w.verb (arrival c.args.self.now c.args.cpu.now c.requires) in
    let made = step.by in
    let met = met_by w.domain.now c.args.cpu.now c.exchange_tail-met.new.cpu c.requires.domain step in
    let same : c.in-Some.prev ≡ next = cc e in
    let at : c.word_met.result.tail ≡ Some next = c.in-Some.is ∙ ap (λ (n : NodeName). Some n) same in
    on.word_steps c.requires c.exchange_tail-met.ensures.rest made G5 (Follows c.args.self.now.own next) (λ h. cc h)
    (λ f has. row.arrives_behind _ _ f made.found c.args.self.now.own has next c.requires.domain.awake
    (sym (ap (λ (y : Fields). y.tail) (c.word_met.ensures made.found met.packs met.word)) ∙ at))
