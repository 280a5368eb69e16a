use Rattle.std.proofs.Common.{None, Some, ap, sym, ◌∙◌, not, ◌&&◌}
use Rattle.lk_run.proofs.Names.{Fields, NodeName, is_node, C1, C7, Word, view_of, Cpu, Fronts}
use Rattle.lk_run.proofs.Names.{Precedes}
use Rattle.lk_rows.specs.rows.Cna.{is_held}
use Rattle.lk_domain.specs.{NodePlays.AtPromotion, Rows.promotes_by}
use Rattle.lk_run.proofs.Places.{met_by}
use Rattle.lk_run.specs.{Choosing.MayPromote, declared.call.Front.Front}
use Rattle.lk_run.proofs.ChoiceRows as choice
use Rattle.lk_run.proofs.Calling as on
use Rattle.lk_run.proofs.call.Front.promote.Goals as goal

-- the head may swap the tail
promotion : (head : Front) (t : NodeName) (cpu : Cpu) → MayPromote head t cpu
    → AtPromotion head.call.lock head.own t head.call.verb (view_of cpu)
promotion head t cpu may =
    record {
      acts = on.acts_in may.at (promotes_by head.call.verb) (on.patient may.at);
      me = may.at.waits.looked.at.has.fronts.me;
      t = may.at.waits.looked.at.has.tail;
    }

pub tail_to_second-met-requires-clause-domain : goal.tail_to_second-met-requires-clause-domain
tail_to_second-met-requires-clause-domain c = c.requires.waits.at.domain

pub tail_to_second-met-requires-clause-row : goal.tail_to_second-met-requires-clause-row
tail_to_second-met-requires-clause-row c =
    (c.args.self.now.call.verb, promotion c.args.self.now c.args.t c.args.cpu.now c.requires.waits)

pub word_met-requires : goal.word_met-requires
word_met-requires c =
    let q = c.args.self.now in
    let step = c.tail_to_second-met.ensures.step c.args.self.now.call.verb (promotion c.args.self.now c.args.t c.args.cpu.now c.requires.waits) in
    let made = step.by in
    let met = met_by q.call.domain.now c.args.cpu.now c.tail_to_second-met.new.cpu c.requires.waits.at.domain step in
    record { word = (made.found, met.packs, met.word) }

pub returns : goal.returns
returns c =
    let q = c.args.self.now in
    let step = c.tail_to_second-met.ensures.step c.args.self.now.call.verb (promotion c.args.self.now c.args.t c.args.cpu.now c.requires.waits) in
    let made = step.by in
    let met = met_by q.call.domain.now c.args.cpu.now c.tail_to_second-met.new.cpu c.requires.waits.at.domain step in
    let seat = on.word c.requires.waits.at c.tail_to_second-met.ensures.rest made in
    let last = c.is_last.ensures ∙ ap (λ (y : Fields). is_held y.locked && not y.pending && is_node y.tail q.own) (c.word_met.ensures made.found met.packs met.word) in
    record {
      promoted = λ is first. on.steps_by c.requires.waits.at.domain c.tail_to_second-met.ensures.rest (Word made.found) seat C7 (Precedes q.own None first) (λ e. cc e)
          (λ f has. choice.promoted _ _ f made.found q.own first c.args.t has (sym last ∙ is));
      others = λ is first. on.steps_by c.requires.waits.at.domain c.tail_to_second-met.ensures.rest (Word made.found) seat C1 (Fronts q.own (Some first)) (λ e. cc e)
          (λ f has. choice.not_promoted _ _ f made.found q.own first c.args.t has (sym last ∙ is));
    }
