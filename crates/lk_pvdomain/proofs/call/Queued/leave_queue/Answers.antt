use Rattle.std.proofs.Common.{sym, subst, ap, ◌∙◌, ◌&&◌, not}
use Rattle.lk_pvdomain.proofs.Names.{IsPackable, Fields, is_node, is_held, layout_in, Plan}
use Rattle.lk_word.specs.SpinWord.{packed}
use Rattle.lk_pvdomain.proofs.ways.Hands.{last_asks, e13_leaves, e13_stays}
use Rattle.lk_pvdomain.proofs.call.Queued.leave_queue.Goals as goal

pub quit-met-requires : goal.quit-met-requires
quit-met-requires c =
    let w = c.requires.1 in
    record { of = w.of; lock = w.low; row = last_asks w }

pub word_met-requires : goal.word_met-requires
word_met-requires c =
    let w = c.requires.1 in
    let k = c.quit-met.ensures.step in
    record {
      word = (
        k.found,
        subst (λ (p : Plan). IsPackable (layout_in p) k.found) w.of.plan k.packs,
        k.word ∙ ap (λ (p : Plan). packed (layout_in p) k.found) w.of.plan,
      );
    }

pub returns-clause-last : goal.returns-clause-last
returns-clause-last c e s w =
    let k = c.quit-met.ensures.step in
    let is = c.word_met.ensures k.found (subst (λ (p : Plan). IsPackable (layout_in p) k.found) w.of.plan k.packs)
    (k.word ∙ ap (λ (p : Plan). packed (layout_in p) k.found) w.of.plan) in
    e13_leaves c.quit-met.ensures.same w k
    (sym (c.is_last.ensures ∙ ap (λ (y : Fields). is_held y.locked && not y.pending && is_node y.tail c.args.self.now.own) is) ∙ e)

pub returns-clause-others : goal.returns-clause-others
returns-clause-others c e s w =
    let k = c.quit-met.ensures.step in
    let is = c.word_met.ensures k.found (subst (λ (p : Plan). IsPackable (layout_in p) k.found) w.of.plan k.packs)
    (k.word ∙ ap (λ (p : Plan). packed (layout_in p) k.found) w.of.plan) in
    e13_stays c.quit-met.ensures.same w k
    (sym (c.is_last.ensures ∙ ap (λ (y : Fields). is_held y.locked && not y.pending && is_node y.tail c.args.self.now.own) is) ∙ e)
