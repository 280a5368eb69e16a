use Rattle.std.proofs.Common.{◌≡◌, Some, refl, sym, subst, ap, ◌∙◌, IfSome}
use Rattle.lk_pvdomain.proofs.Names.{IsPackable, Fields, NodeName, table_of, layout_in, IsNode}
use Rattle.lk_pvdomain.proofs.Names.{Plan}
use Rattle.lk_word.specs.SpinWord.{packed}
use Rattle.lk_pvdomain.proofs.ways.Arrives.{kept, tail_asks, g4_first, g4_behind}
use Rattle.lk_pvdomain.proofs.ways.Ways.{numbered}
use Rattle.lk_pvdomain.proofs.call.Queued.exchange.Goals as goal

pub exchange_tail-met-requires : goal.exchange_tail-met-requires
exchange_tail-met-requires c =
    let w = c.requires.1 in
    record { table = table_of c.args.self.now.domain.now; seat = w.of.table_is; lock = w.low; number = numbered w; own = w.of.near; row = tail_asks w refl w.has }

pub returns-then-met-expected-clause-other : goal.returns-then-met-expected-clause-other
returns-then-met-expected-clause-other c met e s w =
    kept c.exchange_tail-met.ensures.same w (c.exchange_tail-met.ensures.step.stands c.if-met-expected.true)

pub word_met-requires : goal.word_met-requires
word_met-requires c =
    let w = c.requires.1 in
    let k = c.exchange_tail-met.ensures.step.made c.if-met-expected.false in
    record {
      word = (
        k.found,
        subst (λ (p : Plan). IsPackable (layout_in p) k.found) w.of.plan k.packs,
        k.word ∙ ap (λ (p : Plan). packed (layout_in p) k.found) w.of.plan,
      );
    }

pub returns-in-Some : goal.returns-in-Some
returns-in-Some c =
    let v = c.requires.1 in
    let k = c.exchange_tail-met.ensures.step.made c.if-met-expected.false in
    let is = c.word_met.ensures k.found (subst (λ (p : Plan). IsPackable (layout_in p) k.found) v.of.plan k.packs)
    (k.word ∙ ap (λ (p : Plan). packed (layout_in p) k.found) v.of.plan) in
    let tail : k.found.tail ≡ Some c.in-Some.prev = ap (λ (y : Fields). y.tail) (sym is) ∙ c.in-Some.is in
    record {
      node = λ prev e.
          let same : c.in-Some.prev ≡ prev = cc e in
          subst (λ (n : NodeName). IsNode c.args.self.now.domain.now.plan n) same
          (subst (λ o. IfSome o (IsNode c.args.self.now.domain.now.plan)) tail (subst (λ (p : Plan). IfSome k.found.tail (IsNode p)) v.of.plan k.tail));
      first = λ e. absurd (cc e);
      behind = λ prev e s w.
          let same : c.in-Some.prev ≡ prev = cc e in
          g4_behind c.exchange_tail-met.ensures.same w k (tail ∙ ap Some same);
      other = λ met e. absurd (cc e);
    }

pub returns-in-None : goal.returns-in-None
returns-in-None c =
    let v = c.requires.1 in
    let k = c.exchange_tail-met.ensures.step.made c.if-met-expected.false in
    let is = c.word_met.ensures k.found (subst (λ (p : Plan). IsPackable (layout_in p) k.found) v.of.plan k.packs)
    (k.word ∙ ap (λ (p : Plan). packed (layout_in p) k.found) v.of.plan) in
    record {
      node = λ prev e. absurd (cc e);
      first = λ e s w. g4_first c.exchange_tail-met.ensures.same w k (ap (λ (y : Fields). y.tail) (sym is) ∙ c.in-None.is);
      behind = λ prev e. absurd (cc e);
      other = λ met e. absurd (cc e);
    }
