use Rattle.std.proofs.Common.{refl, sym, subst, ap, ◌∙◌, Some, is_some}
use Rattle.lk_pvdomain.proofs.Names.{IsPackable, Fields, layout_in, Plan, At, Steals}
use Rattle.lk_word.specs.SpinWord.{packed}
use Rattle.lk_rows.specs.rows.Pv.{after_glance}
use Rattle.lk_domain.specs.declared.locks.moves.WordUse.TheVariants.{Looks}
use Rattle.lk_pvdomain.proofs.{ways.Arrives.h1_looks, ways.Leads.word_asks}
use Rattle.lk_pvdomain.proofs.call.Queued.glance.Goals as goal

pub go_on-met-requires : goal.go_on-met-requires
go_on-met-requires c =
    let w = c.requires.1 in
    record { on = (_, w.of); lock = w.low; row = word_asks w Looks refl; home = λ e. absurd (cc e) }

pub word_met-word-requires : goal.word_met-word-requires
word_met-word-requires c =
    let w = c.requires.1 in
    let k = c.go_on-met.ensures.step in
    record {
      word = (
        k.found,
        subst (λ (p : Plan). IsPackable (layout_in p) k.found) w.of.plan k.packs,
        k.word ∙ ap (λ (p : Plan). packed (layout_in p) k.found) w.of.plan,
      );
    }

pub returns : goal.returns
returns c s w =
    let q = c.args.self.now in
    let k = c.go_on-met.ensures.step in
    let is = c.word_met-word.ensures k.found (subst (λ (p : Plan). IsPackable (layout_in p) k.found) w.of.plan k.packs)
    (k.word ∙ ap (λ (p : Plan). packed (layout_in p) k.found) w.of.plan) in
    subst (λ (x : Fields). At q s (after_glance (Some q.own) x) (Steals (is_some x.tail)) c.go_on-met.new.seat)
    (sym is) (h1_looks c.go_on-met.ensures.same w k)
