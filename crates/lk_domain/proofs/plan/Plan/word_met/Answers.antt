use Rattle.std.proofs.Common.{◌≡◌, ◌∙◌, subst, arith, IfSome}
use Rattle.lk_domain.proofs.Names.{packed_small, IsPackable, Fields, Layout, layout_in}
use Rattle.lk_word.proofs.SpinWordLemmas.{packed_injective}
use Rattle.lk_word.specs.SpinWord.{packed}
use Rattle.lk_domain.proofs.plan.Plan.word_met.Goals as goal

pub overflow_cast-met : goal.overflow_cast-met
overflow_cast-met c =
    let word = c.requires.word in
    let small = packed_small (layout_in c.args.self.now) word.0 word.1 in
    let is = word.2 in
    omega (arith, small, is)

pub returns : goal.returns
returns c word packs is =
    let layout = layout_in c.args.self.now in
    let fields = subst (λ (x : Layout). IfSome c.unpack.result (λ (f : Fields). IsPackable x f × (packed x f ≡ c.args.met))) c.layout.ensures c.unpack.ensures.fields in
    let read = subst (λ o. IfSome o (λ (f : Fields). IsPackable layout f × (packed layout f ≡ c.args.met))) c.in-Some.is fields in
    packed_injective layout c.in-Some.word word read.0 packs (read.1 ∙ is)
