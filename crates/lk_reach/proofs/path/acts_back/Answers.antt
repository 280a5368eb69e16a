use Rattle.std.proofs.Common.{arith, ◌≡◌, ◌∷◌, ◌∙◌, [], ℕ, List, ap, refl, reverse, sym, subst}
use Rattle.std.proofs.lemmas.List.{reverse-append}
use Rattle.lk_reach.proofs.Names.{Act, IsPath}
use Rattle.lk_reach.proofs.path.acts_back.Goals as goal

pub loop-made-init : goal.loop-made-init
loop-made-init c = record {
  down = omega arith;
  path = subst (λ (acts : List Act). IsPath c.args.plan.now c.args.book.now c.args.state c.args.state (reverse acts))
      (sym c.in_ok-acts.ensures.items) refl;
}

pub before-before-requires : goal.before-before-requires
before-before-requires c =
    let down = c.loop-made.invariant.down in
    let there = c.requires.there in
    let up = c.if-here-eq0.false in
    record { low = c.requires.low; there = omega (arith, down, there); up = omega (arith, up) }

pub loop-made-preserved : goal.loop-made-preserved
loop-made-preserved c =
    let inv = c.loop-made.invariant in
    let up = c.if-here-eq0.false in
    let down = inv.down in
    let before = c.before-before.ensures in
    let from = before.from in
    let low = (c.requires.low c.loop-made.here before.origin before.is (omega (arith, up))).0 in
    record {
      down = omega (arith, down, low, from);
      path = subst (λ (acts : List Act). IsPath c.args.plan.now c.args.book.now c.before-before.result.0 c.args.state acts)
          (sym (ap (λ (acts : List Act). reverse acts) c.in_ok-add.ensures ∙ reverse-append c.loop-made.acts.items (c.before-before.result.1 ∷ []))) (c.loop-made.here, before, omega (arith, up), inv.path);
    }

pub returns-then-here-eq0 : goal.returns-then-here-eq0
returns-then-here-eq0 c =
    subst (λ (k : ℕ). IsPath c.args.plan.now c.args.book.now k c.args.state (reverse c.loop-made.acts.items)) c.if-here-eq0.true
    c.loop-made.invariant.path

pub returns : goal.returns
returns c =
    let down = c.loop-made.invariant.down in
    let end = c.loop-made-test.false in
    let is : c.loop-made.here ≡ 0 = omega (arith, down, end) in
    subst (λ (k : ℕ). IsPath c.args.plan.now c.args.book.now k c.args.state (reverse c.loop-made.acts.items)) is
    c.loop-made.invariant.path
