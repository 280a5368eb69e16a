use Rattle.std.proofs.Common.{◌≡◌, ◌∙◌, ℕ, Some, ap, arith, inl, inr, subst, sym, slice_get}
use Rattle.lk_reach.proofs.Names.{cases_eq}
use Rattle.lk_reach.proofs.apart.Alike.{same_list}
use Rattle.lk_reach.proofs.peers.same_program.Goals as goal

pub loop-at-preserved : goal.loop-at-preserved
loop-at-preserved c =
    let a = c.args.a.now.items in
    let b = c.args.b.now.items in
    let here : slice_get a c.loop-at.at ≡ slice_get b c.loop-at.at =
    c.get.ensures ∙ ap Some (c.same_op.ensures c.if-not-same_op.false) ∙ sym c.get-in-loop-at.ensures in
    λ i low.
    elim (cases_eq i c.loop-at.at) [
      | inl e ↦ subst (λ (k : ℕ). slice_get a k ≡ slice_get b k) (sym e) here
      | inr ne ↦ c.loop-at.invariant i (omega (arith, low, ne))
    ]

pub returns : goal.returns
returns c =
    let a = c.args.a.now.items in
    let b = c.args.b.now.items in
    let one = c.len.ensures in
    let other = c.len-2.ensures in
    let same = c.if-len.false in
    let last = c.len-at-end.ensures in
    let end = c.loop-at-test.false in
    λ yes. same_list a b (omega (arith, one, other, same)) (λ i low. c.loop-at.invariant i (omega (arith, low, end, last)))
