use Rattle.std.proofs.Common.{arith, ◌≡◌, ℕ, Some, get_or, subst, inl, inr, slice_get}
use Rattle.lk_reach.proofs.Names.{cases_eq, slice_get-get_or, slice_get_within}
use Rattle.lk_reach.proofs.Kept.{one_value}
use Rattle.lk_reach.specs.Space.{IsLikePart}
use Rattle.lk_reach.proofs.space.Space.are_like.Goals as goal

pub loop-at-preserved : goal.loop-at-preserved
loop-at-preserved c =
    let classes = c.args.self.now.classes in
    let parts = c.args.parts.now in
    let others = c.args.others.now in
    let n = c.loop-at.«at» in
    let low = c.loop-at-test.true in
    let sizes = c.if-parts-others.false in
    let here : slice_get parts n ≡ Some (get_or parts n 0) = slice_get-get_or parts n 0 low in
    let there : slice_get others n ≡ Some (get_or others n 0) = slice_get-get_or others n 0 (omega (arith, low, sizes)) in
    let is : IsLikePart classes (get_or parts n 0) (get_or others n 0) = c.is_like.ensures c.if-not-is_like.false in
    λ p i j before at also.
    elim (cases_eq p n) [
      | inl e ↦
          let one : get_or parts n 0 ≡ i = one_value (slice_get parts n) (get_or parts n 0) i here
          (subst (λ (h : ℕ). slice_get parts h ≡ Some i) e at) in
          let other : get_or others n 0 ≡ j = one_value (slice_get others n) (get_or others n 0) j there
          (subst (λ (h : ℕ). slice_get others h ≡ Some j) e also) in
          subst (λ (h : ℕ). IsLikePart classes h j) one
          (subst (λ (h : ℕ). IsLikePart classes (get_or parts n 0) h) other is)
      | inr ne ↦ c.loop-at.invariant p i j (omega (arith, before, ne)) at also
    ]

pub returns : goal.returns
returns c =
    let end = c.loop-at-test.false in
    λ yes p i j at also.
    let low = slice_get_within c.args.parts.now p i at in
    c.loop-at.invariant p i j (omega (arith, low, end)) at also
