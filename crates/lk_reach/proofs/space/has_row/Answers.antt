use Rattle.std.proofs.Common.{arith, ◌≡◌, ℕ, Some, inl, inr, subst, sym, ap, ◌∙◌, refl, slice_get}
use Rattle.lk_reach.proofs.Names.{cases_eq, slice_get-get_or, slice_get_within, CpuState, row_of}
use Rattle.lk_reach.proofs.Kept.{one_value}
use Rattle.lk_reach.proofs.space.has_row.Goals as goal

pub loop-at-preserved : goal.loop-at-preserved
loop-at-preserved c = λ i x low here.
    let xs = c.args.parts.now in
    let n = c.loop-at.at in
    let y = c.index-parts-at.result in
    elim (cases_eq i n) [
      | inl e ↦
          let at : slice_get xs n ≡ Some x = subst (λ (k : ℕ). slice_get xs k ≡ Some x) e here in
          let same : x ≡ y = one_value (slice_get xs n) x y at
          (slice_get-get_or xs n y (slice_get_within xs n x at) ∙ ap Some (sym c.index-parts-at.is)) in
          (λ made. c.if-is_row.ensures.no refl
          (c.next_row.ensures ∙ ap (λ (z : CpuState). row_of z) (sym same) ∙ made))
      | inr ne ↦ c.loop-at.invariant i x (omega (arith, low, ne)) here
    ]

pub returns : goal.returns
returns c = λ no i x here.
    let low = slice_get_within c.args.parts.now i x here in
    let end = c.loop-at-test.false in
    c.loop-at.invariant i x (omega (arith, low, end)) here
