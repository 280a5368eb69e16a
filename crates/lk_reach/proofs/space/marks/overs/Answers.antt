use Rattle.std.proofs.Common.{arith, ◌≡◌, ◌+◌, ◌∷◌, [], ◌++◌, ◌∙◌, ℕ, Bool, List, Some, ap, inl}
use Rattle.std.proofs.Common.{inr, length, length-append, subst, sym, slice_get}
use Rattle.lk_reach.proofs.Names.{cases_eq, slice_get-get_or, slice_get_within, CpuState, is_over}
use Rattle.lk_reach.proofs.{Kept.{front_get, one_value}, apart.Used.last_mark}
use Rattle.lk_reach.proofs.space.marks.overs.Goals as goal

pub loop-at-init : goal.loop-at-init
loop-at-init c = record {
  count = ap length c.in_ok-marks.ensures.items;
  each = λ i x low here. absurd (omega (arith, low));
}

pub loop-at-preserved : goal.loop-at-preserved
loop-at-preserved c =
    let inv = c.loop-at.invariant in
    let xs = c.args.parts.now in
    let n = c.loop-at.«at» in
    let y = c.index-parts-at.result in
    let marks = c.loop-at.marks.items in
    let more = c.add_mark.new.marks.items in
    let mark = c.is_over.result in
    let pushed = c.in_ok-add_mark.ensures in
    let size : length (marks ++ mark ∷ []) ≡ length marks + 1 = length-append marks (mark ∷ []) in
    record {
      count = ap length pushed ∙ size ∙ ap (λ (k : ℕ). k + 1) inv.count;
      each = λ i x low here.
          subst (λ (ms : List Bool). slice_get ms i ≡ Some (is_over x)) (sym pushed)
          (elim (cases_eq i n) [
            | inl e ↦
                let at : slice_get xs n ≡ Some x = subst (λ (k : ℕ). slice_get xs k ≡ Some x) e here in
                let same : y ≡ x = one_value (slice_get xs n) y x
                (slice_get-get_or xs n y (slice_get_within xs n x at) ∙ ap Some (sym c.index-parts-at.is)) at in
                last_mark marks mark i (e ∙ sym inv.count) ∙ ap Some (c.is_over.ensures ∙ ap (λ (z : CpuState). is_over z) same)
            | inr ne ↦ front_get marks (mark ∷ []) i (is_over x) (inv.each i x (omega (arith, low, ne)) here)
          ]);
    }

pub returns : goal.returns
returns c =
    let inv = c.loop-at.invariant in
    let end = c.loop-at-test.false in
    let high = c.loop-at.auto.at-end in
    let count = inv.count in
    record {
      count = omega (arith, count, end, high);
      each = λ i x here.
          let low = slice_get_within c.args.parts.now i x here in
          inv.each i x (omega (arith, low, end)) here;
    }
