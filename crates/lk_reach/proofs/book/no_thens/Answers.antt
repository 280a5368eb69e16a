use Rattle.std.proofs.Common.{arith, ◌≡◌, [], ℕ, List, Some, ap, subst, length, slice_get}
use Rattle.lk_reach.proofs.Columns.{empty_more}
use Rattle.lk_reach.proofs.book.no_thens.Goals as goal

pub loop-made-init : goal.loop-made-init
loop-made-init c = record {
  width = ap length c.in_ok-thens.ensures.items;
  each = λ i column here. absurd (none i column (subst (λ (cs : List (List ℕ)). slice_get cs i ≡ Some column)
      c.in_ok-thens.ensures.items here));
}
  where
    none : (i : ℕ) (column : List ℕ) → slice_get [] i ≡ Some column → ⊥
    none i column here = cc

pub loop-made-preserved : goal.loop-made-preserved
loop-made-preserved c =
    empty_more c.loop-made.thens.items c.add_column.new.thens.items c.new.result c.loop-made._made
    c.new.ensures c.in_ok-add_column.ensures c.loop-made.invariant

pub returns : goal.returns
returns c =
    let inv = c.loop-made.invariant in
    let end = c.loop-made-test.false in
    let high = c.loop-made.auto._made-end in
    record { width = (let width = inv.width in omega (arith, width, end, high)); each = inv.each }
