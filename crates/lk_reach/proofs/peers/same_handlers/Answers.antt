use Rattle.std.proofs.Common.{◌≡◌, ◌∙◌, ℕ, Some, ap, arith, inl, inr, subst, sym, slice_get}
use Rattle.lk_reach.proofs.Names.{cases_eq, slice_get_within, ListOf, Op}
use Rattle.lk_reach.proofs.Kept.{one_value}
use Rattle.lk_reach.proofs.peers.same_handlers.Goals as goal

pub loop-at-preserved : goal.loop-at-preserved
loop-at-preserved c =
    let a = c.args.a.now.items in
    let b = c.args.b.now.items in
    let at = c.loop-at.at in
    let here = c.same_program.ensures c.if-not-same_program.false in
    λ i x y low one other.
    elim (cases_eq i at) [
      | inl e ↦
          let first = one_value (slice_get a at) x c.get.result.now
          (subst (λ (k : ℕ). slice_get a k ≡ Some x) e one) c.get.ensures in
          let second = one_value (slice_get b at) y c.get-in-loop-at.result.now
          (subst (λ (k : ℕ). slice_get b k ≡ Some y) e other) c.get-in-loop-at.ensures in
          ap (λ (z : ListOf Op). z.items) first ∙ here ∙ sym (ap (λ (z : ListOf Op). z.items) second)
      | inr ne ↦ c.loop-at.invariant i x y (omega (arith, low, ne)) one other
    ]

pub returns : goal.returns
returns c =
    let a = c.args.a.now.items in
    let one = c.len.ensures in
    let other = c.len-2.ensures in
    let same = c.if-len.false in
    let last = c.len-at-end.ensures in
    let end = c.loop-at-test.false in
    λ yes. record {
      count = omega (arith, one, other, same);
      each = λ i x y first second.
          let low = slice_get_within a i x first in
          c.loop-at.invariant i x y (omega (arith, low, end, last)) first second;
    }
