use Rattle.std.proofs.Common.{arith, ◌∙◌, ◌+◌, ◌∷◌, [], ap, get_or, length, length-append}
use Rattle.lk_reach.proofs.Listed.{one_zero}
use Rattle.lk_reach.proofs.numbers.padded.pad.Goals as goal

pub loop-made-preserved : goal.loop-made-preserved
loop-made-preserved g c =
    let inv = c.loop-made.invariant in
    let pushed = c.in_ok-push_item.ensures in
    record {
      same = λ i. ap (λ xs. get_or xs i c.args.zero) pushed ∙ one_zero c.loop-made.items.items c.args.zero i ∙ inv.same i;
      long = ap length pushed ∙ length-append c.loop-made.items.items (c.args.zero ∷ []) ∙ ap (λ n. n + 1) inv.long;
    }

pub returns : goal.returns
returns g c = record {
  same = c.loop-made.invariant.same;
  long = λ low.
      let long = c.loop-made.invariant.long in
      let count = c.len-made.ensures in
      let high = c.loop-made-test.false in
      let end = c.loop-made.auto._made-end (omega (arith, low, count)) in
      omega (arith, long, high, end);
}
