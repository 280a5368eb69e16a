use Rattle.std.proofs.Common.{◌≡◌, ℕ, true}
use Rattle.lk_rows.specs.declared.setup.Op.{Op}
use Rattle.lk_progress.specs.Ordered.{waits_for}
use Rattle.lk_order.specs.Checked.{rank_in, RanksAbove}
use Rattle.lk_order.proofs.Nesting.{one_more, above_one}
use Rattle.lk_order.proofs.check.is_above.Goals as goal

pub loop-at-preserved : goal.loop-at-preserved
loop-at-preserved c =
    let rank = rank_in c.args.ranks.now in
    let ops = c.args.ops.now.items in
    one_more (λ (_ : ℕ) (q : Op). waits_for c.args.op.verb ≡ true → RanksAbove rank c.args.op ops q) ops c.loop-at.«at» c.get-other.result.now
    c.get-other.ensures c.loop-at.invariant
    (λ waits. above_one rank c.args.op ops c.get-other.result.now c.is_exempt-exempt.result c.is_exempt-exempt.ensures (c.is_above_one.ensures c.if-not-is_above_one.false waits))
