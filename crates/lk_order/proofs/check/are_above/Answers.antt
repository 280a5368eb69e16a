use Rattle.std.proofs.Common.{ℕ}
use Rattle.lk_rows.specs.declared.setup.Op.{Op}
use Rattle.lk_order.specs.Checked.{rank_in, IsAbove}
use Rattle.lk_order.proofs.Nesting.{one_more}
use Rattle.lk_order.proofs.check.are_above.Goals as goal

pub loop-at-preserved : goal.loop-at-preserved
loop-at-preserved c =
    let ops = c.args.ops.now.items in
    one_more (λ (_ : ℕ) (o : Op). IsAbove (rank_in c.args.ranks.now) o ops) c.args.handler.now.items c.loop-at.«at» c.get-op.result.now
    c.get-op.ensures c.loop-at.invariant (c.is_above.ensures c.if-not-is_above.false)
