use Rattle.std.proofs.Common.{List, subst, arith, below_more}
use Rattle.lk_rows.specs.declared.setup.Op.{Op}
use Rattle.lk_rows.specs.Programs.{program_at}
use Rattle.lk_order.specs.Checked.{rank_in, AllAbove}
use Rattle.lk_order.proofs.check.program_above.Goals as goal

pub loop-below-preserved : goal.loop-below-preserved
loop-below-preserved c =
    let rank = rank_in c.args.ranks.now in
    let handler = c.program-handler.result.now.items in
    below_more (λ g. AllAbove rank handler (program_at c.args.setup.now c.args.cpu g)) c.loop-below.below c.loop-below.invariant
    (subst (λ (ops : List Op). AllAbove rank handler ops) c.program-ops.ensures (c.are_above.ensures c.if-not-are_above.false))

pub returns : goal.returns
returns c made g less =
    subst (λ (ops : List Op). AllAbove (rank_in c.args.ranks.now) ops (program_at c.args.setup.now c.args.cpu g)) c.program-handler.ensures
    (c.loop-below.invariant g (omega (arith, less, c.loop-below-test.false)))
