use Rattle.std.proofs.Common.{arith, below_more}
use Rattle.lk_order.specs.Checked.{rank_in, IsInOrder}
use Rattle.lk_order.proofs.check.processor_is_ordered.Goals as goal

pub loop-number-preserved : goal.loop-number-preserved
loop-number-preserved c =
    below_more (λ h. IsInOrder (rank_in c.args.ranks.now) c.args.setup.now c.args.cpu h) c.loop-number.number c.loop-number.invariant
    (record { nests = c.program_nests.ensures c.if-not-program_nests.false; above = c.program_above.ensures c.if-not-program_above.false })

pub returns : goal.returns
returns c made h few = c.loop-number.invariant h (omega (arith, few, c.programs_of-programs.ensures, c.loop-number-test.false))
