use Rattle.std.proofs.Common.{ℕ, List, sym, subst, arith, below_more}
use Rattle.lk_rows.specs.declared.setup.Op.{Op}
use Rattle.lk_rows.specs.Programs.{IsLawfulProgram}
use Rattle.lk_order.specs.Checked.{rank_in, Nests}
use Rattle.lk_order.proofs.Nesting.{declared_suffice}
use Rattle.lk_order.proofs.check.program_nests.Goals as goal

pub loop-lock-preserved : goal.loop-lock-preserved
loop-lock-preserved c = below_more (λ i. Nests (rank_in c.args.ranks.now) c.program-ops.result.now.items i) c.loop-lock.lock c.loop-lock.invariant (c.nests.ensures c.if-not-nests.false)

pub returns : goal.returns
returns c made =
    let rank = rank_in c.args.ranks.now in
    let kinds = c.args.setup.now.locks.items in
    let is = c.program-ops.ensures in
    let lawful = subst (λ (ops : List Op). IsLawfulProgram kinds ops) (sym is) (c.requires.lawful.lawful c.args.cpu c.args.number) in
    subst (λ (ops : List Op). (i : ℕ) → Nests rank ops i) is
    (declared_suffice rank kinds c.program-ops.result.now.items lawful (λ i below. c.loop-lock.invariant i (omega (arith, below, c.len-locks.ensures, c.loop-lock-test.false))))
