use Rattle.lk_run.proofs.RwCalling as on
use Rattle.lk_run.proofs.call.Writer.seize.Goals as goal

pub swap-requires : goal.swap-requires
swap-requires c = on.stepped (c.look.ensures.empty c.if-look.true) c.requires

pub returns-then-look-clause-passed : goal.returns-then-look-clause-passed
returns-then-look-clause-passed c is = on.step_gets (c.look.ensures.empty c.if-look.true) (c.swap.ensures.passed is)

pub returns-then-look-clause-others : goal.returns-then-look-clause-others
returns-then-look-clause-others c is = on.step_both (c.look.ensures.empty c.if-look.true) (c.swap.ensures.others is)

pub returns-clause-others : goal.returns-clause-others
returns-clause-others c is = c.look.ensures.others c.if-look.false
