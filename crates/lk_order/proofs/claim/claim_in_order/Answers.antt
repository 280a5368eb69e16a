use Rattle.lk_order.proofs.Claimed.{never_deadlocks, finishes}
use Rattle.lk_order.proofs.claim.claim_in_order.Goals as goal

pub returns-clause-goes_on : goal.returns-clause-goes_on
returns-clause-goes_on c =
    never_deadlocks c.args.setup.now c.ordered_runs_go_on.ensures.moves c.ordered_runs_go_on.ensures.aside c.requires.lawful c.requires.ordered
    c.requires.room c.requires.awake

pub returns-clause-finishes : goal.returns-clause-finishes
returns-clause-finishes c =
    finishes c.args.setup.now c.fair_runs_finish.ensures.finish c.requires.lawful c.requires.ordered c.requires.room c.requires.awake
