use Rattle.lk_order.proofs.Claimed.{finishes_calm, never_deadlocks_halting}
use Rattle.lk_order.proofs.claim.claim_halting.Goals as goal

pub returns-clause-goes_on : goal.returns-clause-goes_on
returns-clause-goes_on c =
    never_deadlocks_halting c.args.setup.now c.ordered_runs_go_on.ensures.leads c.requires.lawful c.requires.ordered c.requires.halts

pub returns-clause-finishes : goal.returns-clause-finishes
returns-clause-finishes c =
    finishes_calm c.args.setup.now c.fair_runs_finish.ensures.halting c.requires.lawful c.requires.ordered c.requires.halts
