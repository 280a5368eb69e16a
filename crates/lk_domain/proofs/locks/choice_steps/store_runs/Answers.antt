use Rattle.lk_domain.proofs.locks.choice_steps.store_runs.Goals as goal

pub set_runs-requires-clause-row : goal.set_runs-requires-clause-row
set_runs-requires-clause-row c = (c.args.verb, c.requires.row)
