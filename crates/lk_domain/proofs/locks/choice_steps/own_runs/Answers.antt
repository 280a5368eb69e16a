use Rattle.lk_domain.proofs.locks.choice_steps.own_runs.Goals as goal

pub look_runs-requires-clause-row : goal.look_runs-requires-clause-row
look_runs-requires-clause-row c = (c.args.verb, c.requires.row)
