use Rattle.lk_domain.proofs.locks.choice_steps.append.Goals as goal

pub append-requires-clause-row : goal.append-requires-clause-row
append-requires-clause-row c = (c.args.verb, c.requires.row)
