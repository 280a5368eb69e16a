use Rattle.lk_domain.proofs.locks.choice_steps.cut.Goals as goal

pub cut-requires-clause-row : goal.cut-requires-clause-row
cut-requires-clause-row c = (c.args.verb, c.requires.row)
