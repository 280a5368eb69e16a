use Rattle.lk_domain.proofs.Seating.{table_of}
use Rattle.lk_domain.proofs.locks.queue_steps.reset_other.Goals as goal

pub reset-requires-clause-table : goal.reset-requires-clause-table
reset-requires-clause-table c = table_of c.args.domain.now

pub reset-requires-clause-row : goal.reset-requires-clause-row
reset-requires-clause-row c = (c.args.verb, c.requires.row)
