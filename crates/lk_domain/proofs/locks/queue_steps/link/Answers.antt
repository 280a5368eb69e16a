use Rattle.lk_domain.proofs.Seating.{table_of}
use Rattle.lk_domain.proofs.locks.queue_steps.link.Goals as goal

pub link-requires-clause-table : goal.link-requires-clause-table
link-requires-clause-table c = table_of c.args.domain.now

pub link-requires-clause-row : goal.link-requires-clause-row
link-requires-clause-row c = (c.args.verb, c.requires.row)
