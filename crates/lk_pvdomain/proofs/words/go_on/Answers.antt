use Rattle.lk_pvdomain.proofs.Names.{table_of}
use Rattle.lk_pvdomain.proofs.words.go_on.Goals as goal

pub go_on-requires-clause-table : goal.go_on-requires-clause-table
go_on-requires-clause-table c = table_of c.args.domain.now
