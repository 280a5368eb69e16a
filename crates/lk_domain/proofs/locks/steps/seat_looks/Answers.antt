use Rattle.lk_domain.proofs.{Seating.table_of, words.Goings.at_look}
use Rattle.lk_domain.proofs.locks.steps.seat_looks.Goals as goal

pub look_once-requires-clause-table : goal.look_once-requires-clause-table
look_once-requires-clause-table c = table_of c.args.domain.now

pub go_on-requires-clause-table : goal.go_on-requires-clause-table
go_on-requires-clause-table c = table_of c.args.domain.now

pub go_on-requires-clause-row : goal.go_on-requires-clause-row
go_on-requires-clause-row c = (c.args.verb, at_look c.args.seat.now.me.0 c.args.verb c.args.lock c.in_default.not-Try c.requires.row)

pub returns-in_default-clause-step : goal.returns-in_default-clause-step
returns-in_default-clause-step c =
    c.go_on.ensures.made c.args.verb (at_look c.args.seat.now.me.0 c.args.verb c.args.lock c.in_default.not-Try c.requires.row)
