use Rattle.lk_domain.proofs.{Seating.table_of, words.Goings.at_take}
use Rattle.lk_domain.proofs.locks.steps.seat_takes.Goals as goal

pub take_free-requires-clause-table : goal.take_free-requires-clause-table
take_free-requires-clause-table c = table_of c.args.domain.now

pub take_once-requires-clause-table : goal.take_once-requires-clause-table
take_once-requires-clause-table c = table_of c.args.domain.now

pub go_on-requires-clause-table : goal.go_on-requires-clause-table
go_on-requires-clause-table c = table_of c.args.domain.now

pub go_on-requires-clause-row : goal.go_on-requires-clause-row
go_on-requires-clause-row c =
    (c.args.verb, at_take c.args.seat.now.me.0 c.args.verb c.args.lock c.in_default.not-Lock c.in_default.not-Try c.requires.row)

pub returns-in_default-clause-step : goal.returns-in_default-clause-step
returns-in_default-clause-step c =
    c.go_on.ensures.made c.args.verb
    (at_take c.args.seat.now.me.0 c.args.verb c.args.lock c.in_default.not-Lock c.in_default.not-Try c.requires.row)
