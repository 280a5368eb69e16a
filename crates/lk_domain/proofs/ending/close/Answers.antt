use Rattle.std.proofs.Common.{sym, arith}
use Rattle.lk_domain.proofs.Names.{view_of}
use Rattle.lk_domain.proofs.{Seating.table_of, journals.Heirs.{has_all, final}}
use Rattle.lk_domain.proofs.ending.close.Goals as goal

pub end-journal-requires-clause-table : goal.end-journal-requires-clause-table
end-journal-requires-clause-table c = table_of c.args.domain

pub end-journal-requires-clause-seat : goal.end-journal-requires-clause-seat
end-journal-requires-clause-seat c = c.join_all-last.ensures.seat

pub end-journal-requires-clause-all : goal.end-journal-requires-clause-all
end-journal-requires-clause-all c p lt =
    has_all view_of c.args.cpus.items c.join_all-last.result.me.0 p c.join_all-last.ensures.all
    (let a = c.requires.all in omega arith)

pub end-journal-requires-clause-home : goal.end-journal-requires-clause-home
end-journal-requires-clause-home c = c.join_all-last.ensures.home

pub end-journal-requires-clause-holds : goal.end-journal-requires-clause-holds
end-journal-requires-clause-holds c = c.join_all-last.ensures.holds

pub returns-clause-ends : goal.returns-clause-ends
returns-clause-ends c =
    final view_of c.args.domain.plan c.args.cpus.items c.join_all-last.result.me.0 c.end-journal.result.items c.join_all-last.ensures.all
    (sym c.requires.all) c.end-journal.ensures.end
