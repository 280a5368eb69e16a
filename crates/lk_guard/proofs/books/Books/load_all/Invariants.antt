use Rattle.lk_domain.specs.Plays.{OneState}
use Rattle.lk_domain.specs.Seated.{IsKept, IsSeatOf}
use Rattle.lk_guard.specs.Reads.{HasSummed}
use Rattle.lk_guard.proofs.books.Books.load_all.Given as goal

abbrev pub invariant-loop-account : goal.invariant-loop-account
invariant-loop-account l = record {
  seat : IsSeatOf l.self.plan.now l.self.table.now.shared.table_id l.seat;
  rest : IsKept l.fn.seat l.seat;
  summed : HasSummed l.account l.sum l.fn.seat.me.0.ledger l.seat.me.0.ledger;
  one : OneState l.seat.me.0;
}
