use Rattle.std.proofs.Common.{◌≡◌, take}
use Rattle.std.specs.List.{sum}
use Rattle.lk_domain.specs.Seated.{IsKept, IsSeatOf}
use Rattle.lk_guard.specs.Settling.{words_of}
use Rattle.lk_guard.proofs.books.Books.sum_of.Given as goal

abbrev pub invariant-loop-account : goal.invariant-loop-account
invariant-loop-account l = record {
  seat : IsSeatOf l.self.plan.now l.self.table.now.shared.table_id l.seat;
  rest : IsKept l.fn.seat l.seat;
  ledger : l.seat.me.0.ledger ≡ l.fn.seat.me.0.ledger;
  sum : l.sum ≡ sum (take l.account (words_of l.fn.seat.me.0.ledger));
}
