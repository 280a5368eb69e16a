use Rattle.std.proofs.Common.{◌≡◌, length}
use Rattle.lk_domain.proofs.Names.{no_calls, no_ledger, cpus_of, dealer, view}
use Rattle.lk_domain.specs.Seats.{AreDealt}
use Rattle.lk_domain.proofs.domain.Domain.open.Given as goal

abbrev pub invariant-loop-number : goal.invariant-loop-number
invariant-loop-number l = record {
  table : l.seat.table_id ≡ l.domain.table.shared.table_id;
  seat : l.seat.me.0 ≡ view (dealer l.domain.plan l.number) no_calls no_ledger;
  room : l.cpus.room ≡ cpus_of l.domain.plan;
  many : length l.cpus.items ≡ l.number;
  dealt : AreDealt l.domain l.cpus.items;
}
