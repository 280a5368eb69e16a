use Rattle.std.proofs.Common.{◌≡◌, ◌%◌}
use Rattle.lk_pvdomain.proofs.freeing.try_release.Given as goal

-- the exchanges that failed changed nothing
abbrev pub invariant-loop : goal.invariant-loop
invariant-loop l = record {
  same : (l.seat.table_id ≡ l.fn.seat.table_id) × (l.seat.id ≡ l.fn.seat.id);
  me : l.seat.me ≡ l.fn.seat.me;
  expected : l.expected % 256 ≡ 1;
}
