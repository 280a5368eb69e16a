use Rattle.std.proofs.Common.{◌≡◌}
use Rattle.lk_pvdomain.proofs.hash.put_in.Given as goal

abbrev pub invariant-loop-place : goal.invariant-loop-place
invariant-loop-place l = record {
  same : (l.seat.table_id ≡ l.fn.seat.table_id) × (l.seat.id ≡ l.fn.seat.id);
  me : l.seat.me ≡ l.fn.seat.me;
}
