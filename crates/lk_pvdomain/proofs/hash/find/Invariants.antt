use Rattle.std.proofs.Common.{◌≡◌, ◌<◌, Option}
use Rattle.lk_pvdomain.proofs.Names.{NodeName, places_of}
use Rattle.lk_pvdomain.specs.PvPlays.{looked_at}
use Rattle.lk_pvdomain.proofs.hash.find.Given as goal

abbrev pub invariant-loop-place : goal.invariant-loop-place
invariant-loop-place l = record {
  same : (l.seat.table_id ≡ l.fn.seat.table_id) × (l.seat.id ≡ l.fn.seat.id);
  looks : (o : Option NodeName) × (l.seat.me ≡ (looked_at l.place o l.fn.seat.me.0, l.fn.seat.me.1));
  inside : l.place < places_of l.domain.plan;
}
