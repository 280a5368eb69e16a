use Rattle.std.proofs.Common.{◌≡◌, replicate}
use Rattle.lk_names.proofs.list.List.filled.Given as goal

abbrev pub invariant-loop : goal.invariant-loop
invariant-loop g l = record {
  room : l.list.room ≡ l.count;
  items : l.list.items ≡ replicate l.counter l.item;
}
