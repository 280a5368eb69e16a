use Rattle.std.proofs.Common.{◌≡◌, length}
use Rattle.lk_lock.proofs.Names.{AreKeysOf, names_of}
use Rattle.lk_lock.proofs.shared.cells_with.Given as goal

abbrev pub invariant-loop : goal.invariant-loop
invariant-loop g l = record {
  cells_room : l.cells.room ≡ l.count;
  keys_room : l.keys.room ≡ l.count;
  cells : length l.cells.items ≡ l.counter;
  keys : length l.keys.items ≡ l.counter;
  fit : AreKeysOf (names_of l.cells.items) l.keys.items;
}
