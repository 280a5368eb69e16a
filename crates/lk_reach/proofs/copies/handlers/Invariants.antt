use Rattle.std.proofs.Common.{◌≡◌, length, map, take}
use Rattle.lk_reach.proofs.Names.{tight_lists}
use Rattle.lk_reach.proofs.copies.handlers.Given as goal

-- so many were copied
abbrev pub invariant-loop-at : goal.invariant-loop-at
invariant-loop-at l = record {
  items : l.copy.items ≡ map tight_lists (take l.at l.list.items);
  room : l.copy.room ≡ length l.list.items;
}
