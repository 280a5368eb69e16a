use Rattle.std.proofs.Common.{◌≡◌, ◌++◌, ◌∷◌, ◌+◌, length, drop}
use Rattle.lk_abs.proofs.queues.rejoin.Given as goal

abbrev pub invariant-loop : goal.invariant-loop
invariant-loop l = record {
  together : l.lists.second.items ++ l.lists.main.items ≡ l.fn.lists.second.items ++ drop 1 l.fn.lists.main.items;
  left : length l.lists.second.items + l.counter ≡ length l.fn.lists.second.items;
  front : l.fn.lists.main.items ≡ l.front ∷ drop 1 l.fn.lists.main.items;
  main_room : l.lists.main.room ≡ l.fn.lists.main.room;
  second_room : l.lists.second.room ≡ l.fn.lists.second.room;
  passes : l.lists.passes ≡ l.fn.lists.passes;
}
