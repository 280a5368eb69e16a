use Rattle.std.proofs.Common.{◌≡◌, ◌++◌, suc, take, drop, replicate}
use Rattle.lk_abs.proofs.queues.hand_on.Given as goal

abbrev pub invariant-loop : goal.invariant-loop
invariant-loop l = record {
  main : l.lists.main.items ≡ drop (suc l.counter) l.fn.lists.main.items;
  second : l.lists.second.items ≡ l.fn.lists.second.items ++ take l.counter (drop 1 l.fn.lists.main.items);
  passes : l.lists.passes.items ≡ l.fn.lists.passes.items ++ replicate l.counter 0;
  main_room : l.lists.main.room ≡ l.fn.lists.main.room;
  second_room : l.lists.second.room ≡ l.fn.lists.second.room;
  passes_room : l.lists.passes.room ≡ l.fn.lists.passes.room;
}
