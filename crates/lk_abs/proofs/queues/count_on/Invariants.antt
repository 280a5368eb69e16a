use Rattle.std.proofs.Common.{◌≡◌, ◌++◌, map, suc, take, drop}
use Rattle.lk_abs.proofs.queues.count_on.Given as goal

abbrev pub invariant-loop-at : goal.invariant-loop-at
invariant-loop-at l = record {
  items : l.passes.items ≡ map (λ n. suc n) (take l.at l.fn.passes.items) ++ drop l.at l.fn.passes.items;
  room : l.passes.room ≡ l.fn.passes.room;
}
