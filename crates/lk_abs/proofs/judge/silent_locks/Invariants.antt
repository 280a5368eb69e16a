use Rattle.std.proofs.Common.{◌≡◌, replicate}
use Rattle.lk_names.specs.History.{no_history}
use Rattle.lk_abs.proofs.judge.silent_locks.Given as goal

abbrev pub invariant-loop : goal.invariant-loop
invariant-loop l = record {
  room : l.list.room ≡ l.locks;
  items : l.list.items ≡ replicate l.counter (record { history = no_history; room = l.waiters });
}
