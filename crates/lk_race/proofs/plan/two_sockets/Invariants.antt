use Rattle.std.proofs.Common.{◌≡◌, length}
use Rattle.lk_race.proofs.plan.two_sockets.Given as goal

abbrev pub invariant-loop-cpu : goal.invariant-loop-cpu
invariant-loop-cpu l = record {
  count : length l.sockets.items ≡ l.cpu;
  room : l.sockets.room ≡ l.threads;
}
