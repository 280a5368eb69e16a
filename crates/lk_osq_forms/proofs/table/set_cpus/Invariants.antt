use Rattle.std.proofs.Common.{◌≡◌, replicate}
use Rattle.lk_osq_forms.proofs.table.set_cpus.Given as goal

abbrev pub invariant-loop-cpu : goal.invariant-loop-cpu
invariant-loop-cpu l = record {
  items : l.rounds.items ≡ replicate l._cpu 0;
  room : l.rounds.room ≡ 64;
}
