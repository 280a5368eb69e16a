use Rattle.std.proofs.Common.{◌≡◌, length, map, take}
use Rattle.lk_guard.specs.Deeds.{writes_in}
use Rattle.lk_workers.proofs.counts.entry_counts.Given as goal

abbrev pub invariant-loop-jobs : goal.invariant-loop-jobs
invariant-loop-jobs l = record {
  items : l.counts.items ≡ map (λ js. writes_in js.items) (take l.jobs-index l.file.jobs.items);
  room : l.counts.room ≡ length l.file.jobs.items;
}
