use Rattle.std.proofs.Common.{◌≡◌, ◌≤◌, ◌+◌, drop}
use Rattle.lk_guard.specs.Deeds.{writes_in}
use Rattle.lk_workers.proofs.counts.count_writes.Given as goal

abbrev pub invariant-loop-job : goal.invariant-loop-job
invariant-loop-job l = record {
  same : l.count + writes_in (drop l.job-index l.jobs) ≡ writes_in l.jobs;
  few : l.count ≤ l.job-index;
}
