use Rattle.std.proofs.Common.{◌≡◌, ◌≤◌, ◌+◌, drop}
use Rattle.lk_guard.specs.Deeds.{reads_in}
use Rattle.lk_workers.proofs.counts.count_reads.Given as goal

abbrev pub invariant-loop-job : goal.invariant-loop-job
invariant-loop-job l = record {
  same : l.count + reads_in (drop l.job-index l.jobs) ≡ reads_in l.jobs;
  few : l.count ≤ l.job-index;
}
