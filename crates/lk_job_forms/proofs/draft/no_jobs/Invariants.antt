use Rattle.std.proofs.Common.{◌≡◌, [], length, map, replicate}
use Rattle.lk_job_forms.proofs.draft.no_jobs.Given as goal

abbrev pub invariant-loop-worker : goal.invariant-loop-worker
invariant-loop-worker l = record {
  items : map (λ js. js.items) l.jobs.items ≡ replicate l._worker [];
  room : l.jobs.room ≡ l.workers;
  size : length l.jobs.items ≡ l._worker;
}
