use Rattle.std.proofs.Common.{◌≡◌, map, take, length}
use Rattle.lk_job_forms.proofs.draft.Draft.job_lists.Given as goal

abbrev pub invariant-loop-jobs : goal.invariant-loop-jobs
invariant-loop-jobs l = record {
  items : map (λ js. js.items) l.lists.items ≡ map (λ js. js.items) (take l.jobs-index l.self.jobs.items);
  room : l.lists.room ≡ length l.self.jobs.items;
}
