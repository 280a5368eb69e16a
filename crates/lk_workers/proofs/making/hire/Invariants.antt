use Rattle.std.proofs.Common.{◌≡◌, ◌++◌, length, map, take}
use Rattle.lk_workers.specs.Workers.{cpu_of, no_records, reads_of}
use Rattle.lk_workers.proofs.making.hire.Given as goal

abbrev pub invariant-loop-jobs : goal.invariant-loop-jobs
invariant-loop-jobs l = record {
  cpus : map cpu_of l.workers.items ++ l.cpus.items ≡ l.fn.cpus.items;
  reads : map reads_of l.workers.items
      ≡ map (λ js. no_records js.items) (take l.jobs-index l.file.jobs.items);
  room : l.workers.room ≡ length l.fn.cpus.items;
}
