use Rattle.std.proofs.Common.{◌≡◌, ◌++◌, length, map}
use Rattle.lk_workers.specs.Workers.{all_records, cpu_of}
use Rattle.lk_workers.proofs.running.gather.Given as goal

abbrev pub invariant-loop-workers : goal.invariant-loop-workers
invariant-loop-workers l = record {
  cpus : l.cpus.items ++ map cpu_of l.workers.items ≡ map cpu_of l.fn.workers.items;
  room : l.cpus.room ≡ length l.fn.workers.items;
  reads : l.reads.items ++ all_records l.workers.items ≡ all_records l.fn.workers.items;
  space : l.reads.room ≡ length (all_records l.fn.workers.items);
}

abbrev pub decreases-loop-workers : goal.decreases-loop-workers
decreases-loop-workers l = length l.workers.items
