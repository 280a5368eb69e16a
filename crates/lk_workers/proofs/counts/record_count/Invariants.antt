use Rattle.std.proofs.Common.{◌≡◌, ◌+◌, drop, map}
use Rattle.std.specs.List.{sum_by}
use Rattle.lk_guard.specs.Deeds.{reads_in}
use Rattle.lk_workers.proofs.counts.record_count.Given as goal

abbrev pub invariant-loop-jobs : goal.invariant-loop-jobs
invariant-loop-jobs l =
    l.count + sum_by reads_in (map (λ js. js.items) (drop l.jobs-index l.file.jobs.items))
    ≡ sum_by reads_in (map (λ js. js.items) l.file.jobs.items)
