use Rattle.std.proofs.Common.{◌<◌, ◌+◌, length, map, drop, get_or, ap, ◌∙◌, arith, rules}
use Rattle.std.specs.List.{sum_by}
use Rattle.std.proofs.lemmas.List.{at_drop_more}
use Rattle.lk_guard.specs.Deeds.{reads_in}
use Rattle.lk_workers.proofs.JobCounts.{more_reads, reads_few}
use Rattle.lk_workers.proofs.counts.record_count.Goals as goal

pub overflow_add-count : goal.overflow_add-count
overflow_add-count c =
    let all = c.args.file.now.jobs.items in
    let n = c.loop-jobs.jobs-index in
    let jobs = c.jobs-item.result in
    let whole = c.as_slice-jobs-items.ensures in
    let within : n < length all = omega (arith, c.loop-jobs-test.true, ap length whole) in
    let item = c.jobs-item.is ∙ ap (λ l. get_or l n jobs) whole in
    let here = c.count_reads-count.ensures ∙ ap reads_in (c.as_slice.ensures ∙ ap (λ js. js.items) item) in
    let next = at_drop_more (λ ys. sum_by reads_in (map (λ js. js.items) ys)) all n jobs within ∙ more_reads (get_or all n jobs).items (map (λ js. js.items) (drop (n + 1) all)) in
    let fits : c.loop-jobs.count + c.count_reads-count.result < 18446744073709551616 = omega (arith, here, next, c.loop-jobs.invariant, reads_few (map (λ js. js.items) all), c.requires.jobs) in
    search rules
