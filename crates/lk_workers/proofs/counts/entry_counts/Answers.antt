use Rattle.std.proofs.Common.{◌<◌, ◌≤◌, length, map, get_or, [], ap, sym, ◌∙◌, arith}
use Rattle.std.proofs.lemmas.List.{get_or-map, take_all}
use Rattle.std.proofs.lemmas.Simd.{map-map}
use Rattle.lk_guard.specs.Deeds.{writes_in}
use Rattle.lk_workers.proofs.JobCounts.{each_few}
use Rattle.lk_workers.proofs.counts.entry_counts.Goals as goal

pub count_writes-requires : goal.count_writes-requires
count_writes-requires c =
    let all = c.args.file.now.jobs.items in
    let n = c.loop-jobs.jobs-index in
    let jobs = c.jobs-item.result in
    let whole = c.as_slice-jobs-items.ensures in
    let within : n < length all = omega (arith, c.loop-jobs-test.true, ap length whole) in
    let shown = get_or-map (λ js. js.items) all n jobs [] within ∙ ap (λ js. js.items) (sym (c.jobs-item.is ∙ ap (λ l. get_or l n jobs) whole)) in
    omega (arith, ap length shown, ap length c.as_slice.ensures, each_few (map (λ js. js.items) all) n, c.requires.jobs)

pub returns : goal.returns
returns c =
    let all = c.args.file.now.jobs.items in
    let past : length all ≤ c.loop-jobs.jobs-index = omega (arith, c.loop-jobs-test.false, ap length c.as_slice-jobs-items.ensures) in
    c.loop-jobs.invariant.items ∙ (ap (map _) (take_all c.loop-jobs.jobs-index all past) ∙ sym (map-map writes_in (λ js. js.items) all))
