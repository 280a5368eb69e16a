use Rattle.std.proofs.Common.{◌≡◌, ◌≤◌, ◌<◌, ◌++◌, [], length, map, take, ap, sym, ◌∙◌, arith}
use Rattle.std.proofs.lemmas.List.{append-nil, length-append, length-map, length-take-le, nil_from_length, take_all}
use Rattle.std.proofs.lemmas.Simd.{map-map}
use Rattle.lk_workers.specs.Workers.{cpu_of, no_records, reads_of}
use Rattle.lk_workers.proofs.making.hire.Goals as goal

pub pop_front-cpu-requires : goal.pop_front-cpu-requires
pop_front-cpu-requires c =
    let l = c.loop-jobs in
    let all = c.args.file.now.jobs.items in
    let hired = l.workers.items in
    let lt : l.jobs-index < length all = omega (arith, c.loop-jobs-test.true, ap length c.as_slice-jobs-items.ensures) in
    omega (
      arith,
      lt,
      c.requires,
      ap length l.invariant.cpus,
      length-append (map cpu_of hired) l.cpus.items,
      length-map hired cpu_of,
      ap length l.invariant.reads,
      length-map hired reads_of,
      length-map (take l.jobs-index all) (λ js. no_records js.items),
      length-take-le l.jobs-index all (omega (arith, lt)),
      length-map all (λ js. js.items),
    )

pub returns-clause-cpus : goal.returns-clause-cpus
returns-clause-cpus c =
    let l = c.loop-jobs in
    let all = c.args.file.now.jobs.items in
    let hired = l.workers.items in
    let past : length all ≤ l.jobs-index = omega (arith, c.loop-jobs-test.false, ap length c.as_slice-jobs-items.ensures) in
    let none : l.cpus.items ≡ [] = nil_from_length l.cpus.items (omega (
      arith,
      c.requires,
      ap length l.invariant.cpus,
      length-append (map cpu_of hired) l.cpus.items,
      length-map hired cpu_of,
      ap length l.invariant.reads,
      length-map hired reads_of,
      length-map (take l.jobs-index all) (λ js. no_records js.items),
      ap length (take_all l.jobs-index all past),
      length-map all (λ js. js.items),
    )) in
    sym (append-nil (map cpu_of hired)) ∙ (ap (λ rest. map cpu_of hired ++ rest) (sym none) ∙ l.invariant.cpus)

pub returns-clause-reads : goal.returns-clause-reads
returns-clause-reads c =
    let all = c.args.file.now.jobs.items in
    let past : length all ≤ c.loop-jobs.jobs-index = omega (arith, c.loop-jobs-test.false, ap length c.as_slice-jobs-items.ensures) in
    c.loop-jobs.invariant.reads ∙ (ap (map _) (take_all c.loop-jobs.jobs-index all past) ∙ sym (map-map no_records (λ js. js.items) all))
