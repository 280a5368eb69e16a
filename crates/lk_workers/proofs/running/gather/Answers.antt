use Rattle.std.proofs.Common.{◌≡◌, [], ◌++◌, map, ap, sym, ◌∙◌, rules}
use Rattle.std.proofs.lemmas.List.{append-nil, nil_from_length}
use Rattle.lk_workers.specs.Workers.{all_records, cpu_of}
use Rattle.lk_workers.proofs.running.gather.Goals as goal

pub returns-clause-cpus : goal.returns-clause-cpus
returns-clause-cpus c =
    let none : c.loop-workers.workers.items ≡ [] = nil_from_length c.loop-workers.workers.items (search rules) in
    sym (append-nil c.loop-workers.cpus.items) ∙ (ap (λ ws. c.loop-workers.cpus.items ++ map cpu_of ws) (sym none) ∙ c.loop-workers.invariant.cpus)

pub returns-clause-reads : goal.returns-clause-reads
returns-clause-reads c =
    let none : c.loop-workers.workers.items ≡ [] = nil_from_length c.loop-workers.workers.items (search rules) in
    sym (append-nil c.loop-workers.reads.items) ∙ (ap (λ ws. c.loop-workers.reads.items ++ all_records ws) (sym none) ∙ c.loop-workers.invariant.reads)
