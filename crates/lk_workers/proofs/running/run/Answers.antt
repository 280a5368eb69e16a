use Rattle.std.proofs.Common.{ℕ, [], ap, sym, subst, ◌∙◌}
use Rattle.lk_names.specs.ListOf.{ListOf}
use Rattle.lk_names.specs.declared.ledger.Seen.{Seen}
use Rattle.lk_names.specs.Workload.{workload_of}
use Rattle.lk_guard.specs.Guards.{Guard}
use Rattle.lk_workers.specs.Ended.{IsEndOf}
use Rattle.lk_workers.proofs.Outcomes.{all_outcome, through_count}
use Rattle.lk_workers.proofs.Starts.{all_ready, all_rest}
use Rattle.lk_workers.proofs.running.run.Goals as goal

pub run_all-requires-clause-ready : goal.run_all-requires-clause-ready
run_all-requires-clause-ready g c κs outlives =
    let region = c.in_ok-region in
    let hired = c.in_ok-workers in
    all_ready (g.D.Guarded.crew region.region) (workload_of c.args.file.now) region.dealt.items hired.workers.items
    region.ensures.suits region.ensures.dealt hired.ensures.cpus hired.ensures.reads

pub gather-requires-clause-reads : goal.gather-requires-clause-reads
gather-requires-clause-reads g c =
    let count = c.record_count.ensures ∙ sym (through_count (g.D.Guarded.crew c.in_ok-region.region) (workload_of c.args.file.now)
    c.run_all.new.workers.items (c.run_all.ensures.each ∙ c.in_ok-workers.ensures.each) c.run_all.ensures.through) in
    c.in_ok-reads.ensures ∙ ap (λ (n : ℕ). let l : ListOf Seen = record { items = []; room = n } in l) count

pub end-requires-clause-mode : goal.end-requires-clause-mode
end-requires-clause-mode g c =
    subst g.D.Host.hosts (sym (ap (λ (h : Guard). h.terms.mode) c.in_ok-region.ensures.suits.guard)) c.requires.mode

pub end-requires-clause-rest : goal.end-requires-clause-rest
end-requires-clause-rest g c =
    all_rest (g.D.Guarded.crew c.in_ok-region.region) (workload_of c.args.file.now) c.gather.new.cpus.items c.run_all.new.workers.items
    c.gather.ensures.cpus c.run_all.ensures.through

pub returns-clause-outcome : goal.returns-clause-outcome
returns-clause-outcome g c =
    (all_outcome (g.D.Guarded.crew c.in_ok-region.region) (workload_of c.args.file.now) c.run_all.new.workers.items c.gather.new.cpus.items
    c.gather.new.reads.items c.in_ok-closed.closed c.in_ok-region.ensures.suits (c.run_all.ensures.each ∙ c.in_ok-workers.ensures.each)
    c.run_all.ensures.through c.gather.ensures.cpus c.gather.ensures.reads c.in_ok-closed.ensures).0

pub returns-clause-under_lock : goal.returns-clause-under_lock
returns-clause-under_lock g c =
    (all_outcome (g.D.Guarded.crew c.in_ok-region.region) (workload_of c.args.file.now) c.run_all.new.workers.items c.gather.new.cpus.items
    c.gather.new.reads.items c.in_ok-closed.closed c.in_ok-region.ensures.suits (c.run_all.ensures.each ∙ c.in_ok-workers.ensures.each)
    c.run_all.ensures.through c.gather.ensures.cpus c.gather.ensures.reads c.in_ok-closed.ensures).1

pub returns-clause-end : goal.returns-clause-end
returns-clause-end g c =
    subst (λ (h : Guard). IsEndOf h.terms.mode h.kind c.in_ok-closed.closed) c.in_ok-region.ensures.suits.guard c.in_ok-closed.ensures.of
