use Rattle.std.proofs.Common.{sym, ap, ◌∙◌, subst}
use Rattle.lk_names.specs.Workload.{workload_of}
use Rattle.lk_domain.specs.declared.domain.Domain.{Domain}
use Rattle.lk_guard.specs.Idle.{crew_of}
use Rattle.lk_law.specs.Agree.{halts}
use Rattle.lk_workers.specs.Plans.{IsFor}
use Rattle.lk_workers.specs.Workers.{InOrder, IsDealt}
use Rattle.lk_workers.proofs.Starts.{dealt, suits}
use Rattle.lk_workers.proofs.host.RegionHost.make.Goals as goal

pub returns-clause-suits : goal.returns-clause-suits
returns-clause-suits c =
    let work = workload_of c.args.file.now in
    subst (λ (d : Domain). IsFor work d.plan) (sym c.new-2.ensures)
    (suits work c.in_ok-domain.domain.plan c.in_ok-plan_of.field-0 c.requires.mode c.requires.lawful c.in_ok-domain.ensures.plan c.in_ok-plan_of.ensures.plan)

pub returns-clause-dealt : goal.returns-clause-dealt
returns-clause-dealt c =
    let cpus = c.in_ok-domain.cpus.items in
    let awake = ap halts (c.in_ok-domain.ensures.plan.mode ∙ c.in_ok-plan_of.ensures.plan.mode) ∙ c.requires.mode in
    subst (λ (d : Domain). InOrder (IsDealt (crew_of d)) cpus) (sym c.new-2.ensures) (dealt c.in_ok-domain.domain cpus awake c.in_ok-domain.ensures.cpus)
