use Rattle.std.proofs.Common.{sym, subst}
use Rattle.lk_names.specs.Workload.{workload_of}
use Rattle.lk_guard.specs.Idle.{pv_crew_of}
use Rattle.lk_pvdomain.specs.declared.domain.PvDomain.{PvDomain}
use Rattle.lk_workers.specs.Plans.{IsFor}
use Rattle.lk_workers.specs.Workers.{InOrder, IsDealt}
use Rattle.lk_workers.proofs.PvStarts.{dealt, suits}
use Rattle.lk_workers.proofs.host.PvRegionHost.make.Goals as goal

pub returns-clause-suits : goal.returns-clause-suits
returns-clause-suits c =
    let work = workload_of c.args.file.now in
    subst (λ (d : PvDomain). IsFor work d.domain.plan) (sym c.new-2.ensures)
    (suits work c.in_ok-pv_plan_of.field-0 c.in_ok-domain.domain.domain.plan c.requires.lawful c.requires.mode c.in_ok-pv_plan_of.ensures.plan c.in_ok-domain.ensures.plan)

pub returns-clause-dealt : goal.returns-clause-dealt
returns-clause-dealt c =
    let cpus = c.in_ok-domain.cpus.items in
    subst (λ (d : PvDomain). InOrder (IsDealt (pv_crew_of d)) cpus) (sym c.new-2.ensures) (dealt c.in_ok-domain.domain cpus c.in_ok-domain.ensures.cpus)
