-- The plan of the domain that a job file asks for.
use Rattle.std.specs.Prelude.{◌≡◌, [], ◌∷◌, map}
use Rattle.lk_names.specs.Workload.{IsLawful, Workload, workers_of}
use Rattle.lk_domain.specs.Plans.{cpus_of}
use Rattle.lk_domain.specs.declared.plan.Plan.{Plan}
use Rattle.lk_guard.specs.Deeds.{writes_in}
use Rattle.lk_guard.specs.Guards.{guard_in}
use Rattle.lk_pvdomain.specs.declared.plan.PvPlan.{PvPlan}
use Rattle.lk_workers.specs.UnderLock.{guard_for}

-- The plan has the lock and the accounts of the workload, and a processor for each worker, which may
-- write as many entries as the worker has jobs that write.
pub record IsPlanOf (work : Workload) (plan : Plan) : Type 0 where
  pub format : plan.format ≡ work.format
  pub mode : plan.mode ≡ work.mode
  pub locks : plan.locks.items ≡ work.guard ∷ []
  pub sockets : plan.topology.sockets.items ≡ work.sockets
  pub threshold : plan.threshold ≡ work.threshold
  pub balances : plan.balances.items ≡ work.balances
  pub shares : plan.shares.items ≡ map writes_in work.jobs

-- of what a domain whose processors halt is made for it: a waiter spins for 32,768 turns
pub record IsPvPlanOf (work : Workload) (plan : PvPlan) : Type 0 where
  pub format : plan.format ≡ work.format
  pub spins : plan.spins ≡ 32768
  pub locks : plan.locks ≡ 1
  pub balances : plan.balances.items ≡ work.balances
  pub shares : plan.shares.items ≡ map writes_in work.jobs

-- A domain with this plan is made for the workload, which is lawful: its ledger is guarded as that of
-- the workload, whose workers have a processor each.
pub record IsFor (work : Workload) (plan : Plan) : Type 0 where
  pub lawful : IsLawful work
  pub guard : guard_in plan ≡ guard_for work
  pub cpus : cpus_of plan ≡ workers_of work
  pub shares : plan.shares.items ≡ map writes_in work.jobs
