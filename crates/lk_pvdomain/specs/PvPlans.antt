-- When a domain whose waiters halt may be made of a plan, and the plan that its table then has.
use Rattle.std.specs.Prelude.{◌≡◌, ◌<◌, ◌≤◌, ℕ, length, replicate}
use Rattle.std.specs.List.{sum}
use Rattle.lk_names.specs.Jobs.{full}
use Rattle.lk_names.specs.declared.names.Kind.TheVariants.{Spin}
use Rattle.lk_names.specs.declared.names.Mode.TheVariants.{Pv}
use Rattle.lk_domain.specs.Plans.{cpus_of, locks_of, kind_at}
use Rattle.lk_domain.specs.declared.plan.Plan.{Plan}
use Rattle.lk_domain.specs.declared.plan.TheConstants.{MOST_CPUS, MOST_LOCKS}
use Rattle.lk_pvdomain.specs.declared.plan.PvPlan.{PvPlan}

-- Some processors, each with a share, some locks, and no more of them than a domain may have, at most 64
-- balances below the limit, and from 1 to 65,535 turns before a waiter halts.
pub record IsLawful (p : PvPlan) : Type 0 where
  pub some : 0 < length p.shares.items
  pub cpus : length p.shares.items ≤ MOST_CPUS
  pub any : 0 < p.locks
  pub locks : p.locks ≤ MOST_LOCKS
  pub accounts : length p.balances.items ≤ 64
  pub small : sum p.balances.items < full
  pub turns : 0 < p.spins
  pub few : p.spins < 65536

-- the plan of its table: so many spinlocks, and a processor for each share
pub record IsPlanOf (p : PvPlan) (k : Plan) : Type 0 where
  pub format : k.format ≡ p.format
  pub mode : k.mode ≡ Pv
  pub spins : k.threshold ≡ p.spins
  pub cpus : cpus_of k ≡ length p.shares.items
  pub sockets : k.topology.sockets.items ≡ replicate (length p.shares.items) 0
  pub locks : locks_of k ≡ p.locks
  pub kinds : (l : ℕ) → kind_at k l ≡ Spin
  pub balances : k.balances.items ≡ p.balances.items
  pub shares : k.shares.items ≡ p.shares.items
