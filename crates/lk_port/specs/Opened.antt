-- What new ports are of.
use Rattle.std.specs.Prelude.{◌≡◌, ℕ, ◌+◌, ◌<◌, All, List, length, slice_index_or, true}
use Rattle.lk_law.specs.Agree.{halts}
use Rattle.lk_names.specs.declared.names.Format.TheVariants.{One}
use Rattle.lk_names.specs.declared.names.Kind.{Kind}
use Rattle.lk_names.specs.declared.names.Kind.TheVariants.{Spin}
use Rattle.lk_names.specs.declared.names.Mode.{Mode}
use Rattle.lk_names.specs.declared.names.Mode.TheVariants as mode
use Rattle.lk_domain.specs.Plans.{accounts_of}
use Rattle.lk_domain.specs.declared.domain.Domain.{Domain}
use Rattle.lk_domain.specs.declared.plan.Plan.{Plan}
use Rattle.lk_port.specs.Asking.{cpu_in, domain_in}
use Rattle.lk_port.specs.declared.opening.Family.{Family}
use Rattle.lk_port.specs.declared.opening.Family.TheVariants as family
use Rattle.lk_port.specs.declared.port.Port.{Port}

-- the family of a domain
abbrev pub mode_of : Family → Mode
mode_of family.Virt = mode.Virt
mode_of family.Native = mode.Native
mode_of family.Cna = mode.Cna
mode_of family.Pv = mode.Pv

-- all of them are spinlocks
abbrev pub AreSpins : List Kind → Type 0
AreSpins kinds = All (λ (kind : Kind). kind ≡ Spin) kinds

-- where waiters halt, they spin for a turn at least, and there are spinlocks alone
abbrev pub Suits : Mode → List Kind → ℕ → Type 0
Suits family kinds bound = halts family ≡ true → (0 < bound) × AreSpins kinds

-- The plan is what was asked for: of this family and in format one, with locks of these kinds and no
-- others, each processor on the socket that is listed for it, and this bound: on the handoffs past a moved
-- waiter, or on the turns for which one spins before it halts. There is no ledger.
pub record IsPlanFor (family : Mode) (kinds : List Kind) (places : List ℕ) (bound : ℕ) (k : Plan) : Type 0 where
  pub format : k.format ≡ One
  pub mode : k.mode ≡ family
  pub locks : k.locks.items ≡ kinds
  pub sockets : k.topology.sockets.items ≡ places
  pub threshold : k.threshold ≡ bound
  pub accounts : accounts_of k ≡ 0

-- It is the i-th port of this domain with n processors, from the last one down.
pub record IsPortOf (domain : Domain) (n i : ℕ) (p : Port) : Type 0 where
  pub of : domain_in p ≡ domain
  pub cpu : (cpu_in p).number + (i + 1) ≡ n

abbrev pub ArePortsOf : Domain → ℕ → List Port → Type 0
ArePortsOf domain n ports = (i : ℕ) (p : Port) → i < length ports
    → IsPortOf domain n i (slice_index_or ports i p)

-- Of one domain that was asked for there is a port for each processor, the last one first.
pub record AreOpened (family : Mode) (kinds : List Kind) (places : List ℕ) (bound : ℕ) (ports : List Port) : Type 0 where
  pub domain : Domain
  pub plan : IsPlanFor family kinds places bound domain.plan
  pub many : length ports ≡ length places
  pub each : ArePortsOf domain (length places) ports
