-- What opening leaves in the handles.
use Rattle.std.specs.Prelude.{◌≡◌, ℕ, ◌==◌, List, Option, Some, None, length, map, slice_get, if◌then◌else◌}
use Rattle.lk_names.specs.declared.names.Kind.{Kind}
use Rattle.lk_names.specs.declared.names.Kind.TheVariants.{Spin, Rw}
use Rattle.lk_domain.specs.declared.domain.Domain.{Domain}
use Rattle.lk_port.specs.Asking.{cpu_in, domain_in}
use Rattle.lk_port.specs.Opened.{IsPlanFor, mode_of}
use Rattle.lk_port.specs.declared.opening.Family.{Family}
use Rattle.lk_port.specs.declared.opening.Family.TheVariants.{Virt, Native, Cna, Pv}
use Rattle.lk_port.specs.declared.port.Port.{Port}
use Rattle.qlock_c.specs.declared.processor.Processor.{Processor}

-- the family of a number
abbrev pub family_numbered : ℕ → Option Family
family_numbered n =
    if n == 0 then Some Virt else (if n == 1 then Some Native else (if n == 2 then Some Cna else (if n == 3 then Some Pv else None)))

-- the kind of a number
abbrev pub kind_numbered : ℕ → Kind
kind_numbered n = if n == 1 then Rw else Spin

-- The handle has the port of the processor with this number of the domain.
pub record IsHandleOf (domain : Domain) (number : ℕ) (cpu : Processor) : Type 0 where
  pub port : Port
  pub has : cpu.handle.inner ≡ Some port
  pub of : domain_in port ≡ domain
  pub is : (cpu_in port).number ≡ number

-- The handles have the ports of the domain's processors, in their order.
abbrev pub AreHandlesOf : Domain → List Processor → Type 0
AreHandlesOf domain cpus = (i : ℕ) (cpu : Processor) → slice_get cpus i ≡ Some cpu
    → IsHandleOf domain i cpu

-- Each handle has its processor of one domain, which is the one that was asked for.
pub record ArePorts (family : Family) (kinds sockets : List ℕ) (threshold : ℕ) (cpus : List Processor) : Type 0 where
  pub domain : Domain
  pub plan : IsPlanFor (mode_of family) (map kind_numbered kinds) sockets threshold domain.plan
  pub many : length cpus ≡ length sockets
  pub each : AreHandlesOf domain cpus

-- the same, by the number of the family
pub record AreOpen (number : ℕ) (kinds sockets : List ℕ) (threshold : ℕ) (cpus : List Processor) : Type 0 where
  pub family : Family
  pub is : family_numbered number ≡ Some family
  pub ports : ArePorts family kinds sockets threshold cpus

-- no handle has a processor
abbrev pub AreEmpty : List Processor → Type 0
AreEmpty cpus = (i : ℕ) (cpu : Processor) → slice_get cpus i ≡ Some cpu → cpu.handle.inner ≡ None
