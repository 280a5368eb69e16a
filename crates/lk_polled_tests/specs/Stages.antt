-- How a processor stands to lock 0 of a domain: before a call, in one that waits, and behind it.
use Rattle.std.specs.Prelude.{◌≡◌, ◌<◌, ℕ, [], ◌∷◌, None}
use Rattle.lk_names.specs.declared.holder.Manner.{Manner}
use Rattle.lk_names.specs.declared.names.Kind.{Kind}
use Rattle.lk_domain.specs.Calls.{hold, lock_name}
use Rattle.lk_domain.specs.Plans.{kind_at, locks_of}
use Rattle.lk_domain.specs.Seated.{HoldsNothing}
use Rattle.lk_domain.specs.Seats.{IsOf, calls_of, ledger_of, view_of}
use Rattle.lk_domain.specs.declared.cpu.Cpu.{Cpu}
use Rattle.lk_domain.specs.declared.domain.Domain.{Domain}
use Rattle.lk_run.specs.Phases.{Start}
use Rattle.lk_run.specs.Polled as locker
use Rattle.lk_run.specs.PolledRead as reader
use Rattle.lk_run.specs.PolledWrite as writer
use Rattle.lk_run.specs.declared.read_waiter.ReadWaiter.{ReadWaiter}
use Rattle.lk_run.specs.declared.waiter.Waiter.{Waiter}
use Rattle.lk_run.specs.declared.write_waiter.WriteWaiter.{WriteWaiter}

-- it does nothing, and the lock is of this kind
pub record MayBegin (kind : Kind) (domain : Domain) (cpu : Cpu) : Type 0 where
  pub lock : 0 < locks_of domain.plan
  pub kind_is : kind_at domain.plan 0 ≡ kind
  pub domain_is : IsOf cpu domain
  pub idle : HoldsNothing (view_of cpu)

-- it holds the lock alone, which is of this kind, in this manner, and has not taken the journal out
pub record Has (kind : Kind) (m : Manner) (domain : Domain) (cpu : Cpu) : Type 0 where
  pub nth : ℕ
  pub lock : 0 < locks_of domain.plan
  pub kind_is : kind_at domain.plan 0 ≡ kind
  pub domain_is : IsOf cpu domain
  pub frames : (calls_of cpu).frames ≡ []
  pub holds : (calls_of cpu).holds ≡ hold 0 (lock_name 0) m nth ∷ []
  pub home : (ledger_of cpu).out ≡ None

-- a call of it waits: of `lock`, of `read_lock`, of `write_lock`

abbrev pub Locking : Domain → Waiter → Cpu → Type 0
Locking domain w cpu = IsOf cpu domain × (s : Start) × locker.Waits domain w s cpu

abbrev pub Reading : Domain → ReadWaiter → Cpu → Type 0
Reading domain w cpu = IsOf cpu domain × (s : Start) × reader.Waits domain w s cpu

abbrev pub Writing : Domain → WriteWaiter → Cpu → Type 0
Writing domain w cpu = IsOf cpu domain × (s : Start) × writer.Waits domain w s cpu
