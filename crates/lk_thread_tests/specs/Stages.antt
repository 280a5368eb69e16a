-- The locks of a test, and what a processor of one does.
use Rattle.std.specs.Prelude.{◌≡◌, ◌≢◌, ◌<◌, ℕ, None, false}
use Rattle.lk_names.specs.declared.holder.Manner.{Manner}
use Rattle.lk_names.specs.declared.names.Kind.{Kind}
use Rattle.lk_names.specs.declared.names.Kind.TheVariants.{Rw, Spin}
use Rattle.lk_law.specs.Agree.{halts}
use Rattle.lk_domain.specs.Ends.{Rests}
use Rattle.lk_domain.specs.Plans.{kind_at, locks_of}
use Rattle.lk_domain.specs.Seats.{IsOf, calls_of, ledger_of}
use Rattle.lk_domain.specs.Values.{out_in}
use Rattle.lk_domain.specs.Waits.{MayTake}
use Rattle.lk_domain.specs.declared.cpu.Cpu.{Cpu}
use Rattle.lk_domain.specs.declared.domain.Domain.{Domain}
use Rattle.lk_domain.specs.declared.plan.Plan.{Plan}
use Rattle.lk_guard.specs.Holding.{IsHolding}
use Rattle.lk_guard.specs.Idle.{IsIdle}

-- all locks of the plan are of this kind
abbrev pub AreAll : Kind → Plan → Type 0
AreAll kind k = (i : ℕ) → i < locks_of k → kind_at k i ≡ kind

-- the processor rests, in a domain of six spinlocks whose waiters halt none
pub record PlaysIn (domain : Domain) (cpu : Cpu) : Type 0 where
  pub awake : halts domain.plan.mode ≡ false
  pub spins : AreAll Spin domain.plan
  pub locks : locks_of domain.plan ≡ 6
  pub rests : Rests domain cpu.number cpu

-- the processor rests again
pub record RestsAgain (domain : Domain) (old new : Cpu) : Type 0 where
  pub number : new.number ≡ old.number
  pub rests : Rests domain old.number new

-- a handler may take the lock of this number on the processor that it is lent
pub record MayVisit (domain : Domain) (l : ℕ) (cpu : Cpu) : Type 0 where
  pub other : l ≢ 0
  pub lock : l < locks_of domain.plan
  pub kind : kind_at domain.plan l ≡ Spin
  pub may : MayTake l (calls_of cpu)

-- the processor does nothing, in a domain of six reader-writer locks
pub record MayEnter (domain : Domain) (cpu : Cpu) : Type 0 where
  pub kinds : AreAll Rw domain.plan
  pub locks : locks_of domain.plan ≡ 6
  pub domain_is : IsOf cpu domain
  pub idle : IsIdle cpu

-- it holds lock 0 alone, in this manner, and has not taken the journal out
pub record HasEntered (m : Manner) (domain : Domain) (cpu : Cpu) : Type 0 where
  pub kinds : AreAll Rw domain.plan
  pub locks : locks_of domain.plan ≡ 6
  pub domain_is : IsOf cpu domain
  pub holding : IsHolding m cpu
  pub home : (ledger_of cpu).out ≡ None

-- the processor has no value out with a lock that it holds
abbrev pub NoneOut : Cpu → Type 0
NoneOut cpu = (l : ℕ) → out_in (calls_of cpu).holds l ≡ false
