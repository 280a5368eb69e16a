-- When a port refuses a call, and when the call may begin.
use Rattle.std.specs.Prelude.{◌≡◌, ◌≢◌, ℕ, ◌≤◌, Bool, true, false, Option}
use Rattle.lk_names.specs.declared.holder.Manner.{Manner}
use Rattle.lk_names.specs.declared.names.Kind.{Kind}
use Rattle.lk_domain.specs.Calls.{holds_in, way_in}
use Rattle.lk_domain.specs.Plans.{locks_of, kind_at}
use Rattle.lk_domain.specs.Seats.{calls_of}
use Rattle.lk_domain.specs.declared.cpu.Cpu.{Cpu}
use Rattle.lk_domain.specs.declared.domain.Domain.{Domain}
use Rattle.lk_port.specs.Shares.{domain_of}
use Rattle.lk_port.specs.Standing.{IsReady}
use Rattle.lk_port.specs.declared.answer.Answer.{Answer}
use Rattle.lk_port.specs.declared.answer.Answer.TheVariants as answer
use Rattle.lk_port.specs.declared.pending.Pending.TheVariants.{Free}
use Rattle.lk_port.specs.declared.port.Port.{Port}

-- the processor of a port, and its domain

abbrev pub cpu_in : Port → Cpu
cpu_in p = p.cpu

abbrev pub domain_in : Port → Domain
domain_in p = domain_of p.share

-- whether it holds the lock
abbrev pub has : Port → ℕ → Bool
has p l = holds_in (calls_of (cpu_in p)).holds l

-- how it holds it
abbrev pub way : Port → ℕ → Option Manner
way p l = way_in (calls_of (cpu_in p)).holds l

-- the port refuses a call on a lock of this kind with this answer
abbrev pub Refuses : Port → Kind → ℕ → Answer → Type 0
Refuses p k l answer.Pending = p.pending ≢ Free
Refuses p k l answer.NoLock = locks_of (domain_in p).plan ≤ l
Refuses p k l answer.WrongKind = kind_at (domain_in p).plan l ≢ k
Refuses p k l answer.Held = has p l ≡ true
Refuses p k l answer.NotHeld = has p l ≡ false
Refuses p k l _ = ⊥

-- no call waits, and the lock is one of this kind, which the processor holds or not
abbrev pub MayCall : Port → Kind → ℕ → Bool → Type 0
MayCall p k l held = IsReady (domain_in p) p.pending (cpu_in p) k l held
