-- What contracts say of a call of `lock` that is polled.
use Rattle.std.specs.Prelude.{◌≡◌, ℕ, ◌+◌, ◌<◌, Option, Some, None}
use Rattle.lk_rows.specs.declared.setup.Verb.TheVariants.{Lock}
use Rattle.lk_domain.specs.Calls.{Calls, lock_name}
use Rattle.lk_domain.specs.Plans.{locks_of}
use Rattle.lk_domain.specs.Standing.{Outside}
use Rattle.lk_domain.specs.declared.cpu.Cpu.{Cpu}
use Rattle.lk_domain.specs.declared.domain.Domain.{Domain}
use Rattle.lk_run.specs.Phases.{Start, waiter}
use Rattle.lk_run.specs.Phases as phase
use Rattle.lk_run.specs.Resting.{HasNodes, KnowsAt, row_at, frame_at}
use Rattle.lk_run.specs.declared.waiter.Waiter.{Waiter}

-- the call that began so has met this word by its first row, and is told nothing of polls
abbrev pub Arrived : Domain → ℕ → ℕ → Start → Cpu → Type 0
Arrived domain l met s cpu = phase.Arrives domain Lock (lock_name l) met s cpu None

-- the call that began so waits there; told nothing of polls, it is due none
pub record Waits (domain : Domain) (w : Waiter) (s : Start) (cpu : Cpu) : Type 0 where
  pub low : w.lock.index < locks_of domain.plan
  pub nodes : HasNodes domain.plan w.rest
  pub knows : KnowsAt w.rest cpu
  pub waits : phase.HasPolled (waiter Outside domain Lock (lock_name w.lock.index))
      (row_at w.rest) (frame_at w.rest) s cpu None

-- a turn that ends its call has taken one lock, and another has taken none
abbrev pub TakesOne : Option Waiter → Calls → Calls → Type 0
TakesOne None old new = new.taken ≡ old.taken + 1
TakesOne (Some w) old new = new.taken ≡ old.taken
