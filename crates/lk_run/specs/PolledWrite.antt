-- How a call of `write_lock` waits: where it rests, and with what of its lock. The domain and the
-- number of the lock come first.
use Rattle.std.specs.Prelude.{ℕ, ◌<◌, Option, None}
use Rattle.lk_names.specs.declared.holder.Manner.TheVariants.{Writes}
use Rattle.lk_rows.specs.Moves.{wait_name}
use Rattle.lk_rows.specs.declared.parts.Pc.TheVariants.{F1, Wr5}
use Rattle.lk_rows.specs.declared.setup.Verb.TheVariants.{Write}
use Rattle.lk_domain.specs.Paths.{Any}
use Rattle.lk_domain.specs.Plans.{locks_of}
use Rattle.lk_domain.specs.Standing.{Inside, Outside}
use Rattle.lk_domain.specs.declared.cpu.Cpu.{Cpu}
use Rattle.lk_domain.specs.declared.domain.Domain.{Domain}
use Rattle.lk_domain.specs.declared.plan.Plan.{Plan}
use Rattle.lk_run.specs.Phases.{Start, OwesPoll, HasPolled, CameIn, Waiter, waiter}
use Rattle.lk_run.specs.Resting as rest
use Rattle.lk_run.specs.Resting.{row_at, frame_at}
use Rattle.lk_run.specs.declared.write_waiter.WritePlace.{WritePlace}
use Rattle.lk_run.specs.declared.write_waiter.WritePlace.TheVariants as place
use Rattle.lk_run.specs.declared.write_waiter.WriteWaiter.{WriteWaiter}

-- on its way to the wait lock, and with it

abbrev pub queueing : Domain → ℕ → Waiter
queueing d l = waiter Outside d Write (wait_name l)

abbrev pub within : Domain → ℕ → Waiter
within d l = waiter Inside d Write (wait_name l)

-- its first row has met somebody
abbrev pub Began : Domain → ℕ → Start → Cpu → Option ℕ → Type 0
Began d l = HasPolled (queueing d l) F1 Any

-- what it knows where it rests
abbrev pub Fits : Plan → WritePlace → Cpu → Type 0
Fits k (place.Queues r) cpu = rest.Fits k r cpu
Fits k place.Watches cpu = Unit {0}

-- the call that began so rests there
abbrev pub Rests : Domain → ℕ → WritePlace → Start → Cpu → Option ℕ → Type 0
Rests d l (place.Queues r) s cpu told = HasPolled (queueing d l) (row_at r) (frame_at r) s cpu told
Rests d l place.Watches s cpu told = HasPolled (within d l) Wr5 Any s cpu told

-- and a poll is due
abbrev pub Owes : Domain → ℕ → WritePlace → Start → Cpu → Option ℕ → Type 0
Owes d l (place.Queues r) s cpu told = OwesPoll (queueing d l) (row_at r) (frame_at r) s cpu told
Owes d l place.Watches s cpu told = OwesPoll (within d l) Wr5 Any s cpu told

-- it holds its lock
abbrev pub Entered : Domain → ℕ → Start → Cpu → Option ℕ → Type 0
Entered d l = CameIn d Write l Writes

-- the call that began so waits there; told nothing of polls, it is due none
pub record Waits (d : Domain) (w : WriteWaiter) (s : Start) (cpu : Cpu) : Type 0 where
  pub low : w.lock.index < locks_of d.plan
  pub fits : Fits d.plan w.place cpu
  pub rests : Rests d w.lock.index w.place s cpu None
