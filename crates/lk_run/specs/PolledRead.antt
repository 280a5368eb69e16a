-- How a call of `read_lock` waits: where it rests, and with what of its lock. The domain and the
-- number of the lock come first.
use Rattle.std.specs.Prelude.{◌≡◌, ◌≢◌, ℕ, ◌<◌, length, Option, None}
use Rattle.lk_names.specs.declared.holder.Manner.TheVariants.{Reads}
use Rattle.lk_rows.specs.Moves.{wait_name}
use Rattle.lk_rows.specs.declared.parts.Pc.TheVariants.{R2, R5}
use Rattle.lk_rows.specs.declared.setup.Verb.TheVariants.{Read}
use Rattle.lk_domain.specs.Calls.{lock_name}
use Rattle.lk_domain.specs.Paths.{Any}
use Rattle.lk_domain.specs.Plans.{locks_of}
use Rattle.lk_domain.specs.Standing.{Inside, Outside}
use Rattle.lk_domain.specs.declared.cpu.Cpu.{Cpu}
use Rattle.lk_domain.specs.declared.domain.Domain.{Domain}
use Rattle.lk_domain.specs.declared.plan.Plan.{Plan}
use Rattle.lk_run.specs.Phases.{Start, OwesPoll, HasPolled, CameIn, biased, Waiter, waiter}
use Rattle.lk_run.specs.Phases as phase
use Rattle.lk_run.specs.Resting as rest
use Rattle.lk_run.specs.Resting.{row_at, frame_at}
use Rattle.lk_run.specs.declared.rest.Rest.{Rest}
use Rattle.lk_run.specs.declared.read_waiter.ReadPlace.{ReadPlace}
use Rattle.lk_run.specs.declared.read_waiter.ReadPlace.TheVariants as place
use Rattle.lk_run.specs.declared.read_waiter.ReadWaiter.{ReadWaiter}

-- without the wait lock, on its way to it, and with it

abbrev pub out : Domain → ℕ → Waiter
out d l = waiter Outside d Read (lock_name l)

abbrev pub queueing : Domain → ℕ → Waiter
queueing d l = waiter Outside d Read (wait_name l)

abbrev pub within : Domain → ℕ → Waiter
within d l = waiter Inside d Read (wait_name l)

-- it stands so, and has interrupted no call, or another one

abbrev pub Alone : (Start → Cpu → Option ℕ → Type 0) → Start → Cpu → Option ℕ → Type 0
Alone At s cpu told = (length s.calls.frames ≡ 0) × At s cpu told

abbrev pub Nested : (Start → Cpu → Option ℕ → Type 0) → Start → Cpu → Option ℕ → Type 0
Nested At s cpu told = (length s.calls.frames ≢ 0) × At s cpu told

-- its first row has found no way in
abbrev pub Began : Domain → ℕ → Start → Cpu → Option ℕ → Type 0
Began d l s cpu told =
    phase.Waits d Read (lock_name l) (biased (length s.calls.frames)) Any s cpu told

-- where it rests in the queue of the wait lock
abbrev pub RestsIn : Domain → ℕ → Rest → Start → Cpu → Option ℕ → Type 0
RestsIn d l r = HasPolled (queueing d l) (row_at r) (frame_at r)

-- what it knows there
abbrev pub Fits : Plan → ReadPlace → Cpu → Type 0
Fits k (place.Queues r) cpu = rest.Fits k r cpu
Fits k place.Watches cpu = Unit {0}
Fits k place.Spins cpu = Unit {0}

-- the call that began so rests there
abbrev pub Rests : Domain → ℕ → ReadPlace → Start → Cpu → Option ℕ → Type 0
Rests d l (place.Queues r) s cpu told = Alone (RestsIn d l r) s cpu told
Rests d l place.Watches s cpu told = Alone (HasPolled (within d l) R5 Any) s cpu told
Rests d l place.Spins s cpu told = Nested (HasPolled (out d l) R2 Any) s cpu told

-- and a poll is due
abbrev pub Owes : Domain → ℕ → ReadPlace → Start → Cpu → Option ℕ → Type 0
Owes d l (place.Queues r) s cpu told =
    Alone (OwesPoll (queueing d l) (row_at r) (frame_at r)) s cpu told
Owes d l place.Watches s cpu told = Alone (OwesPoll (within d l) R5 Any) s cpu told
Owes d l place.Spins s cpu told = Nested (OwesPoll (out d l) R2 Any) s cpu told

-- it holds its lock
abbrev pub Entered : Domain → ℕ → Start → Cpu → Option ℕ → Type 0
Entered d l = CameIn d Read l Reads

-- the call that began so waits there; told nothing of polls, it is due none
pub record Waits (d : Domain) (w : ReadWaiter) (s : Start) (cpu : Cpu) : Type 0 where
  pub low : w.lock.index < locks_of d.plan
  pub fits : Fits d.plan w.place cpu
  pub rests : Rests d w.lock.index w.place s cpu None
