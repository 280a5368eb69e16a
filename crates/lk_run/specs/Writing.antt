-- What a row or a turn does to a writer: the words of `Waiters` and `Turns`.
use Rattle.std.specs.Prelude.{◌≡◌, ℕ, Bool, true, false, Option}
use Rattle.lk_names.specs.declared.holder.Manner.TheVariants.{Writes}
use Rattle.lk_names.specs.declared.names.LockName.{LockName}
use Rattle.lk_rows.specs.Moves.{wait_name}
use Rattle.lk_rows.specs.declared.parts.Pc.TheVariants.{F1, Wr2, Wr5}
use Rattle.lk_rows.specs.declared.setup.Verb.TheVariants.{Write}
use Rattle.lk_domain.specs.Paths.{Any}
use Rattle.lk_domain.specs.declared.cpu.Cpu.{Cpu}
use Rattle.lk_domain.specs.declared.domain.Domain.{Domain}
use Rattle.lk_run.specs.Phases.{Start, HasPolled, CameIn, starting, Waiter}
use Rattle.lk_run.specs.Phases as phase
use Rattle.lk_run.specs.PolledWrite as call
use Rattle.lk_run.specs.Resting as queue
use Rattle.lk_run.specs.Resting.{row_at, frame_at}
use Rattle.lk_run.specs.Turns as turn
use Rattle.lk_run.specs.Waiters.{Waits}
use Rattle.lk_run.specs.declared.call.Writer.{Writer}
use Rattle.lk_run.specs.declared.rest.Rest.{Rest}
use Rattle.lk_run.specs.declared.write_waiter.WritePlace.{WritePlace}

-- with the wait lock
abbrev pub inside : Writer → Waiter
inside w = call.within w.domain.now w.lock.index

-- what is wanted: to have come in with it, and to have come in

abbrev pub Passed : Writer → Start → Cpu → Option ℕ → Type 0
Passed w = phase.Passed w.domain.now Write w.lock.index Writes

abbrev pub Entered : Writer → Start → Cpu → Option ℕ → Type 0
Entered w = call.Entered w.domain.now w.lock.index

-- where a turn begins: after the first row, in the queue of the wait lock, with the wait lock at Wr2
-- and at Wr5, and where it rests

abbrev pub Began : Writer → Start → Cpu → Option ℕ → Type 0
Began w = call.Began w.domain.now w.lock.index

abbrev pub InQueue : Rest → Writer → Start → Cpu → Option ℕ → Type 0
InQueue q w = HasPolled (call.queueing w.domain.now w.lock.index) (row_at q) (frame_at q)

abbrev pub Looks : Writer → Start → Cpu → Option ℕ → Type 0
Looks w = Waits (inside w) Wr2

abbrev pub Watches : Writer → Start → Cpu → Option ℕ → Type 0
Watches w = Waits (inside w) Wr5

abbrev pub Resting : WritePlace → Writer → Start → Cpu → Option ℕ → Type 0
Resting p w = call.Rests w.domain.now w.lock.index p

-- it stands so, what it knows where it rests, and a turn of it

abbrev pub Stands : Writer → (Writer → Start → Cpu → Option ℕ → Type 0) → Cpu → Type 0
Stands w At cpu = turn.Stands w.domain.now (At w) cpu

abbrev pub FitsQueue : Writer → Rest → Cpu → Type 0
FitsQueue w q cpu = queue.Fits w.domain.now.plan q cpu

abbrev pub Fits : Writer → WritePlace → Cpu → Type 0
Fits w p cpu = call.Fits w.domain.now.plan p cpu

abbrev pub Turns : Writer → (Writer → Start → Cpu → Option ℕ → Type 0) → Option WritePlace → Cpu
    → Cpu → Type 0
Turns w At next old new =
    turn.Turn WritePlace (At w) (Entered w) (call.Fits w.domain.now.plan)
    (call.Owes w.domain.now w.lock.index) next old new

-- A writer has made its first row, whatever the source told until then. It has the lock, or it is to
-- queue for the wait lock.
pub record BeginsToWrite (domain : Domain) (lock : LockName) (came_in : Bool) (old new : Cpu)
    : Type 0 where
  pub entered : came_in ≡ true → (nests : Bool) (told : Option ℕ)
      → CameIn domain Write lock.index Writes (starting old nests told) new told
  pub out : came_in ≡ false → (nests : Bool) (told : Option ℕ)
      → phase.Waits domain Write (wait_name lock.index) F1 Any (starting old nests told) new told
