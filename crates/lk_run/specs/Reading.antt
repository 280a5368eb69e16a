-- What a row or a turn does to a reader: the words of `Waiters` and `Turns`.
use Rattle.std.specs.Prelude.{◌≡◌, ℕ, Bool, true, false, length, Option}
use Rattle.lk_names.specs.declared.holder.Manner.TheVariants.{Reads}
use Rattle.lk_names.specs.declared.names.LockName.{LockName}
use Rattle.lk_rows.specs.declared.parts.Pc.TheVariants.{F1, R2, R3, R4, R5}
use Rattle.lk_rows.specs.declared.setup.Verb.TheVariants.{Read}
use Rattle.lk_domain.specs.Paths.{Any}
use Rattle.lk_domain.specs.Seats.{calls_of}
use Rattle.lk_domain.specs.declared.cpu.Cpu.{Cpu}
use Rattle.lk_domain.specs.declared.domain.Domain.{Domain}
use Rattle.lk_run.specs.Phases.{Start, CameIn, biased, starting, Waiter}
use Rattle.lk_run.specs.Phases as phase
use Rattle.lk_run.specs.PolledRead as call
use Rattle.lk_run.specs.PolledRead.{Alone, Nested}
use Rattle.lk_run.specs.Resting as queue
use Rattle.lk_run.specs.Turns as turn
use Rattle.lk_run.specs.Waiters.{Waits}
use Rattle.lk_run.specs.declared.call.Reader.{Reader}
use Rattle.lk_run.specs.declared.read_waiter.ReadPlace.{ReadPlace}
use Rattle.lk_run.specs.declared.rest.Rest.{Rest}

-- without the wait lock, on its way to it, and with it

abbrev pub outside : Reader → Waiter
outside r = call.out r.domain.now r.lock.index

abbrev pub queueing : Reader → Waiter
queueing r = call.queueing r.domain.now r.lock.index

abbrev pub inside : Reader → Waiter
inside r = call.within r.domain.now r.lock.index

-- what is wanted: to queue for the wait lock, to have come in with it, and to have come in

abbrev pub Queues : Reader → Start → Cpu → Option ℕ → Type 0
Queues r = Waits (queueing r) F1

abbrev pub Passed : Reader → Start → Cpu → Option ℕ → Type 0
Passed r = phase.Passed r.domain.now Read r.lock.index Reads

abbrev pub Entered : Reader → Start → Cpu → Option ℕ → Type 0
Entered r = call.Entered r.domain.now r.lock.index

-- where a turn begins: after the first row, at R3, in the queue of the wait lock, with the wait lock at
-- R4 and at R5, at R2, and where it rests

abbrev pub Began : Reader → Start → Cpu → Option ℕ → Type 0
Began r = call.Began r.domain.now r.lock.index

abbrev pub Quits : Reader → Start → Cpu → Option ℕ → Type 0
Quits r = Alone (Waits (outside r) R3)

abbrev pub InQueue : Rest → Reader → Start → Cpu → Option ℕ → Type 0
InQueue q r = Alone (call.RestsIn r.domain.now r.lock.index q)

abbrev pub Joins : Reader → Start → Cpu → Option ℕ → Type 0
Joins r = Alone (Waits (inside r) R4)

abbrev pub Watches : Reader → Start → Cpu → Option ℕ → Type 0
Watches r = Alone (Waits (inside r) R5)

abbrev pub Spins : Reader → Start → Cpu → Option ℕ → Type 0
Spins r = Nested (Waits (outside r) R2)

abbrev pub Resting : ReadPlace → Reader → Start → Cpu → Option ℕ → Type 0
Resting p r = call.Rests r.domain.now r.lock.index p

-- it stands so, what it knows where it rests, and a turn of it

abbrev pub Stands : Reader → (Reader → Start → Cpu → Option ℕ → Type 0) → Cpu → Type 0
Stands r At cpu = turn.Stands r.domain.now (At r) cpu

abbrev pub FitsQueue : Reader → Rest → Cpu → Type 0
FitsQueue r q cpu = queue.Fits r.domain.now.plan q cpu

abbrev pub Fits : Reader → ReadPlace → Cpu → Type 0
Fits r p cpu = call.Fits r.domain.now.plan p cpu

abbrev pub Turns : Reader → (Reader → Start → Cpu → Option ℕ → Type 0) → Option ReadPlace → Cpu
    → Cpu → Type 0
Turns r At next old new =
    turn.Turn ReadPlace (At r) (Entered r) (call.Fits r.domain.now.plan)
    (call.Owes r.domain.now r.lock.index) next old new

-- A reader has made its first row, whatever the source told until then. It has come in, or it waits
-- with its bias in the word.
pub record BeginsToRead (domain : Domain) (lock : LockName) (came_in : Bool) (old new : Cpu)
    : Type 0 where
  pub entered : came_in ≡ true → (nests : Bool) (told : Option ℕ)
      → CameIn domain Read lock.index Reads (starting old nests told) new told
  pub waits : came_in ≡ false → (nests : Bool) (told : Option ℕ)
      → phase.Waits domain Read lock (biased (length (calls_of old).frames)) Any
      (starting old nests told) new told
