-- What contracts say of a call that queues: where it stands, and what a row does.
use Rattle.std.specs.Prelude.{◌≡◌, ℕ, Option}
use Rattle.lk_word.specs.declared.spin_word.NodeName.{NodeName}
use Rattle.lk_rows.specs.declared.parts.Frame.{Frame}
use Rattle.lk_rows.specs.declared.parts.Pc.{Pc}
use Rattle.lk_rows.specs.declared.parts.Pc.TheVariants.{F1}
use Rattle.lk_domain.specs.Calls.{slows}
use Rattle.lk_domain.specs.Paths.{Any}
use Rattle.lk_domain.specs.Seats.{IsOf, KeepsRest, calls_of}
use Rattle.lk_domain.specs.Standing.{Outside}
use Rattle.lk_domain.specs.declared.cpu.Cpu.{Cpu}
use Rattle.lk_run.specs.Phases.{Start, OwesPoll, HasPolled, Arrives, waiter}
use Rattle.lk_run.specs.Phases as phase
use Rattle.lk_run.specs.declared.call.Call.{Call}

-- the node is that of the next call of the processor that queues
pub record IsNext (own : NodeName) (cpu : Cpu) : Type 0 where
  pub cpu_is : own.cpu ≡ cpu.number
  pub index : own.index ≡ slows (calls_of cpu).frames

-- how the call waits that began so: it was polled after each look after which it stood where it stood
abbrev pub Waits : Call → Pc → (Frame → Type 0) → Start → Cpu → Option ℕ → Type 0
Waits w c P s cpu told = HasPolled (waiter Outside w.domain.now w.verb w.lock) c P s cpu told

-- and but for the last look
abbrev pub Looked : Call → Pc → (Frame → Type 0) → Start → Cpu → Option ℕ → Type 0
Looked w c P s cpu told = OwesPoll (waiter Outside w.domain.now w.verb w.lock) c P s cpu told

-- the call that began so has the lock for which it queued
abbrev pub Has : Call → Start → Cpu → Option ℕ → Type 0
Has w s cpu told = phase.Won w.lock.wait w.domain.now w.verb w.lock.index s cpu told

-- some call waits so at the row c, with a frame that meets the condition
pub record At (w : Call) (c : Pc) (P : Frame → Type 0) (cpu : Cpu) : Type 0 where
  pub domain : IsOf cpu w.domain.now
  pub start : Start
  pub told : Option ℕ
  pub waits : Waits w c P start cpu told

-- a row leads from a to b
pub record Steps (w : Call) (a : Pc) (P : Frame → Type 0) (b : Pc) (Q : Frame → Type 0)
    (old new : Cpu) : Type 0 where
  pub rest : KeepsRest old new
  pub goes : (s : Start) (told : Option ℕ) → Waits w a P s old told → Waits w b Q s new told

-- a look leaves it at the row, maybe with another frame, and a poll is due
pub record LooksOn (w : Call) (a : Pc) (P Q : Frame → Type 0) (old new : Cpu) : Type 0 where
  pub rest : KeepsRest old new
  pub stays : (s : Start) (told : Option ℕ) → Waits w a P s old told → Looked w a Q s new told

abbrev pub Looks : Call → Pc → (Frame → Type 0) → Cpu → Cpu → Type 0
Looks w a P old new = LooksOn w a P P old new

-- a row, or rows without a poll, take the lock
pub record Takes (w : Call) (a : Pc) (P : Frame → Type 0) (old new : Cpu) : Type 0 where
  pub rest : KeepsRest old new
  pub has : (s : Start) (told : Option ℕ) → Waits w a P s old told → Has w s new told

-- the call has met a word by its first row that was not free, and goes on by it
pub record Meets (w : Call) (met : ℕ) (old new : Cpu) : Type 0 where
  pub rest : KeepsRest old new
  pub arrives : (s : Start) (told : Option ℕ) → Waits w F1 Any s old told
      → Arrives w.domain.now w.verb w.lock met s new told
