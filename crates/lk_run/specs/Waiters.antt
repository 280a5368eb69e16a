-- What contracts say of a reader or a writer that waits: where it stands, and what a row does. `Words`
-- says the same of a call that queues.
use Rattle.std.specs.Prelude.{ℕ, Option}
use Rattle.lk_rows.specs.declared.parts.Pc.{Pc}
use Rattle.lk_domain.specs.Paths.{Any}
use Rattle.lk_domain.specs.Seats.{IsOf, KeepsRest}
use Rattle.lk_domain.specs.declared.cpu.Cpu.{Cpu}
use Rattle.lk_run.specs.Phases.{Start, OwesPoll, HasPolled, Waiter}

-- how the call waits that began so: it was polled after each look after which it stood where it stood
abbrev pub Waits : Waiter → Pc → Start → Cpu → Option ℕ → Type 0
Waits w c s cpu told = HasPolled w c Any s cpu told

-- and but for the last look
abbrev pub Looked : Waiter → Pc → Start → Cpu → Option ℕ → Type 0
Looked w c s cpu told = OwesPoll w c Any s cpu told

-- some call waits so at the row c
pub record At (w : Waiter) (c : Pc) (cpu : Cpu) : Type 0 where
  pub domain : IsOf cpu w.domain
  pub start : Start
  pub told : Option ℕ
  pub waits : Waits w c start cpu told

-- a row leads from a to b
pub record Steps (w : Waiter) (a b : Pc) (old new : Cpu) : Type 0 where
  pub rest : KeepsRest old new
  pub goes : (s : Start) (told : Option ℕ) → Waits w a s old told → Waits w b s new told

-- a look leaves it at the row, and a poll is due
pub record Looks (w : Waiter) (a : Pc) (old new : Cpu) : Type 0 where
  pub rest : KeepsRest old new
  pub stays : (s : Start) (told : Option ℕ) → Waits w a s old told → Looked w a s new told

-- a row, or rows without a poll, lead from a to what is wanted of a call that began so
pub record Gets (w : Waiter) (a : Pc) (Wanted : Start → Cpu → Option ℕ → Type 0) (old new : Cpu)
    : Type 0 where
  pub rest : KeepsRest old new
  pub has : (s : Start) (told : Option ℕ) → Waits w a s old told → Wanted s new told
