-- Turns of a call that waits. A turn makes rows up to the next failed poll, and rests there. Who
-- waits is told by four words: `At` and `Won` are how the call stands before and after, `Fits` is what
-- it knows where it rests, and `Owes` is how it rests there with a poll of the source due.
use Rattle.std.specs.Prelude.{◌≡◌, ℕ, Bool, Option, Some, None}
use Rattle.lk_domain.specs.Seats.{IsOf, KeepsRest}
use Rattle.lk_domain.specs.declared.cpu.Cpu.{Cpu}
use Rattle.lk_domain.specs.declared.domain.Domain.{Domain}
use Rattle.lk_run.specs.Phases.{Start}

-- a turn: the call has what it waits for, or it rests. What the source tells is as it was.
pub record Turn (A : Type 0) (At Won : Start → Cpu → Option ℕ → Type 0) (Fits : A → Cpu → Type 0)
    (Owes : A → Start → Cpu → Option ℕ → Type 0) (next : Option A) (old new : Cpu) : Type 0 where
  pub rest : KeepsRest old new
  pub has : next ≡ None → (s : Start) (told : Option ℕ) → At s old told → Won s new told
  pub fits : (r : A) → next ≡ Some r → Fits r new
  pub owes : (r : A) → next ≡ Some r → (s : Start) (told : Option ℕ) → At s old told
      → Owes r s new told

-- Turns with polls between them, while what the source tells goes from `before` to `after`: the call
-- rests there, and a poll is due.
pub record Path (A : Type 0) (At : Start → Cpu → Option ℕ → Type 0) (Fits : A → Cpu → Type 0)
    (Owes : A → Start → Cpu → Option ℕ → Type 0) (nests : Bool) (r : A) (old : Cpu)
    (before : Option ℕ) (new : Cpu) (after : Option ℕ) : Type 0 where
  pub rest : KeepsRest old new
  pub fits : Fits r new
  pub owes : (s : Start) → s.nests ≡ nests → At s old before → Owes r s new after

-- and it has what it waits for
pub record Earns (At Won : Start → Cpu → Option ℕ → Type 0) (nests : Bool) (old : Cpu)
    (before : Option ℕ) (new : Cpu) (after : Option ℕ) : Type 0 where
  pub rest : KeepsRest old new
  pub has : (s : Start) → s.nests ≡ nests → At s old before → Won s new after

-- some call stands so on a processor of the domain
pub record Stands (d : Domain) (At : Start → Cpu → Option ℕ → Type 0) (cpu : Cpu) : Type 0 where
  pub domain : IsOf cpu d
  pub start : Start
  pub told : Option ℕ
  pub at : At start cpu told

-- this is what the source tells, and whether its handler may make calls
pub record Begun (At : Start → Cpu → Option ℕ → Type 0) (nests : Bool) (cpu : Cpu)
    (told : Option ℕ) : Type 0 where
  pub start : Start
  pub nests_is : start.nests ≡ nests
  pub at : At start cpu told
