-- When a machine shows what a history tells.
use Rattle.std.specs.Prelude.{ℕ, Option, Some, None}
use Rattle.lk_osq.specs.declared.nodes.Cpu.{Cpu}
use Rattle.lk_osq.specs.declared.places.Place.{Place}
use Rattle.lk_osq.specs.declared.places.Place.TheVariants as at
use Rattle.lk_osq.specs.declared.events.OsqEvent.{OsqEvent}
use Rattle.lk_osq.specs.Phase.{Phase}
use Rattle.lk_osq.specs.Phase.Phase.{Outside, Fresh, Links, Waits, Cuts, Bridges, Holds, Hands}
use Rattle.lk_osq.specs.Phase.Phase.{Astray}
use Rattle.lk_osq.specs.History.{Told, told, IsLawful}
use Rattle.lk_osq.specs.Agree.{OsqAgrees}
use Rattle.lk_osq.specs.Machine.{Machine, cpu_at}

-- the phase by a register that must be there
abbrev pub by_one : (ℕ → Phase) → Option ℕ → Phase
by_one f None = Astray
by_one f (Some a) = f a

-- the phase by two registers that must be there
abbrev pub by_two : (ℕ → ℕ → Phase) → Option ℕ → Option ℕ → Phase
by_two f None b = Astray
by_two f (Some a) None = Astray
by_two f (Some a) (Some b) = f a b

-- what a processor does, by its place and its registers
abbrev pub phase_by : Option Place → Option ℕ → Option ℕ → Phase
phase_by None a b = Outside
phase_by (Some at.O1) a b = Outside
phase_by (Some at.O2) a b = Fresh
phase_by (Some at.O3) a b = by_one Links a
phase_by (Some at.O4) a b = by_one Links a
phase_by (Some at.O5) a b = Waits
phase_by (Some at.Q1) a b = Waits
phase_by (Some at.Q2) a b = Waits
phase_by (Some at.Q3) a b = Waits
phase_by (Some at.Q4) a b = by_one Cuts a
phase_by (Some at.Q5) a b = by_one Cuts a
phase_by (Some at.Q6) a b = by_one Cuts a
phase_by (Some at.Q7) a b = by_one Cuts a
phase_by (Some at.Q8) a b = by_two Bridges a b
phase_by (Some at.Q9) a b = by_two Bridges a b
phase_by (Some at.X1) a b = Holds
phase_by (Some at.X2) a b = Holds
phase_by (Some at.X3) a b = by_one Hands b
phase_by (Some at.X4) a b = Holds
phase_by (Some at.X5) a b = Holds
phase_by (Some at.X6) a b = Holds
phase_by (Some at.X7) a b = Holds

-- the phase of a processor
abbrev pub phase_of : Cpu → Phase
phase_of c = phase_by c.place c.prev c.y

-- the phase of a processor of the machine
abbrev pub phase_at : Machine → ℕ → Phase
phase_at m p = phase_of (cpu_at m p)

-- The machine agrees with what is told.
pub record Shows (m : Machine) (t : Told) : Type 0 where
  pub agrees : OsqAgrees m.tail (phase_at m) (λ p. (cpu_at m p).node) t

-- what is told with one event more, if something happened
abbrev pub told_on : Option OsqEvent → Told → Told
told_on None t = t
told_on (Some e) t = told e.cpu e.what t

-- the event, if there is one, is lawful
abbrev pub IsLawfulIfAny : Option OsqEvent → Told → Type 0
IsLawfulIfAny None t = Unit {0}
IsLawfulIfAny (Some e) t = IsLawful t e.cpu e.what
