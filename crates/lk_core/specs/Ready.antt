-- The machine is ready for the function that makes a row, wherever a step of a sound one makes a
-- row.
use Rattle.std.specs.Prelude.{◌≡◌, ◌<◌, ◌-◌, ◌^◌, ℕ, Some, false, length}
use Rattle.lk_names.specs.declared.events.Act.TheVariants.{Step}
use Rattle.lk_rows.specs.declared.family.Family.{Family}
use Rattle.lk_rows.specs.declared.family.Family.TheVariants.{Spin, Queue, Cna, Pv, Rw}
use Rattle.lk_rows.specs.declared.parts.Pc.{Pc}
use Rattle.lk_rows.specs.Family.{family_of}
use Rattle.lk_rows.specs.Machine.{Machine, halted_at, top_frame}
use Rattle.lk_machine.specs.Ready.{CountsWithin, IsReady}
use Rattle.lk_law.specs.Sound.{IsSound}
use Rattle.lk_cna.specs.Row.{IsCnaReady}
use Rattle.lk_rw.specs.Row.{IsRwReady}
use Rattle.lk_pv.specs.Row.{IsPvReady}
use Rattle.lk_core.specs.Idle.{IsIdle}

-- what the function that makes the rows of a family asks of the machine
abbrev pub IsReadyFor : Family → Machine → ℕ → Type 0
IsReadyFor Spin m p = IsReady m p
IsReadyFor Queue m p = IsReady m p
IsReadyFor Cna m p = IsCnaReady m p
IsReadyFor Pv m p = IsPvReady m p
IsReadyFor Rw m p = IsRwReady m p

-- The top frame stands at a row, and the machine is ready for it.
pub record MakesARow (m : Machine) (p : ℕ) : Type 0 where
  pub place : Pc
  pub here : (top_frame m p).place ≡ Some place
  pub ready : IsReadyFor (family_of place) m p

-- On every sound machine whose counts have room, a step that is not idle, of a processor that has
-- not halted, makes a row; and the machine is ready for it.
abbrev pub RowsAreReady : Type 0
RowsAreReady = (m : Machine) (p : ℕ)
    → p < length m.cpus
    → IsSound m
    → CountsWithin (2 ^ 64 - 2) m.counts
    → ¬ IsIdle m (Step p)
    → halted_at m p ≡ false
    → MakesARow m p
