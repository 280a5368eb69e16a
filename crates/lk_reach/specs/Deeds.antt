-- What an act does that is sought.
use Rattle.std.specs.Prelude.{◌≡◌, ◌<◌, ◌≤◌, ◌==◌, if◌then◌else◌, ℕ, Option, List, length, Some, None}
use Rattle.lk_names.specs.declared.events.Act.{Act}
use Rattle.lk_names.specs.declared.events.Act.TheVariants as act
use Rattle.lk_names.specs.declared.events.Event.{Event}
use Rattle.lk_rows.specs.Acts.{next, processor_of}
use Rattle.lk_rows.specs.Machine.{Machine, cpu_at, top_frame}
use Rattle.lk_rows.specs.declared.parts.Counts.{Counts}
use Rattle.lk_rows.specs.declared.parts.Pc.{Pc}
use Rattle.lk_machine.specs.Parts.{row_of}
use Rattle.lk_reach.specs.declared.deeds.Deed.{Deed}
use Rattle.lk_reach.specs.declared.deeds.Deed.TheVariants as deed
use Rattle.lk_reach.specs.declared.deeds.Sought.{Sought}
use Rattle.lk_reach.specs.declared.graph.Graph.{Graph}
use Rattle.lk_reach.specs.Kinds.{kind_value}
use Rattle.lk_reach.specs.Reach.{AreMoves, IsMove, state_after}

-- the row that an act makes on a state
abbrev pub row_by : Machine → Act → Option Pc
row_by s (act.Step p) = row_of (cpu_at s p)
row_by s (act.Interrupt p) = None
row_by s (act.Preempt p) = None
row_by s (act.Resume p) = None
row_by s (act.Nudge p) = None

-- a count, by its number
abbrev pub count_value : Counts → ℕ → ℕ
count_value c n =
    if n == 0 then c.lock_pending else (if n == 1 then c.lock_slowpath else (if n == 2 then c.lock_use_node2 else
    (if n == 3 then c.lock_use_node3 else (if n == 4 then c.lock_use_node4 else (if n == 5 then c.lock_no_node else
    (if n == 6 then c.pv_lock_stealing else (if n == 7 then c.pv_wait_node else (if n == 8 then c.pv_wait_head
    else c.pv_kick_unlock))))))))

-- an event of this kind is told
abbrev pub TellsKind : Option Event → ℕ → Type 0
TellsKind told kind = (e : Event) × (told ≡ Some e) × (kind_value e.what ≡ kind)

-- the act does this on the state, which has no counts
abbrev pub Does : Deed → Machine → Act → Type 0
Does (deed.Row row) s a = row_by s a ≡ Some row
Does (deed.Event kind) s a = TellsKind (next s a).1 kind
Does (deed.Count count) s a = 0 < count_value (next s a).0.counts count

-- the number is the one that is sought, if one is
abbrev pub IsThat : Option ℕ → ℕ → Type 0
IsThat sought n = (which : ℕ) → sought ≡ Some which → n ≡ which

-- it does what is sought, by the processor that is sought, whose newest frame acts on the lock that is sought
pub record IsSought (sought : Sought) (s : Machine) (a : Act) : Type 0 where
  pub does : Does sought.deed s a
  pub cpu : IsThat sought.cpu (processor_of a)
  pub lock : IsThat sought.lock (top_frame s (processor_of a)).lock.index

-- behind the first acts the last one does what is sought, and behind no shorter list does one
pub record IsShortestToDeed (g : Graph) (sought : Sought) (first : List Act) (last : Act) : Type 0 where
  pub moves : AreMoves g.plan.extras g.machine.setup first
  pub move : IsMove g.plan.extras g.machine.setup last
  pub does : IsSought sought (state_after g.plan g.machine.setup first) last
  pub shortest : (others : List Act) (other : Act) → AreMoves g.plan.extras g.machine.setup others
      → IsMove g.plan.extras g.machine.setup other
      → IsSought sought (state_after g.plan g.machine.setup others) other → length first ≤ length others

-- no act does it, behind any acts
abbrev pub IsNeverDone : Graph → Sought → Type 0
IsNeverDone g sought = (acts : List Act) (last : Act) → AreMoves g.plan.extras g.machine.setup acts
    → IsMove g.plan.extras g.machine.setup last → ¬ IsSought sought (state_after g.plan g.machine.setup acts) last
