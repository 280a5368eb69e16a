-- Runs, and their histories.
use Rattle.std.specs.Prelude.{suc, ◌<◌, ℕ, Option, Some, None, Bool, List, [], ◌∷◌, ◌++◌, map}
use Rattle.std.specs.Prelude.{if◌then◌else◌, nat_lt}
use Rattle.lk_osq.specs.declared.nodes.Cpu.{Cpu}
use Rattle.lk_osq.specs.declared.places.Place.TheVariants.{O1}
use Rattle.lk_osq.specs.declared.events.OsqEvent.{OsqEvent}
use Rattle.lk_osq.specs.Machine.{Machine, no_cpu}
use Rattle.lk_osq.specs.Rows.{next}

-- an act: whether it asks a processor to give up, and the processor
pub record Act : Type 0 where
  pub give : Bool
  pub cpu : ℕ

-- the machine after these acts
abbrev pub machine_after : Machine → List Act → Machine
machine_after m [] = m
machine_after m (a ∷ acts) = machine_after (next m a.give a.cpu).0 acts

-- an event, if there is one, as a list
abbrev pub events_of : Option OsqEvent → List OsqEvent
events_of None = []
events_of (Some e) = e ∷ []

-- the events of a run
abbrev pub history : Machine → List Act → List OsqEvent
history m [] = []
history m (a ∷ acts) = events_of (next m a.give a.cpu).1 ++ history (next m a.give a.cpu).0 acts

-- at rest
abbrev pub rest_cpu : ℕ → Cpu
rest_cpu rounds =
    record no_cpu { rounds = rounds; place = if nat_lt 0 rounds then Some O1 else None }

-- the machine at rest, whose processors have so many rounds to make
abbrev pub at_rest : List ℕ → Machine
at_rest rounds = record { tail = None; cpus = map rest_cpu rounds }

-- each act names a processor of the machine
abbrev pub AreInRange : ℕ → List Act → Type 0
AreInRange cpus [] = Unit {0}
AreInRange cpus (a ∷ acts) = (a.cpu < cpus) × AreInRange cpus acts

-- an event, with the number of the act in which it happened
pub record Occurrence : Type 0 where
  pub act : ℕ
  pub event : OsqEvent

-- an event, if there is one, in the act of this number
abbrev pub occurs : ℕ → Option OsqEvent → List Occurrence
occurs n None = []
occurs n (Some e) = record { act = n; event = e } ∷ []

-- what happens in these acts, the first of which has the number n
abbrev pub history_from : ℕ → Machine → List Act → List Occurrence
history_from n m [] = []
history_from n m (a ∷ acts) =
    occurs n (next m a.give a.cpu).1 ++ history_from (suc n) (next m a.give a.cpu).0 acts
