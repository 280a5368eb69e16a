-- A run: the machine at rest, the machine after a list of acts, and the history of what happened in
-- them.
use Rattle.std.specs.Prelude.{false, ℕ, Option, Some, None, List, [], ◌∷◌, ◌++◌, length, map}
use Rattle.std.specs.Prelude.{replicate, slice_get}
use Rattle.std.proofs.Common.{zero, suc}
use Rattle.lk_names.specs.declared.names.Mode.{Mode}
use Rattle.lk_names.specs.declared.events.Act.{Act}
use Rattle.lk_names.specs.declared.events.Event.{Event}
use Rattle.lk_rows.specs.declared.setup.Op.{Op}
use Rattle.lk_rows.specs.declared.setup.Setup.{Setup}
use Rattle.lk_rows.specs.declared.parts.Frame.{Frame}
use Rattle.lk_rows.specs.Machine.{Machine, CpuState, rest_lock, rest_node, rest_frame}
use Rattle.lk_rows.specs.Machine.{rest_counts}
use Rattle.lk_rows.specs.Programs.{program_at}
use Rattle.lk_rows.specs.Moves.{started}
use Rattle.lk_rows.specs.Acts.{next}

-- a task's frame before its first operation, or finished where there is none
abbrev pub first_frame : Mode → Option Op → Frame
first_frame mode None = rest_frame
first_frame mode (Some o) = started mode rest_frame o

-- a processor whose task stands at the first row of its program, or is finished where it has none
abbrev pub rest_cpu : Setup → ℕ → CpuState
rest_cpu setup p =
    record {
      frames = first_frame setup.mode (slice_get (program_at setup p 0) 0) ∷ [];
      nodes = replicate 4 rest_node;
      queued = 0;
      preempted = false;
      halted = false;
      kicked = false;
      handlers = 0;
    }

-- so many processors, from the number p on
abbrev pub rest_cpus : Setup → ℕ → ℕ → List CpuState
rest_cpus setup p zero = []
rest_cpus setup p (suc n) = rest_cpu setup p ∷ rest_cpus setup (suc p) n

-- the machine at rest
abbrev pub at_rest : Setup → Machine
at_rest setup =
    record {
      setup = setup;
      locks = replicate (length setup.locks.items) rest_lock;
      cpus = rest_cpus setup 0 (length setup.topology.sockets.items);
      hash = [];
      counts = rest_counts;
    }

-- the machine after these acts
abbrev pub machine_after : Machine → List Act → Machine
machine_after m [] = m
machine_after m (a ∷ acts) = machine_after (next m a).0 acts

-- an event, with the number of the act in which it happened
pub record Occurrence : Type 0 where
  pub act : ℕ
  pub event : Event

-- the occurrence of an act, if something happened in it
abbrev pub occurs : ℕ → Option Event → List Occurrence
occurs n None = []
occurs n (Some e) = record { act = n; event = e } ∷ []

-- what happens in these acts, the first of which has the number n
abbrev pub history_from : ℕ → Machine → List Act → List Occurrence
history_from n m [] = []
history_from n m (a ∷ acts) = occurs n (next m a).1 ++ history_from (suc n) (next m a).0 acts

-- the history of a run: acts are numbered from 1
abbrev pub history : Machine → List Act → List Occurrence
history m acts = history_from 1 m acts

-- the events alone
abbrev pub events_of : List Occurrence → List Event
events_of os = map (λ o. o.event) os
