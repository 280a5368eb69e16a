-- A machine, an act and an event with its processors renamed. Every place is here in which the
-- number of a processor stands.
use Rattle.std.specs.Prelude.{ℕ, Option, Some, None, List, [], ◌∷◌, length, map}
use Rattle.std.proofs.Common.{zero, suc}
use Rattle.lk_names.specs.declared.names.Waiter.{Waiter}
use Rattle.lk_names.specs.declared.names.LockName.{LockName}
use Rattle.lk_names.specs.declared.events.Act.{Act}
use Rattle.lk_names.specs.declared.events.Act.TheVariants as act
use Rattle.lk_names.specs.declared.events.Event.{Event}
use Rattle.lk_names.specs.declared.events.What.{What}
use Rattle.lk_names.specs.declared.events.What.TheVariants.{Release, Kick, Pass}
use Rattle.lk_word.specs.declared.spin_word.NodeName.{NodeName}
use Rattle.lk_word.specs.declared.spin_word.Fields.{Fields}
use Rattle.lk_rows.specs.declared.parts.Flag.{Flag}
use Rattle.lk_rows.specs.declared.parts.Flag.TheVariants.{Second}
use Rattle.lk_rows.specs.declared.parts.Node.{Node}
use Rattle.lk_rows.specs.declared.parts.Frame.{Frame}
use Rattle.lk_rows.specs.Machine.{Machine, CpuState, LockState, cpu_at}
use Rattle.lk_rows.specs.Row.{Answer}
use Rattle.lk_rows.specs.Run.{Occurrence}
use Rattle.lk_renaming.specs.Renaming.{Renaming}

-- names

-- a node is named by its processor
abbrev pub renamed_name : Renaming → NodeName → NodeName
renamed_name r n = record n { cpu = r.to n.cpu }

-- a link or a register, if it names a node
abbrev pub renamed_link : Renaming → Option NodeName → Option NodeName
renamed_link r None = None
renamed_link r (Some n) = Some (renamed_name r n)

-- and so is a waiter
abbrev pub renamed_waiter : Renaming → Waiter → Waiter
renamed_waiter r u = record u { cpu = r.to u.cpu }

-- what is in a machine

-- a word: the tail
abbrev pub renamed_word : Renaming → Fields → Fields
renamed_word r x = record x { tail = renamed_link r x.tail }

-- a lock: both of its words; that of readers and writers names nobody
abbrev pub renamed_lock : Renaming → LockState → LockState
renamed_lock r l = record l { spin = renamed_word r l.spin; wait = renamed_word r l.wait }

-- a flag: the first node of the secondary queue
abbrev pub renamed_flag : Renaming → Flag → Flag
renamed_flag r (Second n) = Second (renamed_name r n)
renamed_flag r flag = flag

-- a queue node: its flag, its link and the last of the secondary queue
abbrev pub renamed_node : Renaming → Node → Node
renamed_node r x = record x {
  flag = renamed_flag r x.flag;
  next = renamed_link r x.next;
  second_tail = renamed_link r x.second_tail;
}

-- a frame: each register that names a node
abbrev pub renamed_frame : Renaming → Frame → Frame
renamed_frame r f = record f {
  me = renamed_link r f.me;
  prev = renamed_link r f.prev;
  second = renamed_link r f.second;
  y = renamed_link r f.y;
  a = renamed_link r f.a;
  b = renamed_link r f.b;
  t = renamed_link r f.t;
  target = renamed_link r f.target;
}

-- a processor: its frames and its nodes; its marks and its numbers of frames and handlers stay
abbrev pub renamed_cpu : Renaming → CpuState → CpuState
renamed_cpu r c = record c {
  frames = map (λ f. renamed_frame r f) c.frames;
  nodes = map (λ x. renamed_node r x) c.nodes;
}

-- an entry of the hash: the node, not the lock
abbrev pub renamed_entry : Renaming → LockName × NodeName → LockName × NodeName
renamed_entry r e = (e.0, renamed_name r e.1)

-- so many processors, from the new number q on
abbrev pub renamed_cpus : Renaming → Machine → ℕ → ℕ → List CpuState
renamed_cpus r m q zero = []
renamed_cpus r m q (suc n) = renamed_cpu r (cpu_at m (r.back q)) ∷ renamed_cpus r m (suc q) n

-- The machine: each processor stands where its new number says, and all names are new. The setup
-- and the counts stay.
abbrev pub renamed : Renaming → Machine → Machine
renamed r m = record m {
  locks = map (λ l. renamed_lock r l) m.locks;
  cpus = renamed_cpus r m 0 (length m.cpus);
  hash = map (λ e. renamed_entry r e) m.hash;
}

-- acts and events

-- the act of the renamed processor
abbrev pub renamed_act : Renaming → Act → Act
renamed_act r (act.Step p) = act.Step (r.to p)
renamed_act r (act.Interrupt p) = act.Interrupt (r.to p)
renamed_act r (act.Preempt p) = act.Preempt (r.to p)
renamed_act r (act.Resume p) = act.Resume (r.to p)
renamed_act r (act.Nudge p) = act.Nudge (r.to p)

-- a processor, if one is named
abbrev pub renamed_number : Renaming → Option ℕ → Option ℕ
renamed_number r None = None
renamed_number r (Some p) = Some (r.to p)

-- what an event says: whom a release or a kick owes, and to whom a head hands off
abbrev pub renamed_what : Renaming → What → What
renamed_what r (Release l owing) = Release l (renamed_number r owing)
renamed_what r (Kick p) = Kick (r.to p)
renamed_what r (Pass l u k) = Pass l (renamed_waiter r u) k
renamed_what r what = what

-- an event: who it is of, and what it says
abbrev pub renamed_event : Renaming → Event → Event
renamed_event r e = record { by = renamed_waiter r e.by; what = renamed_what r e.what }

-- the same, if something happened
abbrev pub renamed_told : Renaming → Option Event → Option Event
renamed_told r None = None
renamed_told r (Some e) = Some (renamed_event r e)

-- the machine after an act, and the event
abbrev pub renamed_answer : Renaming → Answer → Answer
renamed_answer r x = (renamed r x.0, renamed_told r x.1)

-- schedules and histories

-- the acts of a schedule
abbrev pub renamed_acts : Renaming → List Act → List Act
renamed_acts r acts = map (λ a. renamed_act r a) acts

-- the events of a history, each in the act in which it happened
abbrev pub renamed_history : Renaming → List Occurrence → List Occurrence
renamed_history r os = map (λ o. record { act = o.act; event = renamed_event r o.event }) os
