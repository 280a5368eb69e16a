-- The machine as plain data: what is read of it, and what is written to it.
use Rattle.std.specs.Prelude.{ℕ, Option, None, false, List, slice_index_or, slice_set}
use Rattle.lk_osq.specs.declared.nodes.Node.{Node}
use Rattle.lk_osq.specs.declared.nodes.Cpu.{Cpu}

-- the last of the queue, and the processors
pub record Machine : Type 0 where
  pub tail : Option ℕ
  pub cpus : List Cpu

-- the node of a processor that has used none
abbrev pub rest_node : Node
rest_node = record { flag = false; next = None; prev = None }

-- a processor that has no round left
abbrev pub no_cpu : Cpu
no_cpu =
    record { node = rest_node; prev = None; y = None; request = false; rounds = 0; place = None }

-- a processor; past the last, one that has no round left
unfoldable pub cpu_at : Machine → ℕ → Cpu
cpu_at m p = slice_index_or m.cpus p no_cpu

-- a processor's node
abbrev pub node_at : Machine → ℕ → Node
node_at m p = (cpu_at m p).node

-- the machine with another state of one processor
unfoldable pub set_cpu : Machine → ℕ → Cpu → Machine
set_cpu m p c = record { tail = m.tail; cpus = slice_set m.cpus p c }

-- the machine with another node of one processor
abbrev pub set_node : Machine → ℕ → Node → Machine
set_node m p x = set_cpu m p (record (cpu_at m p) { node = x })

-- the machine with another last of the queue, or none
abbrev pub set_tail : Machine → Option ℕ → Machine
set_tail m x = record { tail = x; cpus = m.cpus }
