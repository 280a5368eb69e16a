-- Queue nodes that no frame has as its own.
use Rattle.std.specs.Prelude.{ℕ, Option, Some, None, Bool, false, List, [], ◌∷◌, ◌==◌, ◌||◌, map}
use Rattle.std.specs.Prelude.{if◌then◌else◌}
use Rattle.std.proofs.Common.{suc}
use Rattle.lk_word.specs.declared.spin_word.NodeName.{NodeName}
use Rattle.lk_rows.specs.declared.parts.Flag.TheVariants.{Unset}
use Rattle.lk_rows.specs.declared.parts.Frame.{Frame}
use Rattle.lk_rows.specs.declared.parts.Node.{Node}
use Rattle.lk_rows.specs.Machine.{Machine, CpuState}

-- a frame's own node has this index
abbrev pub owns : Option NodeName → ℕ → Bool
owns None i = false
owns (Some n) i = n.index == i

-- that of one of these frames has
abbrev pub is_owned : List Frame → ℕ → Bool
is_owned [] i = false
is_owned (f ∷ fs) i = owns f.me i || is_owned fs i

-- a node, at rest if no frame has it, but for its state: a waiter behind it may still read that
abbrev pub freed_node : Bool → Node → Node
freed_node b x = record x {
  flag = if b then x.flag else Unset;
  next = if b then x.next else None;
  second_tail = if b then x.second_tail else None;
  runs = if b then x.runs else 0;
}

-- the nodes of a processor from this index on
abbrev pub freed_nodes : List Frame → ℕ → List Node → List Node
freed_nodes fs i [] = []
freed_nodes fs i (x ∷ xs) = freed_node (is_owned fs i) x ∷ freed_nodes fs (suc i) xs

-- a processor of which each node is so
abbrev pub freed_cpu : CpuState → CpuState
freed_cpu c = record c { nodes = freed_nodes c.frames 0 c.nodes }

-- the machine with all nodes at rest that no frame has
abbrev pub freed : Machine → Machine
freed m = record m { cpus = map (λ c. freed_cpu c) m.cpus }
