-- The hash of the machine, whose locks and nodes are told by numbers.
use Rattle.std.specs.Prelude.{ℕ, ◌+◌, ◌*◌, ◌/◌, ◌%◌, ◌==◌, List, map}
use Rattle.lk_names.specs.declared.names.LockName.{LockName}
use Rattle.lk_word.specs.declared.spin_word.NodeName.{NodeName}
use Rattle.lk_hash.specs.Entries.{Entry}

-- the lock of a number
abbrev pub lock_named : ℕ → LockName
lock_named number = record { index = number / 2; wait = number % 2 == 1 }

-- the number of a node, of which each processor has four
abbrev pub node_number : NodeName → ℕ
node_number n = 4 * n.cpu + n.index

-- the node of a number
abbrev pub node_named : ℕ → NodeName
node_named number = record { cpu = number / 4; index = number % 4 }

-- the entries, with the names of their locks and nodes
abbrev pub named : Entry → LockName × NodeName
named e = (lock_named e.0, node_named e.1)

abbrev pub entries_named : List Entry → List (LockName × NodeName)
entries_named es = map named es
