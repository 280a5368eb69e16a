-- The number by which a word of a queue node names another node.
use Rattle.std.specs.Prelude.{ℕ, ◌+◌, ◌-◌, ◌*◌, ◌/◌, ◌%◌}
use Rattle.lk_word.specs.declared.spin_word.NodeName.{NodeName}

-- the number of a node: 0 names none, and 0 and 1 are the flags that name none
abbrev pub name_number : NodeName → ℕ
name_number n = 2 + (4 * n.cpu + n.index)

-- the node of a number
abbrev pub node_of_name : ℕ → NodeName
node_of_name i = record { cpu = (i - 2) / 4; index = (i - 2) % 4 }
