-- Which rows a kind of step makes, where processors halt.
use Rattle.std.specs.Prelude.{Bool, true, false, Option}
use Rattle.lk_word.specs.declared.spin_word.NodeName.{NodeName}
use Rattle.lk_rows.specs.declared.parts.State.{State}
use Rattle.lk_rows.specs.declared.parts.State.TheVariants.{Running, Halted, Hashed}
use Rattle.lk_rows.specs.declared.parts.Frame.{Frame}
use Rattle.lk_rows.specs.declared.parts.Pc.{Pc}
use Rattle.lk_rows.specs.declared.parts.Pc.TheVariants.{W2, W3, W5, W6, W7, E1, E2, E10}
use Rattle.lk_rows.specs.declared.parts.Pc.TheVariants.{E4, E6, E9, K3, U3, E12, E13, H2, K1, U2}
use Rattle.lk_rows.specs.Moves.{node_of}

-- a look at a state: of the node before, and of the own
abbrev pub looks_state : Pc → Bool
looks_state W2 = true
looks_state W5 = true
looks_state E1 = true
looks_state _ = false

-- a store of the own state, and what is stored
abbrev pub stores_own : Pc → Bool
stores_own W3 = true
stores_own E2 = true
stores_own E10 = true
stores_own _ = false

abbrev pub state_told : Pc → State
state_told W3 = Halted
state_told E10 = Hashed
state_told _ = Running

-- a swap of a halted state: of the own to running, and of the successor's to hashed
abbrev pub rouses : Pc → Bool
rouses W7 = true
rouses K1 = true
rouses _ = false

abbrev pub roused_to : Pc → State
roused_to K1 = Hashed
roused_to _ = Running

-- a row on a state, and on which node's
abbrev pub on_state : Pc → Bool
on_state W2 = true
on_state W3 = true
on_state W5 = true
on_state W7 = true
on_state E1 = true
on_state E2 = true
on_state E10 = true
on_state K1 = true
on_state _ = false

abbrev pub state_node : Pc → Frame → NodeName
state_node W2 f = node_of f.prev
state_node K1 f = node_of f.y
state_node _ f = node_of f.me

-- the processor halts
abbrev pub halts_at : Pc → Bool
halts_at W6 = true
halts_at E12 = true
halts_at _ = false

-- the last of the queue leaves it, and there is none behind it
abbrev pub quits : Pc → Bool
quits E13 = true
quits _ = false

-- a swap that is tried again: of a release, of a queue head, of a call that steals
abbrev pub tries_release : Pc → Bool
tries_release U2 = true
tries_release _ = false

abbrev pub tries_head : Pc → Bool
tries_head E4 = true
tries_head _ = false

abbrev pub tries_steal : Pc → Bool
tries_steal H2 = true
tries_steal _ = false

-- the lock is put into the hash, with the own node or with the successor's
abbrev pub fills : Pc → Bool
fills E6 = true
fills K3 = true
fills _ = false

abbrev pub filled_with : Pc → Frame → Option NodeName
filled_with K3 f = f.y
filled_with _ f = f.me

-- the entry of the lock is taken out of the hash
abbrev pub erases : Pc → Bool
erases U3 = true
erases E9 = true
erases _ = false
