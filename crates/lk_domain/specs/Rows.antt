-- Which rows a kind of step makes; and which of them a step call makes by its operation.
use Rattle.std.specs.Prelude.{◌&&◌, ◌||◌, not, Bool, true, false}
use Rattle.lk_rows.specs.declared.parts.Pc.{Pc}
use Rattle.lk_rows.specs.declared.parts.Pc.TheVariants.{F1, T1, T2, U1, V1, V2, P0, P3, G2, G3}
use Rattle.lk_rows.specs.declared.parts.Pc.TheVariants.{G7, N1, N2, P1, P2, P4, G4, G8, G9, C10}
use Rattle.lk_rows.specs.declared.setup.Verb.{Verb}
use Rattle.lk_rows.specs.declared.setup.Verb.TheVariants.{Lock, Try, Unlock, Read, Write}

-- a look at the word of a lock
abbrev pub is_look : Pc → Bool
is_look T1 = true
is_look V1 = true
is_look P0 = true
is_look P3 = true
is_look G2 = true
is_look G7 = true
is_look N1 = true
is_look _ = false

-- an exchange of the free word for the held one
abbrev pub is_take : Pc → Bool
is_take F1 = true
is_take T2 = true
is_take V2 = true
is_take G3 = true
is_take N2 = true
is_take _ = false

-- a release
abbrev pub is_free : Pc → Bool
is_free U1 = true
is_free _ = false

-- a look of a call that goes on until it has the lock
abbrev pub is_watch : Pc → Bool
is_watch V1 = true
is_watch P0 = true
is_watch P3 = true
is_watch G2 = true
is_watch G7 = true
is_watch N1 = true
is_watch _ = false

-- an exchange of it
abbrev pub is_swap : Pc → Bool
is_swap F1 = true
is_swap V2 = true
is_swap G3 = true
is_swap N2 = true
is_swap _ = false

-- by the operation of the call

-- the operation takes the wait lock where it finds no other way in
abbrev pub queues_up : Verb → Bool
queues_up Read = true
queues_up Write = true
queues_up _ = false

-- it goes on until it has the lock, or the wait lock
abbrev pub is_patient : Verb → Bool
is_patient Lock = true
is_patient Read = true
is_patient Write = true
is_patient _ = false

abbrev pub looks_by : Verb → Pc → Bool
looks_by Lock c = is_watch c
looks_by Read c = is_watch c
looks_by Write c = is_watch c
looks_by Try T1 = true
looks_by _ _ = false

abbrev pub takes_by : Verb → Pc → Bool
takes_by Lock c = is_swap c
takes_by Read c = is_swap c
takes_by Write c = is_swap c
takes_by Try T2 = true
takes_by _ _ = false

abbrev pub frees_by : Verb → Pc → Bool
frees_by Unlock U1 = true
frees_by Read U1 = true
frees_by Write U1 = true
frees_by _ _ = false

-- sets pending
abbrev pub pends_by : Verb → Pc → Bool
pends_by v P1 = is_patient v
pends_by _ _ = false

-- clears pending, which it has set
abbrev pub clears_by : Verb → Pc → Bool
clears_by v P2 = is_patient v
clears_by _ _ = false

-- takes the free lock and clears pending, which it has set
abbrev pub claims_by : Verb → Pc → Bool
claims_by v P4 = is_patient v
claims_by _ _ = false

-- exchanges the tail for the own node
abbrev pub arrives_by : Verb → Pc → Bool
arrives_by v G4 = is_patient v
arrives_by _ _ = false

-- exchanges the word of a queue of the own node alone for the held one
abbrev pub soles_by : Verb → Pc → Bool
soles_by v G8 = is_patient v
soles_by _ _ = false

-- takes the free lock as the first of a queue
abbrev pub stakes_by : Verb → Pc → Bool
stakes_by v G9 = is_patient v
stakes_by _ _ = false

-- exchanges the tail, which is the own node, for the last of the secondary queue
abbrev pub promotes_by : Verb → Pc → Bool
promotes_by v C10 = is_patient v
promotes_by _ _ = false

-- by the operation, and whether the word was free: whether a call goes on after a look, and after an
-- exchange, and whether it then has its lock; one that took its wait lock goes on

abbrev pub looks_on : Verb → Bool → Bool
looks_on v free = is_patient v || free

abbrev pub takes_on : Verb → Bool → Bool
takes_on v free = queues_up v || (is_patient v && not free)

abbrev pub take_holds : Verb → Bool → Bool
take_holds v free = not (queues_up v) && free
