-- What contracts say of a call of `pv_lock` that has found its lock held: where it stands, what its frame
-- has there, and what a row, or a path of rows, does.
use Rattle.std.specs.Prelude.{Bool, ℕ, Option}
use Rattle.atomic_table.specs.declared.shared.Seat.{Seat}
use Rattle.lk_word.specs.declared.spin_word.NodeName.{NodeName}
use Rattle.lk_rows.specs.declared.parts.Frame.{Frame}
use Rattle.lk_rows.specs.declared.parts.Pc.{Pc}
use Rattle.lk_rows.specs.declared.setup.Verb.TheVariants.{Lock}
use Rattle.lk_domain.specs.Keeps.{Slot}
use Rattle.lk_domain.specs.Paths as walk
use Rattle.lk_domain.specs.Plans.{turns_of}
use Rattle.lk_domain.specs.Words.{IsNode}
use Rattle.lk_domain.specs.declared.view.View.{View}
use Rattle.lk_pvdomain.specs.PvPaths.{Start, Took}
use Rattle.lk_pvdomain.specs.PvPaths as path
use Rattle.lk_pvdomain.specs.PvRests as rest
use Rattle.lk_pvdomain.specs.declared.call.Queued.{Queued}
use Rattle.lk_pvdomain.specs.declared.rest.PvRest.{PvRest}

-- the node is one of the domain
abbrev pub IsNodeOf : Queued → NodeName → Type 0
IsNodeOf q = IsNode q.domain.now.plan

-- The frame of the call, from here to `Precedes`: it may have anything.
abbrev pub Any : Queued → Frame → Type 0
Any q = walk.Any

-- it has the call's node
abbrev pub Owns : Queued → Frame → Type 0
Owns q = path.Owns q.own

-- and knows whether the word had a tail when it looked last
abbrev pub Steals : Bool → Queued → Frame → Type 0
Steals tailed q = path.Steals q.own tailed

-- and has its predecessor
abbrev pub Follows : NodeName → Queued → Frame → Type 0
Follows prev q = path.Follows q.own prev

-- and has so many turns left before it halts
abbrev pub Spares : NodeName → ℕ → Queued → Frame → Type 0
Spares prev left q = path.Spares q.own prev left

-- and has all turns of the spin bound
abbrev pub Spins : NodeName → Queued → Frame → Type 0
Spins prev q = Spares prev (turns_of q.domain.now.plan) q

-- it is the queue head, and knows whether its lock is entered in the hash
abbrev pub Leads : Bool → Queued → Frame → Type 0
Leads hashed q = path.Leads q.own hashed

-- and has so many turns left before it halts
abbrev pub Tries : Bool → ℕ → Queued → Frame → Type 0
Tries hashed left q = path.Tries q.own hashed left

-- and has all turns of the spin bound
abbrev pub Pends : Bool → Queued → Frame → Type 0
Pends hashed q = Tries hashed (turns_of q.domain.now.plan) q

-- it has its successor
abbrev pub Precedes : NodeName → Queued → Frame → Type 0
Precedes to q = path.Precedes q.own to

-- the call, which began so, stands at the row c, and its frame meets the condition
abbrev pub At : Queued → Start → Pc → (Queued → Frame → Type 0) → Seat Slot View → Type 0
At q s c P a = path.At q.domain.now Lock q.lock q.own s c (P q) a

-- some call stands there
abbrev pub Waits : Queued → Pc → (Queued → Frame → Type 0) → Seat Slot View → Type 0
Waits q c P a = (s : Start) × At q s c P a

-- a row, or a path of rows, leads from a to b
abbrev pub Steps : Queued → Pc → (Queued → Frame → Type 0) → Pc → (Queued → Frame → Type 0) → Seat Slot View
    → Seat Slot View → Type 0
Steps q a P b Q old new = (s : Start) → At q s a P old → At q s b Q new

-- it takes the lock, and the call is over
abbrev pub Takes : Queued → Pc → (Queued → Frame → Type 0) → Seat Slot View → Seat Slot View → Type 0
Takes q a P old new = (s : Start) → At q s a P old → Took q.domain.now Lock q.lock q.own s new

-- the call, which began so, has halted at the row c, and goes on at the row e
abbrev pub Asleep : Queued → Start → Pc → Pc → (Queued → Frame → Type 0) → Seat Slot View → Type 0
Asleep q s c e P a = path.Halted q.domain.now q.lock q.own s c e (P q) a

-- some call has halted there
abbrev pub WaitsAsleep : Queued → Pc → Pc → (Queued → Frame → Type 0) → Seat Slot View → Type 0
WaitsAsleep q c e P a = (s : Start) × Asleep q s c e P a

-- a kick ends the halt, and the halt goes on

abbrev pub Wakes : Queued → Pc → Pc → (Queued → Frame → Type 0) → Seat Slot View → Seat Slot View → Type 0
Wakes q c e P old new = (s : Start) → Asleep q s c e P old → At q s e P new

abbrev pub Sleeps : Queued → Pc → Pc → (Queued → Frame → Type 0) → Seat Slot View → Seat Slot View → Type 0
Sleeps q c e P old new = (s : Start) → Asleep q s c e P old → Asleep q s c e P new

-- the call, which began so, rests there, and some call does

abbrev pub Rests : Queued → PvRest → Start → Seat Slot View → Type 0
Rests q r s a = rest.Rests q.domain.now q.lock q.own r s a

abbrev pub RestsAt : Queued → PvRest → Seat Slot View → Type 0
RestsAt q r a = (s : Start) × Rests q r s a

-- A turn leads there, from a row, from a halt, and from where the call rests; and turns with what lies
-- between them lead to the lock.

abbrev pub Turns : Queued → Pc → (Queued → Frame → Type 0) → Option PvRest → Seat Slot View → Seat Slot View → Type 0
Turns q c P next old new = (s : Start) → At q s c P old → rest.Comes q.domain.now q.lock q.own next s new

abbrev pub TurnsAsleep : Queued → Pc → Pc → (Queued → Frame → Type 0) → Option PvRest → Seat Slot View
    → Seat Slot View → Type 0
TurnsAsleep q c e P next old new = (s : Start) → Asleep q s c e P old → rest.Comes q.domain.now q.lock q.own next s new

abbrev pub GoesOn : Queued → PvRest → Option PvRest → Seat Slot View → Seat Slot View → Type 0
GoesOn q r next old new = (s : Start) → Rests q r s old → rest.Comes q.domain.now q.lock q.own next s new
