-- When an act is idle, and what happens where it is not.
use Rattle.std.specs.Prelude.{◌≡◌, ◌⊎◌, ◌+◌, Option, Some, None, true, false}
use Rattle.lk_names.specs.declared.events.Act.{Act}
use Rattle.lk_names.specs.declared.events.Act.TheVariants.{Step, Interrupt, Preempt, Resume, Nudge}
use Rattle.lk_names.specs.declared.events.Event.{Event}
use Rattle.lk_names.specs.declared.events.What.TheVariants as what
use Rattle.lk_rows.specs.Machine.{Machine, top_frame, depth_at, preempted_at, halted_at}
use Rattle.lk_rows.specs.Machine.{kicked_at, handlers_at}
use Rattle.lk_rows.specs.Programs.{handlers_of}
use Rattle.lk_rows.specs.TopRow.{row}
use Rattle.lk_rows.specs.Acts.{stands_halting, kicked_awake}

-- A step of a processor that is preempted, has halted without a kick, or has finished; an interrupt
-- of one that is preempted, has six frames or no handler left, or is about to halt; a preemption of
-- one that is preempted, and a resumption of one that is not; and a nudge of one that is preempted
-- or has not halted.
abbrev pub IsIdle : Machine → Act → Type 0
IsIdle m (Step p) = (preempted_at m p ≡ true)
    ⊎ (((halted_at m p ≡ true) × (kicked_at m p ≡ false)) ⊎ ((top_frame m p).place ≡ None))
IsIdle m (Interrupt p) =
    (preempted_at m p ≡ true)
    ⊎ ((depth_at m p ≡ 6)
    ⊎ ((handlers_at m p ≡ handlers_of m.setup p)
    ⊎ ((stands_halting (top_frame m p).place ≡ true) × (halted_at m p ≡ false))))
IsIdle m (Preempt p) = preempted_at m p ≡ true
IsIdle m (Resume p) = preempted_at m p ≡ false
IsIdle m (Nudge p) = (preempted_at m p ≡ true) ⊎ (halted_at m p ≡ false)

-- What happens in an act that is not idle, n being the machine after it: a step makes the row of
-- the top frame, or a kick ends the halt; an interrupt is told, by the context that begins; the
-- processor is preempted, or is not preempted any more; and a nudge is told.
abbrev pub Happens : Machine → Act → Machine → Option Event → Type 0
Happens m (Step p) n e = ((halted_at m p ≡ false) × (n ≡ (row m p).0) × (e ≡ (row m p).1))
    ⊎ ((halted_at m p ≡ true) × (n ≡ (kicked_awake m p).0) × (e ≡ (kicked_awake m p).1))
Happens m (Interrupt p) n e =
    (e ≡ Some (record { by = record { cpu = p; ctx = depth_at m p }; what = what.Int }))
    × (handlers_at n p ≡ handlers_at m p + 1)
Happens m (Preempt p) n e = (e ≡ None) × (preempted_at n p ≡ true)
Happens m (Resume p) n e = (e ≡ None) × (preempted_at n p ≡ false)
Happens m (Nudge p) n e =
    e ≡ Some (record { by = record { cpu = p; ctx = (top_frame m p).ctx }; what = what.Nudge })
