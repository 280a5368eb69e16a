-- What an act does to a machine, and when it is idle.
use Rattle.std.specs.Prelude.{◌+◌, ◌&&◌, ◌||◌, not, nat_le, ℕ, Option, Some, None, Bool, true}
use Rattle.std.specs.Prelude.{false, if◌then◌else◌}
use Rattle.lk_names.specs.declared.events.Act.{Act}
use Rattle.lk_names.specs.declared.events.Act.TheVariants as act
use Rattle.lk_names.specs.declared.events.What.TheVariants as what
use Rattle.lk_rows.specs.declared.parts.Frame.{Frame}
use Rattle.lk_rows.specs.declared.parts.Pc.{Pc}
use Rattle.lk_rows.specs.declared.parts.Pc.TheVariants.{W6, W7, E2, E12}
use Rattle.lk_rows.specs.Machine.{Machine, top_frame, depth_at, preempted_at, halted_at}
use Rattle.lk_rows.specs.Machine.{kicked_at, handlers_at, set_top, set_halted, set_kicked}
use Rattle.lk_rows.specs.Machine.{set_preempted, push, rest_frame}
use Rattle.lk_rows.specs.Programs.{handlers_of}
use Rattle.lk_rows.specs.Moves.{settled}
use Rattle.lk_rows.specs.Row.{Answer}
use Rattle.lk_rows.specs.TopRow.{row}

-- nothing is changed or told
abbrev pub idle : Machine → Answer
idle m = (m, None)

-- the rows at which a processor halts
abbrev pub stands_halting : Option Pc → Bool
stands_halting (Some W6) = true
stands_halting (Some E12) = true
stands_halting _ = false

-- the place after a halt
abbrev pub after_halt : Option Pc → Option Pc
after_halt (Some W6) = Some W7
after_halt (Some E12) = Some E2
after_halt c = c

-- the halt of a processor ends
abbrev pub woken : Machine → ℕ → Machine
woken m p = set_halted
    (set_top m p (record (top_frame m p) { place = after_halt (top_frame m p).place })) p false

-- a kick ends the halt
abbrev pub kicked_awake : Machine → ℕ → Answer
kicked_awake m p = (
  set_kicked (woken m p) p false,
  Some (record {
    by = record { cpu = p; ctx = (top_frame m p).ctx };
    what = what.Wake (top_frame m p).lock;
  }),
)

-- a halted processor goes on where a kick is remembered
abbrev pub step_halted : Machine → ℕ → Answer
step_halted m p = if kicked_at m p then kicked_awake m p else idle m

-- A step of a processor: none where it is preempted; the end of its halt, if it was kicked; else
-- the row of its top frame.
abbrev pub step : Machine → ℕ → Answer
step m p = if preempted_at m p then idle m else (if halted_at m p then step_halted m p else row m p)

-- An interrupt finds no entry: the processor is preempted, has six frames or no handler left, or is
-- between the last test before a halt and the halt, where interrupts are off.
abbrev pub is_shut : Machine → ℕ → Bool
is_shut m p =
    preempted_at m p || nat_le 6 (depth_at m p) || nat_le (handlers_of m.setup p) (handlers_at m p)
    || (stands_halting (top_frame m p).place && not (halted_at m p))

-- the frame of the next handler
abbrev pub handler_frame : Machine → ℕ → Frame
handler_frame m p = record rest_frame { ctx = depth_at m p; program = handlers_at m p + 1 }

-- a halt of the processor ends
abbrev pub awake : Machine → ℕ → Machine
awake m p = if halted_at m p then woken m p else m

-- the next handler becomes the frame of the next context on top, and begins
abbrev pub interrupted : Machine → ℕ → Answer
interrupted m p =
    let f = handler_frame m p in (
      settled (push (awake m p) p f) p f,
      Some (record { by = record { cpu = p; ctx = depth_at m p }; what = what.Int }),
    )

-- the halt ends without a kick
abbrev pub nudged : Machine → ℕ → Answer
nudged m p = (
  woken m p,
  Some
      (record { by = record { cpu = p; ctx = (top_frame m p).ctx }; what = what.Nudge }),
)

-- what an act does
abbrev pub next : Machine → Act → Answer
next m (act.Step p) = step m p
next m (act.Interrupt p) = if is_shut m p then idle m else interrupted m p
next m (act.Preempt p) = if preempted_at m p then idle m else (set_preempted m p true, None)
next m (act.Resume p) = if preempted_at m p then (set_preempted m p false, None) else idle m
next m (act.Nudge p) = if preempted_at m p || not (halted_at m p) then idle m else nudged m p

-- the processor of an act
abbrev pub processor_of : Act → ℕ
processor_of (act.Step p) = p
processor_of (act.Interrupt p) = p
processor_of (act.Preempt p) = p
processor_of (act.Resume p) = p
processor_of (act.Nudge p) = p
