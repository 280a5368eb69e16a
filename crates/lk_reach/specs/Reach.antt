-- What schedules reach: the states of a setup. A state is a machine without its counts.
use Rattle.std.specs.Prelude.{◌≡◌, ◌<◌, ℕ, true, List, [], ◌∷◌, length, Some}
use Rattle.lk_names.specs.declared.events.Act.{Act}
use Rattle.lk_names.specs.declared.events.Act.TheVariants as act
use Rattle.lk_rows.specs.declared.setup.Setup.{Setup}
use Rattle.lk_rows.specs.declared.parts.Pc.{Pc}
use Rattle.lk_rows.specs.Machine.{Machine, cpu_at, rest_counts}
use Rattle.lk_machine.specs.Parts.{is_over, row_of}
use Rattle.lk_rows.specs.Acts.{next}
use Rattle.lk_rows.specs.Programs.{IsLawfulSetup, handlers_of}
use Rattle.lk_rows.specs.Run.{at_rest, machine_after}
use Rattle.lk_law.specs.MachineLaws.{AreInRange}
use Rattle.lk_idle.specs.Alike.{AreAlike}
use Rattle.lk_reach.specs.declared.plan.Extras.{Extras}
use Rattle.lk_reach.specs.declared.plan.Plan.{Plan}
use Rattle.lk_reach.specs.Peers.{AreFirsts}

-- the machine without its counts
abbrev pub bare : Machine → Machine
bare m = record m { counts = rest_counts }

-- the state after an act
abbrev pub after : Machine → Act → Machine
after m a = bare (next m a).0

-- The acts that are explored: a step of each processor, its next handler, if it has handlers, and,
-- where they are asked for, ends of halts without a kick, and the preemption of each processor and
-- its end.
abbrev pub IsMove : Extras → Setup → Act → Type 0
IsMove extras setup (act.Step p) = p < length setup.topology.sockets.items
IsMove extras setup (act.Interrupt p) =
    (p < length setup.topology.sockets.items) × (0 < handlers_of setup p)
IsMove extras setup (act.Nudge p) = (extras.nudges ≡ true) × (p < length setup.topology.sockets.items)
IsMove extras setup (act.Preempt p) = (extras.preempts ≡ true) × (p < length setup.topology.sockets.items)
IsMove extras setup (act.Resume p) = (extras.preempts ≡ true) × (p < length setup.topology.sockets.items)

abbrev pub AreMoves : Extras → Setup → List Act → Type 0
AreMoves extras setup [] = Unit {0}
AreMoves extras setup (a ∷ acts) = IsMove extras setup a × AreMoves extras setup acts

-- how many processors a setup has
abbrev pub cpus_of : Setup → ℕ
cpus_of setup = length setup.topology.sockets.items

-- states may be folded: the plan begins at rest, and knows which processors are alike
pub record MayFold (plan : Plan) (setup : Setup) : Type 0 where
  pub rest : plan.before.items ≡ []
  pub peers : AreFirsts setup plan.peers.firsts

-- the setup is lawful, and the acts that come before the exploration name its processors
pub record IsBegun (plan : Plan) (setup : Setup) : Type 0 where
  pub lawful : IsLawfulSetup setup
  pub range : AreInRange (cpus_of setup) plan.before.items
  pub folds : plan.folds ≡ true → MayFold plan setup

-- where the exploration begins: behind these acts, from rest
abbrev pub start_of : Plan → Setup → Machine
start_of plan setup = machine_after (at_rest setup) plan.before.items

-- the state that a schedule reaches from there
abbrev pub state_after : Plan → Setup → List Act → Machine
state_after plan setup acts = bare (machine_after (start_of plan setup) acts)

-- the state after acts on a state
abbrev pub run : Machine → List Act → Machine
run s [] = s
run s (a ∷ acts) = run (after s a) acts

-- some schedule reaches it
pub record IsReached (plan : Plan) (setup : Setup) (s : Machine) : Type 0 where
  pub acts : List Act
  pub moves : AreMoves plan.extras setup acts
  pub there : s ≡ state_after plan setup acts

-- The counts change nothing else: an act on the machine without them tells the same, and leaves the
-- same state.
abbrev pub CountsAreIdle : Type 0
CountsAreIdle = (m : Machine) (a : Act)
    → (after (bare m) a ≡ after m a) × ((next (bare m) a).1 ≡ (next m a).1)

-- a step of some processor makes this row
abbrev pub MakesRow : Machine → Pc → Type 0
MakesRow s row = (p : ℕ) × (p < length s.cpus) × (row_of (cpu_at s p) ≡ Some row)

-- every processor is done
abbrev pub AreOver : Machine → Type 0
AreOver s = (p : ℕ) → p < length s.cpus → is_over (cpu_at s p) ≡ true

-- States that are alike make the same rows.
abbrev pub AlikeMakeRows : Type 0
AlikeMakeRows = (s t : Machine) → AreAlike s t → (row : Pc) → MakesRow s row → MakesRow t row

-- If one is over, both are.
abbrev pub AlikeAreOver : Type 0
AlikeAreOver = (s t : Machine) → AreAlike s t → AreOver s → AreOver t
