-- The theorem over schedules: no run of an ordered setup comes to a deadlock.
use Rattle.std.specs.Prelude.{slice_index_or, ◌≡◌, ◌≢◌, ◌⊎◌, ◌<◌, ◌≤◌, ◌*◌, ℕ, Some, None, true, false, List, length}
use Rattle.lk_names.specs.declared.names.Kind.TheVariants.{Spin}
use Rattle.lk_names.specs.declared.names.Mode.TheVariants.{Virt, Native}
use Rattle.lk_names.specs.declared.events.Act.{Act}
use Rattle.lk_names.specs.declared.events.Act.TheVariants.{Step}
use Rattle.lk_rows.specs.declared.setup.Setup.{Setup}
use Rattle.lk_rows.specs.Machine.{Machine, top_frame, depth_at, preempted_at}
use Rattle.lk_rows.specs.Programs.{IsLawfulSetup, handlers_of}
use Rattle.lk_rows.specs.Acts.{next}
use Rattle.lk_rows.specs.Run.{at_rest, machine_after}
use Rattle.lk_law.specs.Agree.{halts}
use Rattle.lk_law.specs.Cna.{moves_aside}
use Rattle.lk_law.specs.MachineLaws.{AreInRange}
use Rattle.lk_rows.specs.declared.parts.Pc.{Pc}
use Rattle.lk_law.specs.Sound.{world}
use Rattle.lk_waits.specs.Halting.{IsRobbed}
use Rattle.lk_progress.specs.Ordered.{IsOrdered}
use Rattle.lk_progress.specs.Potential.{budget, cost, HasChanges}
use Rattle.lk_progress.specs.Spots.{TurnsOnTheSpot}

-- the processor has finished: its task has, and no handler runs
pub record IsFinished (m : Machine) (p : ℕ) : Type 0 where
  pub place : (top_frame m p).place ≡ None
  pub alone : depth_at m p ≡ 1

-- No context finds that all nodes of its processor are used: nobody queues, or a processor has at
-- most three handlers, and so four contexts.
abbrev pub HasRoom : Setup → Type 0
HasRoom setup = (setup.mode ≡ Virt) ⊎ ((p : ℕ) → handlers_of setup p ≤ 3)

-- no step of any processor changes anything
abbrev pub StandsStill : Machine → Type 0
StandsStill m = (p : ℕ) → p < length m.cpus → (next m (Step p)).0 ≡ m

-- In an ordered setup of `virt` or `native`, after every schedule: where no processor is preempted,
-- and no step of any changes anything, every processor has finished.
abbrev pub OrderedRunsGoOn : Type 0
OrderedRunsGoOn = (rank : ℕ → ℕ) (size : ℕ) (setup : Setup) (acts : List Act)
    → IsLawfulSetup setup → IsOrdered rank size setup
    → halts setup.mode ≡ false → moves_aside setup.mode ≡ false → HasRoom setup
    → AreInRange (length setup.topology.sockets.items) acts
    → ((p : ℕ) → p < length (machine_after (at_rest setup) acts).cpus
    → preempted_at (machine_after (at_rest setup) acts) p ≡ false)
    → StandsStill (machine_after (at_rest setup) acts)
    → (p : ℕ) → p < length (machine_after (at_rest setup) acts).cpus
    → IsFinished (machine_after (at_rest setup) acts) p

-- the next step of some processor changes the machine
pub record SomebodyMoves (m : Machine) : Type 0 where
  pub processor : ℕ
  pub inside : processor < length m.cpus
  pub moves : (next m (Step processor)).0 ≢ m

-- The same said outright: after every schedule of an ordered setup of `virt` or `native`, where no
-- processor is preempted, every processor has finished, or the next step of some processor changes the
-- machine.
abbrev pub SomebodyMovesOn : Type 0
SomebodyMovesOn = (rank : ℕ → ℕ) (size : ℕ) (setup : Setup) (acts : List Act)
    → IsLawfulSetup setup → IsOrdered rank size setup
    → halts setup.mode ≡ false → moves_aside setup.mode ≡ false → HasRoom setup
    → AreInRange (length setup.topology.sockets.items) acts
    → ((p : ℕ) → p < length (machine_after (at_rest setup) acts).cpus
    → preempted_at (machine_after (at_rest setup) acts) p ≡ false)
    → ((p : ℕ) → p < length (machine_after (at_rest setup) acts).cpus
    → IsFinished (machine_after (at_rest setup) acts) p)
    ⊎ SomebodyMoves (machine_after (at_rest setup) acts)

-- Where no processor halts, no run from rest has more acts that change the machine and lead somebody on than the rows
-- of the budget at rest, times what a row may cost. The handlers may be as many as they like, and so may the
-- swaps that fail.
abbrev pub RunsEnd : Type 0
RunsEnd = (setup : Setup) (acts : List Act) (k : ℕ)
    → IsLawfulSetup setup → halts setup.mode ≡ false
    → HasChanges (at_rest setup) acts k
    → k ≤ budget (at_rest setup) * cost setup.mode (length setup.topology.sockets.items)

-- In `native`, with spinlocks alone and at most three handlers a processor, no swap fails, and a row costs
-- itself alone.
abbrev pub NativeRunsEnd : Type 0
NativeRunsEnd = (setup : Setup) (acts : List Act) (k : ℕ)
    → IsLawfulSetup setup → setup.mode ≡ Native
    → ((i : ℕ) → slice_index_or setup.locks.items i Spin ≡ Spin) → HasRoom setup
    → HasChanges (at_rest setup) acts k → k ≤ budget (at_rest setup)

-- In an ordered setup of `cna`, after every schedule: where no processor is preempted, and each step
-- changes nothing or is that of a head which turns on the spot, every processor has finished.
abbrev pub OrderedRunsGoOnAside : Type 0
OrderedRunsGoOnAside = (rank : ℕ → ℕ) (size : ℕ) (setup : Setup) (acts : List Act)
    → IsLawfulSetup setup → IsOrdered rank size setup
    → halts setup.mode ≡ false → moves_aside setup.mode ≡ true → HasRoom setup
    → AreInRange (length setup.topology.sockets.items) acts
    → ((p : ℕ) → p < length (machine_after (at_rest setup) acts).cpus
    → preempted_at (machine_after (at_rest setup) acts) p ≡ false)
    → ((p : ℕ) → p < length (machine_after (at_rest setup) acts).cpus
    → ((next (machine_after (at_rest setup) acts) (Step p)).0 ≡ machine_after (at_rest setup) acts)
    ⊎ TurnsOnTheSpot (machine_after (at_rest setup) acts) p)
    → (p : ℕ) → p < length (machine_after (at_rest setup) acts).cpus
    → IsFinished (machine_after (at_rest setup) acts) p

-- the next step of some processor changes the machine, and is not that of a head that turns on the spot
pub record SomebodyMovesAside (m : Machine) : Type 0 where
  pub processor : ℕ
  pub inside : processor < length m.cpus
  pub moves : (next m (Step processor)).0 ≢ m
  pub off : TurnsOnTheSpot m processor → ⊥

-- The same said outright: every processor has finished, or the next step of some processor does so.
abbrev pub SomebodyLeadsOnAside : Type 0
SomebodyLeadsOnAside = (rank : ℕ → ℕ) (size : ℕ) (setup : Setup) (acts : List Act)
    → IsLawfulSetup setup → IsOrdered rank size setup
    → halts setup.mode ≡ false → moves_aside setup.mode ≡ true → HasRoom setup
    → AreInRange (length setup.topology.sockets.items) acts
    → ((p : ℕ) → p < length (machine_after (at_rest setup) acts).cpus
    → preempted_at (machine_after (at_rest setup) acts) p ≡ false)
    → ((p : ℕ) → p < length (machine_after (at_rest setup) acts).cpus
    → IsFinished (machine_after (at_rest setup) acts) p)
    ⊎ SomebodyMovesAside (machine_after (at_rest setup) acts)

-- The newest frame of the processor is that of a head of `pv` that goes around without halting: another has
-- stolen its lock, and does not know that the head is in the hash.
pub record GoesAround (m : Machine) (p : ℕ) : Type 0 where
  pub place : Pc
  pub here : (top_frame m p).place ≡ Some place
  pub robbed : IsRobbed (world m) (top_frame m p) place

-- the next step of the processor leads nowhere: it changes nothing, or is that of such a head
abbrev pub StepsNowhere : Machine → ℕ → Type 0
StepsNowhere m p = ((next m (Step p)).0 ≡ m) ⊎ GoesAround m p

-- In an ordered setup of `pv`, after every schedule: where no processor is preempted, and each step leads
-- nowhere, every processor has finished. A processor may have as many handlers as it likes: who finds no
-- node steals.
abbrev pub OrderedRunsGoOnHalting : Type 0
OrderedRunsGoOnHalting = (rank : ℕ → ℕ) (size : ℕ) (setup : Setup) (acts : List Act)
    → IsLawfulSetup setup → IsOrdered rank size setup → halts setup.mode ≡ true
    → AreInRange (length setup.topology.sockets.items) acts
    → ((p : ℕ) → p < length (machine_after (at_rest setup) acts).cpus
    → preempted_at (machine_after (at_rest setup) acts) p ≡ false)
    → ((p : ℕ) → p < length (machine_after (at_rest setup) acts).cpus
    → StepsNowhere (machine_after (at_rest setup) acts) p)
    → (p : ℕ) → p < length (machine_after (at_rest setup) acts).cpus
    → IsFinished (machine_after (at_rest setup) acts) p

-- the next step of some processor changes the machine, and is not that of a head that goes around
pub record SomebodyLeadsOn (m : Machine) : Type 0 where
  pub processor : ℕ
  pub inside : processor < length m.cpus
  pub leads : StepsNowhere m processor → ⊥

-- The same said outright: every processor has finished, or the next step of some processor leads on.
abbrev pub SomebodyLeadsOnHalting : Type 0
SomebodyLeadsOnHalting = (rank : ℕ → ℕ) (size : ℕ) (setup : Setup) (acts : List Act)
    → IsLawfulSetup setup → IsOrdered rank size setup → halts setup.mode ≡ true
    → AreInRange (length setup.topology.sockets.items) acts
    → ((p : ℕ) → p < length (machine_after (at_rest setup) acts).cpus
    → preempted_at (machine_after (at_rest setup) acts) p ≡ false)
    → ((p : ℕ) → p < length (machine_after (at_rest setup) acts).cpus
    → IsFinished (machine_after (at_rest setup) acts) p)
    ⊎ SomebodyLeadsOn (machine_after (at_rest setup) acts)
