-- What is claimed of a setup whose locks have ranks that are in order.
use Rattle.std.specs.Prelude.{◌≡◌, ◌⊎◌, ◌<◌, ℕ, List, true, false, length}
use Rattle.lk_names.specs.declared.events.Act.{Act}
use Rattle.lk_names.specs.declared.events.Act.TheVariants.{Step}
use Rattle.lk_rows.specs.declared.setup.Setup.{Setup}
use Rattle.lk_rows.specs.Machine.{Machine, preempted_at}
use Rattle.lk_rows.specs.Acts.{next}
use Rattle.lk_rows.specs.Run.{at_rest, machine_after}
use Rattle.lk_law.specs.Agree.{halts}
use Rattle.lk_law.specs.Cna.{moves_aside}
use Rattle.lk_law.specs.MachineLaws.{AreInRange}
use Rattle.lk_progress.specs.Runs.{IsFinished, SomebodyMoves, SomebodyLeadsOn}
use Rattle.lk_progress.specs.Spots.{TurnsOnTheSpot}
use Rattle.lk_progress.specs.Fair.{IsFair, NudgesEnd, processors, after_first}

-- no processor is preempted
abbrev pub NobodyIsPreempted : Machine → Type 0
NobodyIsPreempted m = (p : ℕ) → p < length m.cpus → preempted_at m p ≡ false

-- every processor has finished
abbrev pub AllHaveFinished : Machine → Type 0
AllHaveFinished m = (p : ℕ) → p < length m.cpus → IsFinished m p

-- no step leads any processor on: it changes nothing, or is that of a head which turns on the spot
abbrev pub NobodyLeadsOn : Machine → Type 0
NobodyLeadsOn m = (p : ℕ) → p < length m.cpus → ((next m (Step p)).0 ≡ m) ⊎ TurnsOnTheSpot m p

-- In the machine after any schedule, if no processor is preempted, every processor has finished, or the
-- next step of some processor leads on. In `cna` it is said turned round: if no step leads on, every
-- processor has finished. In `pv` a head that goes around, since another has stolen its lock, does not lead
-- on.
pub record NeverDeadlocks (setup : Setup) : Type 0 where
  pub moves : halts setup.mode ≡ false
      → moves_aside setup.mode ≡ false
      → (acts : List Act)
      → AreInRange (processors setup) acts
      → NobodyIsPreempted (machine_after (at_rest setup) acts)
      → AllHaveFinished (machine_after (at_rest setup) acts) ⊎ SomebodyMoves (machine_after (at_rest setup) acts)
  pub aside : moves_aside setup.mode ≡ true
      → (acts : List Act)
      → AreInRange (processors setup) acts
      → NobodyIsPreempted (machine_after (at_rest setup) acts)
      → NobodyLeadsOn (machine_after (at_rest setup) acts)
      → AllHaveFinished (machine_after (at_rest setup) acts)
  pub halting : halts setup.mode ≡ true
      → (acts : List Act)
      → AreInRange (processors setup) acts
      → NobodyIsPreempted (machine_after (at_rest setup) acts)
      → AllHaveFinished (machine_after (at_rest setup) acts) ⊎ SomebodyLeadsOn (machine_after (at_rest setup) acts)

-- every fair schedule comes to a moment at which every processor has finished
abbrev pub FairSchedulesFinish : Setup → Type 0
FairSchedulesFinish setup = (schedule : ℕ → Act)
    → IsFair setup schedule
    → (n : ℕ) × ((p : ℕ) → p < processors setup → IsFinished (after_first setup schedule n) p)

-- every fair schedule in which nudges come to an end does
abbrev pub CalmSchedulesFinish : Setup → Type 0
CalmSchedulesFinish setup = (schedule : ℕ → Act)
    → IsFair setup schedule
    → NudgesEnd setup schedule
    → (n : ℕ) × ((p : ℕ) → p < processors setup → IsFinished (after_first setup schedule n) p)
