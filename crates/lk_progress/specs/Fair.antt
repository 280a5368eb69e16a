-- Schedules that are fair, and the theorem that everybody finishes under them.
use Rattle.std.specs.Prelude.{◌≡◌, ◌<◌, ◌≤◌, ◌+◌, ℕ, true, false, length}
use Rattle.std.proofs.Common.{zero, suc}
use Rattle.lk_names.specs.declared.events.Act.{Act}
use Rattle.lk_names.specs.declared.events.Act.TheVariants.{Step}
use Rattle.lk_rows.specs.declared.setup.Setup.{Setup}
use Rattle.lk_rows.specs.Machine.{Machine, preempted_at}
use Rattle.lk_rows.specs.Programs.{IsLawfulSetup}
use Rattle.lk_rows.specs.Acts.{next, processor_of}
use Rattle.lk_rows.specs.Run.{at_rest}
use Rattle.lk_law.specs.Agree.{halts}
use Rattle.lk_progress.specs.HaltingPrice.{is_nudge}
use Rattle.lk_progress.specs.Ordered.{IsOrdered}
use Rattle.lk_progress.specs.Runs.{HasRoom, IsFinished}

-- how many processors there are
abbrev pub processors : Setup → ℕ
processors setup = length setup.topology.sockets.items

-- the machine after the first so many acts of a schedule that never ends
abbrev pub after_first : Setup → (ℕ → Act) → ℕ → Machine
after_first setup schedule zero = at_rest setup
after_first setup schedule (suc n) = (next (after_first setup schedule n) (schedule n)).0

-- For so many acts from this one on nobody is preempted, and each processor makes a step.
pub record IsRound (setup : Setup) (schedule : ℕ → Act) (first size : ℕ) : Type 0 where
  pub runs : (i p : ℕ)
      → i ≤ size
      → p < processors setup
      → preempted_at (after_first setup schedule (first + i)) p ≡ false
  pub steps : (p : ℕ) → p < processors setup → (i : ℕ) × (i < size) × (schedule (first + i) ≡ Step p)

-- A schedule is fair if there is such a round again and again. Between rounds there may be any acts, and
-- interrupts may come at any time.
pub record IsFair (setup : Setup) (schedule : ℕ → Act) : Type 0 where
  pub inside : (n : ℕ) → processor_of (schedule n) < processors setup
  pub rounds : (n : ℕ) → (first : ℕ) × (size : ℕ) × (n ≤ first) × IsRound setup schedule first size

-- In an ordered setup of `virt`, `native` or `cna`, where there is room, every fair schedule comes to a moment at
-- which every processor has finished.
abbrev pub FairRunsFinish : Type 0
FairRunsFinish = (rank : ℕ → ℕ) (size : ℕ) (setup : Setup) (schedule : ℕ → Act)
    → IsLawfulSetup setup → IsOrdered rank size setup
    → halts setup.mode ≡ false → HasRoom setup
    → IsFair setup schedule
    → (n : ℕ) × ((p : ℕ) → p < processors setup → IsFinished (after_first setup schedule n) p)

-- From some act on no nudge changes anything: only finitely many halts end without a kick, but by interrupts.
abbrev pub NudgesEnd : Setup → (ℕ → Act) → Type 0
NudgesEnd setup schedule =
    (last : ℕ)
    × ((n : ℕ) → last ≤ n → is_nudge (schedule n) ≡ true → after_first setup schedule (suc n) ≡ after_first setup schedule n)

-- In an ordered setup of `pv`, every fair schedule in which nudges come to an end comes to a moment at which every
-- processor has finished. A processor may have as many handlers as it likes.
abbrev pub HaltingFairRunsFinish : Type 0
HaltingFairRunsFinish = (rank : ℕ → ℕ) (size : ℕ) (setup : Setup) (schedule : ℕ → Act)
    → IsLawfulSetup setup → IsOrdered rank size setup
    → halts setup.mode ≡ true
    → IsFair setup schedule → NudgesEnd setup schedule
    → (n : ℕ) × ((p : ℕ) → p < processors setup → IsFinished (after_first setup schedule n) p)
