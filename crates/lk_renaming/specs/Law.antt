-- The laws: a machine goes on as the renamed machine does, act by act and in whole schedules.
use Rattle.std.specs.Prelude.{◌≡◌, ℕ, List, length}
use Rattle.lk_names.specs.declared.events.Act.{Act}
use Rattle.lk_rows.specs.declared.setup.Setup.{Setup}
use Rattle.lk_rows.specs.Machine.{Machine, top_frame, depth_at, preempted_at, halted_at}
use Rattle.lk_rows.specs.Programs.{IsLawfulSetup}
use Rattle.lk_rows.specs.Run.{at_rest, machine_after, history}
use Rattle.lk_rows.specs.Acts.{next, processor_of}
use Rattle.lk_law.specs.MachineLaws.{AreInRange}
use Rattle.lk_idle.specs.Alike.{AreAlike}
use Rattle.lk_renaming.specs.Renaming.{Renaming, IsRenaming, IsAmongAlike, IsFitting, composed}
use Rattle.lk_renaming.specs.Renaming.{reversed}
use Rattle.lk_renaming.specs.Renamed.{renamed, renamed_act, renamed_answer, renamed_acts}
use Rattle.lk_renaming.specs.Renamed.{renamed_history}
use Rattle.lk_renaming.specs.Named.{HasNames}

-- the renamed act on the renamed machine does what the act does, renamed
abbrev pub GoesOnRenamed : Renaming → Machine → Act → Type 0
GoesOnRenamed r m a = next (renamed r m) (renamed_act r a) ≡ renamed_answer r (next m a)

-- So it is with each renaming of processors that are alike, if the acting processor has the names
-- that its row takes.
abbrev pub RenamedGoesOn : Type 0
RenamedGoesOn =
    (r : Renaming) (m : Machine) (a : Act)
    → IsRenaming (length m.cpus) r
    → IsAmongAlike m.setup r
    → HasNames m (processor_of a)
    → GoesOnRenamed r m a

-- the newest frame of a processor stands at the row at which it stood, above as many others, and
-- the processor is as it was
pub record StandsAs (r : Renaming) (m : Machine) (p : ℕ) : Type 0 where
  pub place : (top_frame (renamed r m) (r.to p)).place ≡ (top_frame m p).place
  pub depth : depth_at (renamed r m) (r.to p) ≡ depth_at m p
  pub preempted : preempted_at (renamed r m) (r.to p) ≡ preempted_at m p
  pub halted : halted_at (renamed r m) (r.to p) ≡ halted_at m p

-- So a machine and the renamed machine make the same rows, and both are over or neither is.
abbrev pub RenamedStands : Type 0
RenamedStands = (r : Renaming) (m : Machine) (p : ℕ) → IsRenaming (length m.cpus) r → StandsAs r m p

-- the renamed schedule reaches the renamed machine, and its history is the renamed history
pub record RunsRenamed (r : Renaming) (setup : Setup) (acts : List Act) : Type 0 where
  pub state : machine_after (at_rest setup) (renamed_acts r acts)
      ≡ renamed r (machine_after (at_rest setup) acts)
  pub tells : history (at_rest setup) (renamed_acts r acts)
      ≡ renamed_history r (history (at_rest setup) acts)

-- So it is with every schedule from rest, and each renaming of processors that are alike.
abbrev pub SchedulesRunRenamed : Type 0
SchedulesRunRenamed =
    (r : Renaming) (setup : Setup) (acts : List Act)
    → IsLawfulSetup setup
    → AreInRange (length setup.topology.sockets.items) acts
    → IsRenaming (length setup.topology.sockets.items) r
    → IsAmongAlike setup r
    → RunsRenamed r setup acts

-- On the way of a schedule from rest nobody lacks a name that its row takes.
abbrev pub SchedulesHaveNames : Type 0
SchedulesHaveNames =
    (setup : Setup) (acts : List Act) (p : ℕ)
    → IsLawfulSetup setup
    → AreInRange (length setup.topology.sockets.items) acts
    → HasNames (machine_after (at_rest setup) acts) p

-- renamings together

-- one behind the other fits, and so does the way back of the first
pub record FitTogether (setup : Setup) (count : ℕ) (r q : Renaming) : Type 0 where
  pub both : IsFitting setup count (composed q r)
  pub back : IsFitting setup count (reversed r)

-- So it is with any two that fit.
abbrev pub RenamingsCompose : Type 0
RenamingsCompose =
    (setup : Setup) (count : ℕ) (r q : Renaming)
    → IsFitting setup count r
    → IsFitting setup count q
    → FitTogether setup count r q

-- A machine that is renamed twice is renamed by one behind the other.
abbrev pub RenamedTwice : Type 0
RenamedTwice =
    (q r : Renaming) (m : Machine)
    → IsRenaming (length m.cpus) r
    → renamed q (renamed r m) ≡ renamed (composed q r) m

-- The way back leads back.
abbrev pub RenamedBack : Type 0
RenamedBack =
    (r : Renaming) (m : Machine)
    → IsRenaming (length m.cpus) r
    → renamed (reversed r) (renamed r m) ≡ m

-- Machines that differ only in what nobody reads do so under new numbers too.
abbrev pub AlikeStaysAlike : Type 0
AlikeStaysAlike =
    (r : Renaming) (m n : Machine) → AreAlike m n → AreAlike (renamed r m) (renamed r n)
