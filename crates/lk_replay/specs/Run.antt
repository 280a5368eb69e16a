-- A run on its way.
use Rattle.std.specs.Prelude.{◌≡◌, ◌≤◌, ◌+◌, List, ◌++◌, length}
use Rattle.lk_names.specs.declared.events.Act.{Act}
use Rattle.lk_names.specs.declared.events.Event.{Event}
use Rattle.lk_rows.specs.Run.{Occurrence, at_rest, history_from, machine_after, events_of}
use Rattle.lk_law.specs.Sound.{IsSound}
use Rattle.lk_law.specs.MachineLaws.{ShowsLawful}
use Rattle.lk_machine.specs.Ready.{CountsWithin}
use Rattle.lk_rows.specs.declared.setup.Setup.{Setup}
use Rattle.lk_replay.specs.Transcript.{history_of_run}
use Rattle.lk_replay.specs.declared.run.Run.{Run}

-- its machine is sound, it made no more acts than a trace may have, and none of them raised a count by more than one
pub record CanGoOn (run : Run) : Type 0 where
  pub sound : IsSound run.machine
  pub few : run.acts ≤ 100000000
  pub counts : CountsWithin run.acts run.machine.counts

-- what happens in these acts, made next
abbrev pub occurrences_in : Run → List Act → List Occurrence
occurrences_in run acts = history_from (run.acts + 1) run.machine acts

-- the run went on by these acts, and what it shows stayed lawful
pub record Makes (old new : Run) (made : List Act) : Type 0 where
  pub machine : new.machine ≡ machine_after old.machine made
  pub setup : new.machine.setup ≡ old.machine.setup
  pub acts : new.acts ≡ old.acts + length made
  pub events : new.events ≡ old.events + length (occurrences_in old made)
  pub lawful : (es : List Event) → ShowsLawful old.machine es → ShowsLawful new.machine (es ++ events_of (occurrences_in old made))

-- the run is that of these acts on the setup's machine from rest, and what it shows is lawful
pub record RanTo (run : Run) (setup : Setup) (made : List Act) : Type 0 where
  pub setup_is : run.machine.setup ≡ setup
  pub machine : run.machine ≡ machine_after (at_rest setup) made
  pub acts : run.acts ≡ length made
  pub events : run.events ≡ length (history_of_run setup made)
  pub lawful : ShowsLawful run.machine (events_of (history_of_run setup made))
