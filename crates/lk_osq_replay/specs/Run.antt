-- A run on its way.
use Rattle.std.specs.Prelude.{◌≡◌, ◌+◌, ℕ, List, length}
use Rattle.lk_osq.specs.Run.{Act, Occurrence, at_rest, machine_after, history_from, AreInRange}
use Rattle.lk_osq_forms.specs.Grammar.{Said, Header, Schedule}
use Rattle.lk_osq_replay.specs.declared.run.Run.{Run}

-- what happens in these acts, made next
abbrev pub occurrences_in : Run → List Act → List Occurrence
occurrences_in run acts = history_from (run.acts + 1) run.machine acts

-- the run went on by these acts
pub record Makes (old new : Run) (made : List Act) : Type 0 where
  pub machine : new.machine ≡ machine_after old.machine made
  pub acts : new.acts ≡ old.acts + length made
  pub ended : new.ended ≡ old.ended

-- the run is that of these acts from rest, each of a processor that exists
pub record RanTo (run : Run) (rounds : List ℕ) (acts : List Act) : Type 0 where
  pub machine : run.machine ≡ machine_after (at_rest rounds) acts
  pub acts_made : run.acts ≡ length acts
  pub range : AreInRange (length rounds) acts

-- the run has obeyed lines that say this
abbrev pub RunShows : Run → Said → Type 0
RunShows run (Header rank rounds) = ⊥
RunShows run (Schedule rounds acts ended) = RanTo run rounds acts × (run.ended ≡ ended)
