-- What is written for a run.
use Rattle.std.specs.Prelude.{ℕ, List, ◌++◌, length}
use Rattle.lk_names.specs.declared.events.Act.{Act}
use Rattle.lk_rows.specs.declared.setup.Setup.{Setup}
use Rattle.lk_rows.specs.declared.parts.Counts.{Counts}
use Rattle.lk_rows.specs.Run.{Occurrence, at_rest, history, machine_after}
use Rattle.lk_forms.specs.Texts.{lines, closing}

-- what happens in these acts, made on the setup's machine from rest
abbrev pub history_of_run : Setup → List Act → List Occurrence
history_of_run setup acts = history (at_rest setup) acts

-- how often that run took each of the ten counted ways
abbrev pub counts_of_run : Setup → List Act → Counts
counts_of_run setup acts = (machine_after (at_rest setup) acts).counts

-- the lines of the events of that run
abbrev pub lines_of_run : Setup → List Act → List ℕ
lines_of_run setup acts = lines (history_of_run setup acts)

-- all that is written for it: the lines of its events, and the closing lines
abbrev pub transcript : Setup → List Act → List ℕ
transcript setup acts = lines_of_run setup acts ++ closing (length acts) (counts_of_run setup acts)
