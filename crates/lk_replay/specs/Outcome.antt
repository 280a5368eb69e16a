-- What each answer of a replay means, by what is seen of its source and its sink before it and after it.
use Rattle.std.specs.Prelude.{◌≡◌, ℕ, List, Result, Ok, Err, length}
use Rattle.std.specs.Io.KnownBytes.{Appends, Consumes, IsAtEnd, Keeps}
use Rattle.lk_names.specs.declared.events.Act.{Act}
use Rattle.lk_names.specs.Lawful.{IsLawful}
use Rattle.lk_text.specs.Causes.{Rose}
use Rattle.lk_text.specs.Bytes.{AppendsFront}
use Rattle.lk_rows.specs.declared.setup.Setup.{Setup}
use Rattle.lk_rows.specs.Run.{events_of}
use Rattle.lk_rows.specs.Rules.{rules_of}
use Rattle.lk_forms.specs.Trace.{Trace, Good, Refused, Says, setup_of, acts_of, whole_lines}
use Rattle.lk_forms.specs.declared.answers.LineRefusal.{LineRefusal}
use Rattle.lk_forms.specs.declared.answers.LineRefusal.TheVariants.{Bad, Limit}
use Rattle.lk_stream.specs.Outside.{Outside}
use Rattle.lk_replay.specs.Transcript.{history_of_run, counts_of_run, lines_of_run, transcript}
use Rattle.lk_replay.specs.declared.answers.Summary.{Summary}
use Rattle.lk_stream.specs.declared.answers.ReplayFault.{ReplayFault}
use Rattle.lk_stream.specs.declared.answers.ReplayFault.TheVariants as fault
use Rattle.lk_replay.specs.declared.answers.RunFault.{RunFault}
use Rattle.lk_replay.specs.declared.answers.RunFault.TheVariants as run

-- The text was a trace, it was read to its end, its whole transcript was written, and the summary is that of the run; and the
-- history of the run is lawful.
pub record Replayed (old new : Outside) (summary : Summary) : Type 0 where
  pub setup : Setup
  pub acts : List Act
  pub good : Says old.left (Good setup acts)
  pub all_read : IsAtEnd new.left
  pub written : Appends old.held new.held (transcript setup acts)
  pub acts_made : summary.acts ≡ length acts
  pub events : summary.events ≡ length (history_of_run setup acts)
  pub counts : summary.counts ≡ counts_of_run setup acts
  pub lawful : IsLawful (rules_of setup) (events_of (history_of_run setup acts))

-- the text is refused at this line, and the lines of the acts before it were written
pub record RefusedAt (old new : Outside) (line : ℕ) (why : LineRefusal) : Type 0 where
  pub setup : Setup
  pub acts : List Act
  pub refused : Says old.left (Refused line why setup acts)
  pub written : Appends old.held new.held (lines_of_run setup acts)

-- a read failed, and the lines of the acts of the whole lines that were taken were written
pub record CutByRead (old new : Outside) : Type 0 where
  pub rose : Rose old.reads new.reads
  pub taken : List ℕ
  pub consumed : Consumes old.left new.left taken
  pub written : Appends old.held new.held (lines_of_run (setup_of (whole_lines taken)) (acts_of (whole_lines taken)))

-- all that is written for a text: the closing lines stand only behind a whole trace
abbrev pub full_text : Trace → List ℕ
full_text (Good setup acts) = transcript setup acts
full_text (Refused line why setup acts) = lines_of_run setup acts

-- a write failed, and a front of what is written for the text was written
pub record CutByWrite (old new : Outside) : Type 0 where
  pub rose : Rose old.writes new.writes
  pub said : Trace
  pub says : Says old.left said
  pub written : AppendsFront old.held new.held (full_text said)

-- there was no memory, and nothing was written
pub record Unwritten (old new : Outside) : Type 0 where
  pub not_written : Keeps old.held new.held

-- the meaning of each answer
abbrev pub Outcome : Outside → Outside → Result Summary ReplayFault → Type 0
Outcome old new (Ok summary) = Replayed old new summary
Outcome old new (Err (fault.BadInput line why)) = RefusedAt old new line (Bad why)
Outcome old new (Err (fault.Limit line which)) = RefusedAt old new line (Limit which)
Outcome old new (Err fault.ReadFault) = CutByRead old new
Outcome old new (Err fault.WriteFault) = CutByWrite old new
Outcome old new (Err fault.Memory) = Unwritten old new

-- the fault of a run, as one of a replay
abbrev pub as_replay_fault : RunFault → ReplayFault
as_replay_fault (run.BadInput line why) = fault.BadInput line why
as_replay_fault (run.Limit line which) = fault.Limit line which
as_replay_fault run.ReadFault = fault.ReadFault
as_replay_fault run.WriteFault = fault.WriteFault

-- the answer of a run, as one of a replay
abbrev pub as_replay : Result Summary RunFault → Result Summary ReplayFault
as_replay (Ok summary) = Ok summary
as_replay (Err why) = Err (as_replay_fault why)
