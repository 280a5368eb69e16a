-- Where a replay stands between two lines of the schedule, and where it stops. `input` is the text from its beginning and `left`
-- what the source has left of it; `held` and `held_now` are what the sink held when the replay began and holds now.
use Rattle.std.specs.Prelude.{Bool, true, false, ◌≡◌, ℕ, ◌≤◌, ◌+◌, if◌then◌else◌, List, [], ◌++◌, Option, None, Result, Ok, Err, IfErr, ⊤}
use Rattle.std.specs.Io.KnownBytes.{IsAtEnd, Consumes}
use Rattle.lk_names.specs.declared.events.Act.{Act}
use Rattle.lk_text.specs.Causes.{Rose}
use Rattle.lk_text.specs.Bytes.{AppendsFront, Conveys}
use Rattle.lk_text.specs.Block.{waiting}
use Rattle.lk_text.specs.Reader.{kept, lines_given}
use Rattle.lk_rows.specs.declared.setup.Setup.{Setup}
use Rattle.lk_forms.specs.Grammar.{has_go, has_end}
use Rattle.lk_forms.specs.Trace.{Trace, Good, Refused, Says, reading_after, setup_of, acts_of, setup_in, acts_in, whole_lines}
use Rattle.lk_forms.specs.declared.answers.LineRefusal.{LineRefusal}
use Rattle.lk_forms.specs.declared.answers.LineRefusal.TheVariants.{Bad, Limit}
use Rattle.lk_forms.specs.declared.answers.Fault.TheVariants.{NoEnd}
use Rattle.lk_forms.specs.declared.answers.Which.TheVariants.{Line, Input}
use Rattle.lk_text.specs.declared.reader.LineFault.{LineFault}
use Rattle.lk_text.specs.declared.reader.LineFault.TheVariants.{ReadFault, TooLong, TooMuch}
use Rattle.lk_replay.specs.Transcript.{lines_of_run}
use Rattle.lk_replay.specs.Reads.{ReadsTo}
use Rattle.lk_forms.specs.Headers.{EndsAtGo}
use Rattle.lk_replay.specs.Run.{CanGoOn, RanTo}
use Rattle.lk_replay.specs.Outcome.{full_text}
use Rattle.lk_replay.specs.declared.answers.RunFault.{RunFault}
use Rattle.lk_replay.specs.declared.answers.RunFault.TheVariants as fault
use Rattle.lk_replay.specs.declared.replaying.Replaying.{Replaying}

-- After these lines of the text: it was looked at so far, its acts so far were made, and what happened in them was written or
-- waits.
pub record Stands (input held : Option (List ℕ)) (replayer : Replaying) (left held_now : Option (List ℕ)) : Type 0 where
  pub before : List (List ℕ)
  pub reads : ReadsTo input replayer.reader left before
  pub gone : has_go (reading_after before) ≡ true
  pub ended : replayer.ended ≡ has_end (reading_after before)
  pub ran : RanTo replayer.run (setup_of before) (acts_of before)
  pub written : Conveys held held_now [] (lines_of_run (setup_of before) (acts_of before)) (waiting replayer.block)

-- the line `go` was the last that was read
pub record OpensAtGo (input : Option (List ℕ)) (replayer : Replaying) (left : Option (List ℕ)) : Type 0 where
  pub before : List (List ℕ)
  pub reads : ReadsTo input replayer.reader left before
  pub gone : has_go (reading_after before) ≡ true
  pub last : EndsAtGo before

-- the next line can be read, and its acts be made
pub record IsOpen (replayer : Replaying) : Type 0 where
  pub kept : kept replayer.reader ≡ None
  pub ready : CanGoOn replayer.run

-- the text says something with this setup, and with these acts first
pub record SaysFrom (input : Option (List ℕ)) (setup : Setup) (acts : List Act) : Type 0 where
  pub said : Trace
  pub says : Says input said
  pub more : List Act
  pub setup_is : setup_in said ≡ setup
  pub whole : acts_in said ≡ acts ++ more

-- the text has ended, and it was a trace
pub record StopsAtEnd (input held : Option (List ℕ)) (replayer : Replaying) (left held_now : Option (List ℕ)) : Type 0 where
  pub setup : Setup
  pub acts : List Act
  pub good : Says input (Good setup acts)
  pub over : IsAtEnd left
  pub ran : RanTo replayer.run setup acts
  pub written : Conveys held held_now [] (lines_of_run setup acts) (waiting replayer.block)

-- the text is refused at this line
pub record StopsRefused (input held : Option (List ℕ)) (replayer : Replaying) (held_now : Option (List ℕ)) (line : ℕ) (why : LineRefusal) : Type 0 where
  pub setup : Setup
  pub acts : List Act
  pub refused : Says input (Refused line why setup acts)
  pub written : Conveys held held_now [] (lines_of_run setup acts) (waiting replayer.block)

-- a read failed
pub record StopsAtRead (input held : Option (List ℕ)) (replayer : Replaying) (left held_now : Option (List ℕ)) : Type 0 where
  pub taken : List ℕ
  pub consumed : Consumes input left taken
  pub from : SaysFrom input (setup_of (whole_lines taken)) (acts_of (whole_lines taken))
  pub written : Conveys held held_now [] (lines_of_run (setup_of (whole_lines taken)) (acts_of (whole_lines taken))) (waiting replayer.block)

-- a write failed
pub record FailsAt (input held held_now : Option (List ℕ)) : Type 0 where
  pub said : Trace
  pub says : Says input said
  pub written : AppendsFront held held_now (full_text said)

-- why the replay stops before the end
abbrev pub FaultStops : Option (List ℕ) → Option (List ℕ) → Replaying → Option (List ℕ) → Option (List ℕ) → RunFault → Type 0
FaultStops input held replayer left held_now (fault.BadInput line why) = StopsRefused input held replayer held_now line (Bad why)
FaultStops input held replayer left held_now (fault.Limit line which) = StopsRefused input held replayer held_now line (Limit which)
FaultStops input held replayer left held_now fault.ReadFault = StopsAtRead input held replayer left held_now
FaultStops input held replayer left held_now fault.WriteFault = FailsAt input held held_now

-- what one line more comes to: the replay goes on, has ended, or stops
abbrev pub TurnsTo : Option (List ℕ) → Option (List ℕ) → Replaying → Option (List ℕ) → Option (List ℕ) → Result Bool RunFault → Type 0
TurnsTo input held replayer left held_now (Ok true) = Stands input held replayer left held_now
TurnsTo input held replayer left held_now (Ok false) = StopsAtEnd input held replayer left held_now
TurnsTo input held replayer left held_now (Err why) = FaultStops input held replayer left held_now why

-- where the replay stops
abbrev pub StopsAt : {T : Type 0} → Option (List ℕ) → Option (List ℕ) → Replaying → Option (List ℕ) → Option (List ℕ) → Result T RunFault → Type 0
StopsAt input held replayer left held_now (Ok all) = StopsAtEnd input held replayer left held_now
StopsAt input held replayer left held_now (Err why) = FaultStops input held replayer left held_now why

-- which count of faults rose where a run answers a fault; `reads` and `writes` are those of the source and of the sink
abbrev pub FaultRose : ℕ → ℕ → ℕ → ℕ → RunFault → Type 0
FaultRose reads reads_now writes writes_now fault.ReadFault = Rose reads reads_now
FaultRose reads reads_now writes writes_now fault.WriteFault = Rose writes writes_now
FaultRose reads reads_now writes writes_now _ = ⊤

-- no count fell, and a fault of reading or writing comes only where its count rose
pub record HasCauses {T : Type 0} (reads reads_now writes writes_now : ℕ) (result : Result T RunFault) : Type 0 where
  pub reads_later : reads ≤ reads_now
  pub writes_later : writes ≤ writes_now
  pub rose : IfErr result (FaultRose reads reads_now writes writes_now)

-- what a fault of the reader means at this line
abbrev pub cut_at : ℕ → LineFault → RunFault
cut_at line ReadFault = fault.ReadFault
cut_at line TooLong = fault.Limit line Line
cut_at line TooMuch = fault.Limit line Input

-- what the end of the input means
abbrev pub end_of : Replaying → Result Bool RunFault
end_of replayer = if replayer.ended then Ok false else Err (fault.BadInput (lines_given replayer.reader + 1) NoEnd)
