-- Where a reading stands between two lines, and where it stops. `input` is the text from its
-- beginning and `left` what the source has left of it; `held` and `held_now` are what the sink held
-- when the reading began and holds now; `waits` is what waits for it.
use Rattle.std.specs.Prelude.{Bool, true, false, ◌≡◌, ◌≤◌, ℕ, List, [], ◌++◌, Option, None, Some, Result, Ok, Err, IfErr, ⊤}
use Rattle.std.specs.Io.KnownBytes.{IsAtEnd, Consumes, Keeps}
use Rattle.lk_text.specs.Causes.{Rose}
use Rattle.lk_text.specs.Bytes.{AppendsFront, Conveys}
use Rattle.lk_text.specs.declared.reader.LineReader.{LineReader}
use Rattle.lk_text.specs.declared.reader.LineFault.{LineFault}
use Rattle.lk_text.specs.declared.reader.LineFault.TheVariants.{ReadFault, TooLong, TooMuch}
use Rattle.lk_forms.specs.declared.answers.Fault.{Fault}
use Rattle.lk_forms.specs.declared.answers.LineRefusal.{LineRefusal}
use Rattle.lk_forms.specs.declared.answers.LineRefusal.TheVariants.{Bad, Limit}
use Rattle.lk_forms.specs.declared.answers.Which.TheVariants.{Line, Input}
use Rattle.lk_forms.specs.Trace.{whole_lines}
use Rattle.lk_stream.specs.Grammar.{Grammar, Place, Saying, Good, Refused, Says, text_of, place_after}
use Rattle.lk_stream.specs.Reads.{ReadsTo}
use Rattle.lk_stream.specs.declared.answers.ReplayFault.{ReplayFault}
use Rattle.lk_stream.specs.declared.answers.ReplayFault.TheVariants as fault

-- the lines so far were read, the script shows what they say, and what they write was written or
-- waits
pub record Stands {S : Type 0} (g : Grammar S) (shows : S → Type 0) (input held : Option (List ℕ))
    (reader : LineReader) (waits : List ℕ) (left held_now : Option (List ℕ)) : Type 0 where
  pub place : Place S
  pub reads : ReadsTo g input reader left place
  pub shown : shows place.said
  pub written : Conveys held held_now [] (g.text place.said) waits

-- the text has ended, and it was good
pub record StopsAtEnd {S : Type 0} (g : Grammar S) (shows : S → Type 0)
    (input held : Option (List ℕ)) (waits : List ℕ) (left held_now : Option (List ℕ)) : Type 0 where
  pub said : S
  pub ends : g.ending said ≡ None
  pub good : Says g input (Good said)
  pub over : IsAtEnd left
  pub shown : shows said
  pub written : Conveys held held_now [] (g.text said) waits

-- the text is refused at this line
pub record StopsRefused {S : Type 0} (g : Grammar S) (input held : Option (List ℕ)) (waits : List ℕ)
    (held_now : Option (List ℕ)) (line : ℕ) (why : LineRefusal) : Type 0 where
  pub said : S
  pub refused : Says g input (Refused line why said)
  pub written : Conveys held held_now [] (g.text said) waits

-- the text says something, and its whole text begins with this
pub record SaysFrom {S : Type 0} (g : Grammar S) (input : Option (List ℕ))
    (text : List ℕ) : Type 0 where
  pub saying : Saying S
  pub says : Says g input saying
  pub more : List ℕ
  pub whole : text_of g saying ≡ text ++ more

-- a read failed
pub record StopsAtRead {S : Type 0} (g : Grammar S) (input held : Option (List ℕ)) (waits : List ℕ)
    (left held_now : Option (List ℕ)) : Type 0 where
  pub taken : List ℕ
  pub consumed : Consumes input left taken
  pub from : SaysFrom g input (g.text (place_after g (whole_lines taken)).said)
  pub written : Conveys held held_now [] (g.text (place_after g (whole_lines taken)).said) waits

-- a write failed
pub record FailsAt {S : Type 0} (g : Grammar S)
    (input held held_now : Option (List ℕ)) : Type 0 where
  pub saying : Saying S
  pub says : Says g input saying
  pub written : AppendsFront held held_now (text_of g saying)

-- why the reading stops before the end
abbrev pub FaultStops : {S : Type 0} → Grammar S → Option (List ℕ) → Option (List ℕ) → List ℕ
    → Option (List ℕ) → Option (List ℕ) → ReplayFault → Type 0
FaultStops g input held waits left held_now (fault.BadInput line why) =
    StopsRefused g input held waits held_now line (Bad why)
FaultStops g input held waits left held_now (fault.Limit line which) =
    StopsRefused g input held waits held_now line (Limit which)
FaultStops g input held waits left held_now fault.ReadFault =
    StopsAtRead g input held waits left held_now
FaultStops g input held waits left held_now fault.WriteFault = FailsAt g input held held_now
FaultStops g input held waits left held_now fault.Memory = Keeps held held_now

-- what one line more comes to: the reading goes on, has ended, or stops
abbrev pub TurnsTo : {S : Type 0} → Grammar S → (S → Type 0) → Option (List ℕ) → Option (List ℕ)
    → LineReader → List ℕ → Option (List ℕ) → Option (List ℕ) → Result Bool ReplayFault → Type 0
TurnsTo g shows input held reader waits left held_now (Ok true) =
    Stands g shows input held reader waits left held_now
TurnsTo g shows input held reader waits left held_now (Ok false) =
    StopsAtEnd g shows input held waits left held_now
TurnsTo g shows input held reader waits left held_now (Err why) =
    FaultStops g input held waits left held_now why

-- where the reading stops
abbrev pub StopsAt : {T S : Type 0} → Grammar S → (S → Type 0) → Option (List ℕ) → Option (List ℕ)
    → List ℕ → Option (List ℕ) → Option (List ℕ) → Result T ReplayFault → Type 0
StopsAt g shows input held waits left held_now (Ok t) =
    StopsAtEnd g shows input held waits left held_now
StopsAt g shows input held waits left held_now (Err why) =
    FaultStops g input held waits left held_now why

-- which count of faults rose where a fault is answered; `reads` and `writes` are those of the
-- source and of the sink
abbrev pub FaultRose : ℕ → ℕ → ℕ → ℕ → ReplayFault → Type 0
FaultRose reads reads_now writes writes_now fault.ReadFault = Rose reads reads_now
FaultRose reads reads_now writes writes_now fault.WriteFault = Rose writes writes_now
FaultRose reads reads_now writes writes_now _ = ⊤

-- no count fell, and a fault of reading or writing comes only where its count rose
pub record HasCauses {T : Type 0} (reads reads_now writes writes_now : ℕ)
    (result : Result T ReplayFault) : Type 0 where
  pub reads_later : reads ≤ reads_now
  pub writes_later : writes ≤ writes_now
  pub rose : IfErr result (FaultRose reads reads_now writes writes_now)

-- what a fault of the reader means at this line
abbrev pub cut_at : ℕ → LineFault → ReplayFault
cut_at line ReadFault = fault.ReadFault
cut_at line TooLong = fault.Limit line Line
cut_at line TooMuch = fault.Limit line Input

-- what the end of the input means in place of this line
abbrev pub end_at : ℕ → Option Fault → Result Bool ReplayFault
end_at line None = Ok false
end_at line (Some why) = Err (fault.BadInput line why)
