-- Where an audit stands between two lines, and where it stops. `input` is the text from its
-- beginning, and `left` what the source has left of it; `reads` and `reads_now` are its counts of
-- faults.
use Rattle.std.specs.Prelude.{◌≡◌, ℕ, List, Option, None, Some, Result, Ok, Err, Bool, true, false, length, ⊤}
use Rattle.std.specs.Io.KnownBytes.{IsAtEnd}
use Rattle.lk_names.specs.declared.events.Breach.{Breach}
use Rattle.lk_text.specs.Causes.{Rose}
use Rattle.lk_text.specs.declared.reader.LineReader.{LineReader}
use Rattle.lk_text.specs.declared.reader.LineFault.{LineFault}
use Rattle.lk_text.specs.declared.reader.LineFault.TheVariants.{ReadFault, TooLong, TooMuch}
use Rattle.lk_forms.specs.declared.answers.Which.TheVariants.{Line, Input}
use Rattle.lk_forms.specs.declared.answers.Fault.{Fault}
use Rattle.lk_forms.specs.declared.answers.LineRefusal.{LineRefusal}
use Rattle.lk_forms.specs.declared.answers.LineRefusal.TheVariants.{Bad, Limit}
use Rattle.lk_forms.specs.Grammar.{Reading, reading_of}
use Rattle.lk_stream.specs.Grammar.{Place, Good, Refused, Says}
use Rattle.lk_stream.specs.Reads.{ReadsTo}
use Rattle.lk_audit_forms.specs.Grammar.{Said, audit_grammar, ending}
use Rattle.lk_audit_forms.specs.Texts.{name_of}
use Rattle.lk_audit.specs.Lawful.{IsLawfulSo, Breaks}
use Rattle.lk_audit.specs.Auditor.{Shows}
use Rattle.lk_audit.specs.declared.answers.AuditFault.{AuditFault}
use Rattle.lk_audit.specs.declared.answers.AuditFault.TheVariants as fault
use Rattle.lk_audit.specs.declared.auditor.Auditor.{Auditor}

-- some lines of a header say this
abbrev pub IsSaid : Reading → Type 0
IsSaid header = (lines : List (List ℕ)) × (reading_of lines ≡ header)

-- the lines so far were read, and say this
pub record Stands (input : Option (List ℕ)) (reader : LineReader) (left : Option (List ℕ))
    (said : Said) : Type 0 where
  pub place : Place Said
  pub reads : ReadsTo audit_grammar input reader left place
  pub said_is : place.said ≡ said

-- the lines so far were read, and the auditor was told what they say
abbrev pub StandsBefore : Option (List ℕ) → LineReader → Option (List ℕ) → Auditor → Type 0
StandsBefore input reader left a = (said : Said) × Stands input reader left said × Shows a said

-- the text is good, and its history lawful
pub record StopsAtEnd (input left : Option (List ℕ)) (a : Auditor) : Type 0 where
  pub said : Said
  pub ends : ending said ≡ None
  pub good : Says audit_grammar input (Good said)
  pub over : IsAtEnd left
  pub shows : Shows a said

-- the text is refused at this line, and the history before it is lawful
pub record StopsRefused (input : Option (List ℕ)) (line : ℕ) (why : LineRefusal) : Type 0 where
  pub said : Said
  pub refused : Says audit_grammar input (Refused line why said)
  pub lawful : IsLawfulSo said

-- why an audit stops before the end
abbrev pub FaultStops : Option (List ℕ) → ℕ → ℕ → AuditFault → Type 0
FaultStops input reads reads_now (fault.BadInput line why) = StopsRefused input line (Bad why)
FaultStops input reads reads_now (fault.Limit line which) = StopsRefused input line (Limit which)
FaultStops input reads reads_now (fault.Breach line name) =
    (breach : Breach) × (name ≡ name_of breach) × Breaks input line breach
FaultStops input reads reads_now fault.ReadFault = Rose reads reads_now
FaultStops input reads reads_now fault.WriteFault = ⊥
FaultStops input reads reads_now fault.Memory = ⊤

-- what one line more comes to: the audit goes on, has ended, or stops
abbrev pub TurnsTo : Option (List ℕ) → LineReader → Option (List ℕ) → ℕ → ℕ → Auditor
    → Result Bool AuditFault → Type 0
TurnsTo input reader left reads reads_now a (Ok true) = StandsBefore input reader left a
TurnsTo input reader left reads reads_now a (Ok false) = StopsAtEnd input left a
TurnsTo input reader left reads reads_now a (Err why) = FaultStops input reads reads_now why

-- what a fault of the reader means at this line
abbrev pub cut_at : ℕ → LineFault → AuditFault
cut_at line ReadFault = fault.ReadFault
cut_at line TooLong = fault.Limit line Line
cut_at line TooMuch = fault.Limit line Input

-- what the end of the input means in place of this line
abbrev pub end_at : ℕ → Option Fault → Result Bool AuditFault
end_at line None = Ok false
end_at line (Some why) = Err (fault.BadInput line why)

-- what one line more of the header comes to
abbrev pub HeaderTurns : {T : Type 0} → Option (List ℕ) → LineReader → Option (List ℕ) → ℕ → ℕ
    → Said → Result T AuditFault → Type 0
HeaderTurns input reader left reads reads_now said (Ok t) = Stands input reader left said
HeaderTurns input reader left reads reads_now said (Err why) = FaultStops input reads reads_now why

-- where the lines behind the header stop
abbrev pub StopsAt : {T : Type 0} → Option (List ℕ) → Option (List ℕ) → ℕ → ℕ → Auditor
    → Result T AuditFault → Type 0
StopsAt input left reads reads_now a (Ok t) = StopsAtEnd input left a
StopsAt input left reads reads_now a (Err why) = FaultStops input reads reads_now why

-- the text was read to its end, and its history is lawful and has so many events
pub record IsJudged (input left : Option (List ℕ)) (events : ℕ) : Type 0 where
  pub said : Said
  pub good : Says audit_grammar input (Good said)
  pub over : IsAtEnd left
  pub lawful : IsLawfulSo said
  pub counted : events ≡ length said.history

-- what reading and judging a text comes to
abbrev pub JudgedTo : Option (List ℕ) → Option (List ℕ) → ℕ → ℕ → Result ℕ AuditFault → Type 0
JudgedTo input left reads reads_now (Ok events) = IsJudged input left events
JudgedTo input left reads reads_now (Err why) = FaultStops input reads reads_now why
