-- What each answer of an audit means, by what is seen of its source and its sink before it and
-- after it.
use Rattle.std.specs.Prelude.{◌≡◌, ℕ, List, Option, Result, Ok, Err, length}
use Rattle.std.specs.Io.KnownBytes.{Appends, IsAtEnd, Keeps}
use Rattle.lk_names.specs.declared.events.Breach.{Breach}
use Rattle.lk_text.specs.Causes.{Rose}
use Rattle.lk_text.specs.Bytes.{AppendsFront}
use Rattle.lk_forms.specs.declared.answers.LineRefusal.{LineRefusal}
use Rattle.lk_forms.specs.declared.answers.LineRefusal.TheVariants.{Bad, Limit, Memory}
use Rattle.lk_stream.specs.Grammar.{Good, Refused, Says}
use Rattle.lk_stream.specs.Outside.{Outside}
use Rattle.lk_audit_forms.specs.Grammar.{Said, audit_grammar, lawful_text}
use Rattle.lk_audit_forms.specs.Texts.{name_of, breach_text}
use Rattle.lk_audit.specs.Lawful.{IsLawfulSo, Breaks}
use Rattle.lk_audit.specs.declared.answers.AuditFault.{AuditFault}
use Rattle.lk_audit.specs.declared.answers.AuditFault.TheVariants as fault

-- The text is an accepted header, a history and its closing lines; the history is lawful; the text
-- was read to its end, and the line `lawful e` was written.
pub record IsAccepted (old new : Outside) (events : ℕ) : Type 0 where
  pub said : Said
  pub good : Says audit_grammar old.left (Good said)
  pub lawful : IsLawfulSo said
  pub counted : events ≡ length said.history
  pub all_read : IsAtEnd new.left
  pub written : Appends old.held new.held (lawful_text events)

-- the text is refused at this line, the history before it is lawful, and nothing was written
pub record IsRefused (old new : Outside) (line : ℕ) (why : LineRefusal) : Type 0 where
  pub said : Said
  pub refused : Says audit_grammar old.left (Refused line why said)
  pub lawful : IsLawfulSo said
  pub unwritten : Keeps old.held new.held

-- this line breaks the history, and the line `breach n Name` was written
pub record HasBreach (old new : Outside) (line : ℕ) (breach : Breach) : Type 0 where
  pub breaks : Breaks old.left line breach
  pub written : Appends old.held new.held (breach_text line (name_of breach))

-- a read failed, and nothing was written
pub record CutByRead (old new : Outside) : Type 0 where
  pub rose : Rose old.reads new.reads
  pub unwritten : Keeps old.held new.held

-- what an audit of the text is to write, if it is to write this
pub data Verdict (input : Option (List ℕ)) : List ℕ → Type 0 where
  Lawful : (said : Said) → Says audit_grammar input (Good said) → IsLawfulSo said
      → Verdict input (lawful_text (length said.history))
  Unlawful : (line : ℕ) (breach : Breach) → Breaks input line breach
      → Verdict input (breach_text line (name_of breach))

-- a write failed, and a front of the one line was written
pub record CutByWrite (old new : Outside) : Type 0 where
  pub rose : Rose old.writes new.writes
  pub text : List ℕ
  pub verdict : Verdict old.left text
  pub written : AppendsFront old.held new.held text

-- the meaning of each answer
abbrev pub Outcome : Outside → Outside → Result ℕ AuditFault → Type 0
Outcome old new (Ok events) = IsAccepted old new events
Outcome old new (Err (fault.BadInput line why)) = IsRefused old new line (Bad why)
Outcome old new (Err (fault.Limit line which)) = IsRefused old new line (Limit which)
Outcome old new (Err (fault.Breach line name)) =
    (breach : Breach) × (name ≡ name_of breach) × HasBreach old new line breach
Outcome old new (Err fault.ReadFault) = CutByRead old new
Outcome old new (Err fault.WriteFault) = CutByWrite old new
Outcome old new (Err fault.Memory) = Keeps old.held new.held

-- the answer where a line is refused
abbrev pub refused_fault : ℕ → LineRefusal → AuditFault
refused_fault line (Bad why) = fault.BadInput line why
refused_fault line (Limit which) = fault.Limit line which
refused_fault line Memory = fault.Memory
