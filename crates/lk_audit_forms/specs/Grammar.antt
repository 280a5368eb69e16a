-- What the lines of an audited text say: the header of a trace, then a history, then its closing
-- lines.
use Rattle.std.specs.Prelude.{ℕ, ◌==◌, ◌+◌, List, [], ◌∷◌, ◌++◌, Option, None, Some, Result, Ok, Err, length, codes, decimal, if◌then◌else◌}
use Rattle.lk_rows.specs.Run.{Occurrence}
use Rattle.lk_forms.specs.Grammar.{Reading, nothing_read, has_go}
use Rattle.lk_forms.specs.declared.answers.Fault.{Fault}
use Rattle.lk_forms.specs.declared.answers.LineRefusal.{LineRefusal}
use Rattle.lk_forms.specs.declared.answers.LineRefusal.TheVariants.{Bad}
use Rattle.lk_stream.specs.Grammar.{Grammar}
use Rattle.lk_audit_forms.specs.Closing.{closing_lines, line_told}
use Rattle.lk_audit_forms.specs.declared.answers.Told.{Told}
use Rattle.lk_audit_forms.specs.declared.answers.Told.TheVariants as told
use Rattle.lk_forms.specs.Grammar.{read as read_header, ending as header_ending}

-- what the header says, the history so far, and how many closing lines there were
pub record Said : Type 0 where
  pub header : Reading
  pub history : List Occurrence
  pub closed : ℕ

abbrev pub in_header : Reading → Said
in_header r = record { header = r; history = []; closed = 0 }

abbrev pub nothing_said : Said
nothing_said = in_header nothing_read

-- the number of the last act in which something happened, or 0
abbrev pub last_act : List Occurrence → ℕ
last_act [] = 0
last_act (o ∷ []) = o.act
last_act (o ∷ p ∷ os) = last_act (p ∷ os)

-- with what one line more tells
abbrev pub with_told : Said → Told → Said
with_told said (told.Event act event) =
    record said { history = said.history ++ record { act = act; event = event } ∷ [] }
with_told said told.End = record said { closed = 1 }
with_told said told.Count = record said { closed = said.closed + 1 }

abbrev pub said_on : Said → Result Told Fault → Result Said LineRefusal
said_on said (Ok more) = Ok (with_told said more)
said_on said (Err fault) = Err (Bad fault)

abbrev pub header_on : Said → Result Reading LineRefusal → Result Said LineRefusal
header_on said (Ok r) = Ok (record said { header = r })
header_on said (Err why) = Err why

-- what has been said with one more line, without its line feed; or why the line is refused
abbrev pub read : Said → List ℕ → Result Said LineRefusal
read said line =
    if has_go said.header then
    said_on said (line_told said.header.setup (last_act said.history) said.closed line)
    else header_on said (read_header said.header line)

-- what is wrong where the text ends
abbrev pub ending : Said → Option Fault
ending said = if said.closed == closing_lines then None else Some (header_ending said.header)

-- `lawful e`
abbrev pub lawful_text : ℕ → List ℕ
lawful_text events = codes "lawful " ++ (decimal events ++ codes "\n")

-- what an audited text says: nothing is written for it before its end
abbrev pub audit_grammar : Grammar Said
audit_grammar =
    record {
      start = nothing_said;
      read = read;
      ending = ending;
      text = λ said. [];
      closing = λ said. lawful_text (length said.history);
    }
