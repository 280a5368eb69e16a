-- What a text says as a trace: its setup and acts, or the first line that is refused.
use Rattle.std.specs.Prelude.{◌≡◌, ℕ, ◌==◌, ◌+◌, ◌&&◌, nat_lt, nat_le, List, [], ◌∷◌, ◌++◌, Option, None, Some, length, map, IfSome, if◌then◌else◌}
use Rattle.std.specs.List.{flat_map}
use Rattle.lk_names.specs.declared.events.Act.{Act}
use Rattle.lk_rows.specs.declared.setup.Setup.{Setup}
use Rattle.lk_text.specs.Feeds.{pieces, line_of}
use Rattle.lk_text.specs.declared.reader.TheConstants.{MAX_INPUT, MAX_LINE}
use Rattle.lk_forms.specs.Grammar.{Reading, reading_of, refusal_of_line, has_end, ending}
use Rattle.lk_forms.specs.declared.answers.Which.TheVariants.{Line, Input}
use Rattle.lk_forms.specs.declared.answers.LineRefusal.{LineRefusal}
use Rattle.lk_forms.specs.declared.answers.LineRefusal.TheVariants.{Bad, Limit}

-- A piece is a line with its line feed.

-- what the lines of these pieces say
abbrev pub reading_after : List (List ℕ) → Reading
reading_after before = reading_of (map line_of before)

-- their setup
abbrev pub setup_of : List (List ℕ) → Setup
setup_of before = (reading_after before).setup

-- their acts
abbrev pub acts_of : List (List ℕ) → List Act
acts_of before = (reading_after before).acts

-- all bytes of the pieces before one
abbrev pub bytes_of : List (List ℕ) → List ℕ
bytes_of before = flat_map (λ piece. piece) before

-- Why a line is refused behind these pieces: it passes a limit of bytes, or fails a check of the grammar.
abbrev pub refusal : List (List ℕ) → List ℕ → Option LineRefusal
refusal before piece =
    let start = length (bytes_of before) in
    if nat_lt MAX_LINE (length (line_of piece)) && nat_le (start + MAX_LINE) MAX_INPUT then Some (Limit Line)
    else if nat_lt MAX_INPUT (start + length piece) then Some (Limit Input)
    else refusal_of_line (map line_of before) (line_of piece)

-- a trace is good, and has a setup and acts; or it is refused at a line, and has the setup and the acts of the lines before it
pub data Trace : Type 0 where
  Good : Setup → List Act → Trace
  Refused : ℕ → LineRefusal → Setup → List Act → Trace

-- the line is refused, or what the rest says holds
abbrev pub unless_refused : Option LineRefusal → ℕ → Setup → List Act → Trace → Trace
unless_refused None line setup acts rest = rest
unless_refused (Some why) line setup acts rest = Refused line why setup acts

-- the end of the text: behind the line `end`, or too early
abbrev pub trace_end : List (List ℕ) → Trace
trace_end before =
    if has_end (reading_after before) then Good (setup_of before) (acts_of before)
    else Refused (length before + 1) (Bad (ending (reading_after before))) (setup_of before) (acts_of before)

-- what the pieces say that stand behind these ones
abbrev pub trace_from : List (List ℕ) → List (List ℕ) → Trace
trace_from before [] = trace_end before
trace_from before (piece ∷ rest) =
    unless_refused (refusal before piece) (length before + 1) (setup_of before) (acts_of before) (trace_from (before ++ piece ∷ []) rest)

-- what a text says
abbrev pub trace : List ℕ → Trace
trace bytes = trace_from [] (pieces bytes)

-- a known text says this
abbrev pub Says : Option (List ℕ) → Trace → Type 0
Says known said = IfSome known (λ bytes. trace bytes ≡ said)

-- the setup that a trace has
abbrev pub setup_in : Trace → Setup
setup_in (Good setup acts) = setup
setup_in (Refused line why setup acts) = setup

-- the acts that a trace has
abbrev pub acts_in : Trace → List Act
acts_in (Good setup acts) = acts
acts_in (Refused line why setup acts) = acts

-- a byte in front of the first piece, if there is one
abbrev pub onto_some : ℕ → List (List ℕ) → List (List ℕ)
onto_some b [] = []
onto_some b (piece ∷ pieces) = (b ∷ piece) ∷ pieces

-- the lines of a text that end with a line feed
abbrev pub whole_lines : List ℕ → List (List ℕ)
whole_lines [] = []
whole_lines (b ∷ bytes) = if b == 10 then (b ∷ []) ∷ whole_lines bytes else onto_some b (whole_lines bytes)
