-- The lines behind `go`: those of events, and then the eleven closing ones.
use Rattle.std.specs.Prelude.{ℕ, ◌==◌, ◌-◌, ◌&&◌, nat_le, nat_lt, List, [], ◌∷◌, Option, None, Some, Result, Ok, Err, is_some, codes, if◌then◌else◌}
use Rattle.std.specs.Str.{bytes_eq}
use Rattle.lk_names.specs.declared.events.Event.{Event}
use Rattle.lk_rows.specs.declared.setup.Setup.{Setup}
use Rattle.lk_forms.specs.declared.limits.TheConstants.{MAX_ACTS}
use Rattle.lk_forms.specs.declared.answers.Fault.{Fault}
use Rattle.lk_forms.specs.declared.answers.Fault.TheVariants.{UnknownWord, OutOfRange, Misplaced}
use Rattle.lk_forms.specs.Texts.{count_name}
use Rattle.lk_audit_forms.specs.Parts.{spaced, if_some, one_word, two_words, plain_number}
use Rattle.lk_audit_forms.specs.Ranges.{read_event}
use Rattle.lk_audit_forms.specs.declared.answers.Told.{Told}
use Rattle.lk_audit_forms.specs.declared.answers.Told.TheVariants as told

-- how many closing lines there are: `end`, and ten counts
abbrev pub closing_lines : ℕ
closing_lines = 11

-- so many acts: no fewer than the number of the last one, and not too many
abbrev pub end_number : ℕ → Option ℕ → Result Told Fault
end_number last None = Err UnknownWord
end_number last (Some n) = if nat_le last n && nat_le n MAX_ACTS then Ok told.End else Err OutOfRange

-- `end n`, by the words behind the first
abbrev pub end_args : ℕ → List (List ℕ) → Result Told Fault
end_args last args = end_number last (if_some (one_word args) plain_number)

abbrev pub as_told : Result (ℕ × Event) Fault → Result Told Fault
as_told (Ok both) = Ok (told.Event both.0 both.1)
as_told (Err fault) = Err fault

-- before the closing lines: `end n`, or an event
abbrev pub open_words : Setup → ℕ → List ℕ → List (List ℕ) → Result Told Fault
open_words s last line [] = Err UnknownWord
open_words s last line (first ∷ args) =
    if bytes_eq first (codes "end") then end_args last args else as_told (read_event s last line)

abbrev pub count_words : ℕ → Option (List ℕ × List ℕ) → Result Told Fault
count_words which None = Err UnknownWord
count_words which (Some both) =
    if bytes_eq both.0 (count_name which) && is_some (plain_number both.1) then Ok told.Count
    else Err UnknownWord

-- the count of this place, whatever its number
abbrev pub count_line : ℕ → List ℕ → Result Told Fault
count_line which line = count_words which (two_words (spaced line))

-- what a line tells behind so many closing ones, or why it is refused; `last` is the number of the
-- last act so far
abbrev pub line_told : Setup → ℕ → ℕ → List ℕ → Result Told Fault
line_told s last closed line =
    if closed == 0 then open_words s last line (spaced line)
    else if nat_lt closed closing_lines then count_line (closed - 1) line
    else Err Misplaced
