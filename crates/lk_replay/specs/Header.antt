-- Where the header of a trace stands between two lines, and why there is no replayer. `input` is the text from its beginning and
-- `left` what the source has left of it; `reads` and `reads_now` are its counts of faults.
use Rattle.std.specs.Prelude.{◌≡◌, ◌≤◌, ◌+◌, ◌++◌, ℕ, true, false, List, [], length, Option, None, Some, Result, Ok, Err, ⊤}
use Rattle.std.specs.Io.KnownBytes.{Consumes}
use Rattle.lk_text.specs.Causes.{Rose}
use Rattle.lk_text.specs.Feeds.{pieces}
use Rattle.lk_text.specs.declared.reader.LineReader.{LineReader}
use Rattle.lk_rows.specs.declared.setup.Setup.{Setup}
use Rattle.lk_forms.specs.Grammar.{Reading, last_rank, has_go}
use Rattle.lk_forms.specs.Headers.{EndsAtGo}
use Rattle.lk_forms.specs.Trace.{Refused, Says, reading_after, acts_of, whole_lines}
use Rattle.lk_forms.specs.declared.answers.HeaderStep.{HeaderStep}
use Rattle.lk_forms.specs.declared.answers.LineRefusal.{LineRefusal}
use Rattle.lk_forms.specs.declared.answers.LineRefusal.TheVariants.{Bad, Limit}
use Rattle.lk_replay.specs.Reads.{ReadsTo}
use Rattle.lk_stream.specs.declared.answers.ReplayFault.{ReplayFault}
use Rattle.lk_stream.specs.declared.answers.ReplayFault.TheVariants as fault

-- no line before the one of this number is `go`
abbrev pub IsInHeader : Option (List ℕ) → ℕ → Type 0
IsInHeader None line = ⊤
IsInHeader (Some bytes) line = (before : List (List ℕ)) × (rest : List (List ℕ)) × (pieces bytes ≡ before ++ rest)
    × (line ≡ length before + 1) × (has_go (reading_after before) ≡ false)

-- the header says what the lines so far say, none of which stands behind `go`
pub record HeaderStands (input : Option (List ℕ)) (header : Reading) (reader : LineReader) (left : Option (List ℕ)) : Type 0 where
  pub before : List (List ℕ)
  pub reads : ReadsTo input reader left before
  pub said : reading_after before ≡ header
  pub no_acts : acts_of before ≡ []
  pub early : last_rank (reading_after before) ≤ 9
  pub at_go : has_go header ≡ true → EndsAtGo before

-- the text is refused at this line of its header
pub record HeaderRefused (input : Option (List ℕ)) (line : ℕ) (why : LineRefusal) : Type 0 where
  pub setup : Setup
  pub refused : Says input (Refused line why setup [])
  pub header : IsInHeader input line

-- a read failed in the header
pub record HeaderCut (input left : Option (List ℕ)) (reads reads_now : ℕ) : Type 0 where
  pub rose : Rose reads reads_now
  pub taken : List ℕ
  pub consumed : Consumes input left taken
  pub no_acts : acts_of (whole_lines taken) ≡ []
  pub header : has_go (reading_after (whole_lines taken)) ≡ false

-- why there is no replayer
abbrev pub OpenRefused : Option (List ℕ) → Option (List ℕ) → ℕ → ℕ → ReplayFault → Type 0
OpenRefused input left reads reads_now (fault.BadInput line why) = HeaderRefused input line (Bad why)
OpenRefused input left reads reads_now (fault.Limit line which) = HeaderRefused input line (Limit which)
OpenRefused input left reads reads_now fault.ReadFault = HeaderCut input left reads reads_now
OpenRefused input left reads reads_now fault.WriteFault = ⊥
OpenRefused input left reads reads_now fault.Memory = ⊤

-- what one line more of the header comes to
abbrev pub HeaderTurns : Option (List ℕ) → Reading → LineReader → Option (List ℕ) → ℕ → ℕ → Result HeaderStep ReplayFault → Type 0
HeaderTurns input header reader left reads reads_now (Ok step) = HeaderStands input header reader left
HeaderTurns input header reader left reads reads_now (Err why) = OpenRefused input left reads reads_now why
