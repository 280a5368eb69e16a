-- What lines say: first those of the header, and behind `go` those of the schedule.
use Rattle.std.specs.Prelude.{ℕ, Bool, true, false, List, [], ◌∷◌, ◌++◌, Option, None, Some, Result, Ok, Err, length, replicate, if◌then◌else◌}
use Rattle.lk_forms.specs.Words.{words, is_text}
use Rattle.lk_forms.specs.Operations.{and_then, unless}
use Rattle.lk_forms.specs.declared.answers.Fault.{Fault}
use Rattle.lk_forms.specs.declared.answers.Fault.TheVariants.{NoFormat, NotText, UnknownWord, NoEnd}
use Rattle.lk_forms.specs.declared.answers.LineRefusal.{LineRefusal}
use Rattle.lk_forms.specs.declared.answers.LineRefusal.TheVariants.{Bad}
use Rattle.lk_osq.specs.Run.{Act}
use Rattle.lk_osq_forms.specs.Keywords.{keyword_of, rank_of, fault_of_place}
use Rattle.lk_osq_forms.specs.Lines.{line_by, header_args, is_format, schedule_of}
use Rattle.lk_osq_forms.specs.declared.keyword.Keyword.{Keyword}
use Rattle.lk_osq_forms.specs.declared.keyword.Keyword.TheVariants as keyword
use Rattle.lk_osq_forms.specs.declared.answers.Sched.{Sched}
use Rattle.lk_osq_forms.specs.declared.answers.Sched.TheVariants.{Blank, Run, End}

-- What lines have said: before `go` the rank of the last one with a keyword and the rounds; behind
-- it the rounds, the acts, and whether `end` was read.
pub data Said : Type 0 where
  Header : Option ℕ → List ℕ → Said
  Schedule : List ℕ → List Act → Bool → Said

-- before the first line: one processor, with no rounds
abbrev pub nothing_said : Said
nothing_said = Header None (0 ∷ [])

-- ---- the header

-- a line with this keyword was accepted, and the rounds are these
abbrev pub headed : Keyword → List ℕ → Said
headed keyword.Go rounds = Schedule rounds [] false
headed k rounds = Header (Some (rank_of k)) rounds

-- a line with a keyword, or without one, behind one of rank `last`
abbrev pub header_known : ℕ → List ℕ → Option Keyword → List (List ℕ) → Result Said LineRefusal
header_known last rounds None args = Err (Bad UnknownWord)
header_known last rounds (Some k) args =
    unless (fault_of_place last k) (and_then (header_args k rounds args) (λ rs. Ok (headed k rs)))

-- a line that is neither blank nor a comment: the first such line has to be the format's
abbrev pub header_ranked : Option ℕ → List ℕ → List ℕ → List (List ℕ) → Result Said LineRefusal
header_ranked None rounds first args =
    if is_format first args then Ok (Header (Some 0) rounds) else Err (Bad NoFormat)
header_ranked (Some last) rounds first args = header_known last rounds (keyword_of first) args

abbrev pub header_of : Option ℕ → List ℕ → List ℕ → Result Said LineRefusal
header_of rank rounds line =
    if is_text line then line_by (Header rank rounds)
    (λ first args. header_ranked rank rounds first args) (words line)
    else Err (Bad NotText)

-- ---- all lines

abbrev pub act_of : Bool → ℕ → Act
act_of give p = record { give = give; cpu = p }

-- the acts of a line
abbrev pub acts_said : Sched → List Act
acts_said Blank = []
acts_said (Run give p times) = replicate times (act_of give p)
acts_said End = []

-- a line of the schedule was read
abbrev pub scheduled : List ℕ → List Act → Bool → Sched → Said
scheduled rounds acts ended End = Schedule rounds acts true
scheduled rounds acts ended said = Schedule rounds (acts ++ acts_said said) ended

-- what has been said with one more line, without its line feed; or why the line is refused
abbrev pub read : Said → List ℕ → Result Said LineRefusal
read (Header rank rounds) line = header_of rank rounds line
read (Schedule rounds acts ended) line =
    and_then (schedule_of (length rounds) (length acts) ended line)
    (λ said. Ok (scheduled rounds acts ended said))

-- what is wrong where the input ends behind these lines
abbrev pub ending : Said → Option Fault
ending (Header None rounds) = Some NoFormat
ending (Header (Some last) rounds) = Some NoEnd
ending (Schedule rounds acts false) = Some NoEnd
ending (Schedule rounds acts true) = None
