-- What a line says behind `go`, by what is read of the lines before it: how many processors and how many acts there are, and
-- whether the line `end` was read.
use Rattle.std.specs.Prelude.{◌≡◌, ◌<◌, ◌≤◌, ◌+◌, ⊤, ℕ, length, Bool, true, false, List, [], ◌∷◌, Option, None, Some, Result, Ok, Err, if◌then◌else◌}
use Rattle.lk_forms.specs.declared.limits.TheConstants.{MAX_ACTS}
use Rattle.lk_forms.specs.Words.{words, is_text, is_comment}
use Rattle.lk_forms.specs.Keywords.{keyword_of, fault_of_place}
use Rattle.lk_forms.specs.Operations.{unless}
use Rattle.lk_rows.specs.Acts.{processor_of}
use Rattle.lk_forms.specs.Grammar.{Reading, read, scheduled, schedule_args, cpus_of, has_go, has_end}
use Rattle.lk_forms.specs.declared.answers.Fault.TheVariants.{NotText, UnknownWord}
use Rattle.lk_forms.specs.declared.answers.LineRefusal.{LineRefusal}
use Rattle.lk_forms.specs.declared.answers.LineRefusal.TheVariants.{Bad}
use Rattle.lk_forms.specs.declared.answers.Sched.{Sched}
use Rattle.lk_forms.specs.declared.answers.Sched.TheVariants.{Blank, Run, End}
use Rattle.lk_forms.specs.declared.keyword.Keyword.{Keyword}

-- the rank of the last line with a keyword, as far as places go
abbrev pub rank_behind : Bool → ℕ
rank_behind true = 11
rank_behind false = 9

-- a line of the schedule with a keyword, or without one
abbrev pub schedule_known : ℕ → ℕ → Bool → Option Keyword → List (List ℕ) → Result Sched LineRefusal
schedule_known cpus acts ended None args = Err (Bad UnknownWord)
schedule_known cpus acts ended (Some k) args = unless (fault_of_place (rank_behind ended) k) (schedule_args k cpus acts args)

-- the words of a line of the schedule: none, a comment, or what is said
abbrev pub schedule_words : ℕ → ℕ → Bool → List (List ℕ) → Result Sched LineRefusal
schedule_words cpus acts ended [] = Ok Blank
schedule_words cpus acts ended (first ∷ args) = if is_comment first then Ok Blank else schedule_known cpus acts ended (keyword_of first) args

-- a line of the schedule, of so many processors and behind so many acts, before `end` or behind it
abbrev pub schedule_of : ℕ → ℕ → Bool → List ℕ → Result Sched LineRefusal
schedule_of cpus acts ended line = if is_text line then schedule_words cpus acts ended (words line) else Err (Bad NotText)

-- so much is said behind `go`: how many processors and how many acts there are, and whether the line `end` was accepted
pub record IsInSchedule (r : Reading) (processors made : ℕ) (over : Bool) : Type 0 where
  pub go : has_go r ≡ true
  pub cpus : cpus_of r.setup ≡ processors
  pub acts : length r.acts ≡ made
  pub ended : has_end r ≡ over

-- what a line says behind these ones, by the answer to it
abbrev pub SaysNext : Reading → List ℕ → Result Sched LineRefusal → Type 0
SaysNext r line (Ok said) = read r line ≡ Ok (scheduled r said)
SaysNext r line (Err why) = read r line ≡ Err why

-- the acts are those of a processor that exists, at least one and not too many
abbrev pub IsWithin : ℕ → ℕ → Sched → Type 0
IsWithin cpus acts Blank = ⊤
IsWithin cpus acts (Run what times) = (processor_of what < cpus) × (1 ≤ times) × (acts + times ≤ MAX_ACTS)
IsWithin cpus acts End = ⊤
