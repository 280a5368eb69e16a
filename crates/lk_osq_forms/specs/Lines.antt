-- What a line says by its words: the checks stand in their order, and the first that fails is the
-- answer.
use Rattle.std.specs.Prelude.{ℕ, ◌+◌, ◌-◌, ◌^◌, ◌&&◌, nat_le, nat_lt, Bool, true, false, List, [], ◌∷◌, Result, Ok, Err, Option, None, Some, length, replicate, slice_index_or, slice_set, codes, if◌then◌else◌}
use Rattle.std.specs.Str.{bytes_eq}
use Rattle.lk_forms.specs.Words.{words, is_text, is_comment}
use Rattle.lk_forms.specs.Operations.{and_then, unless}
use Rattle.lk_forms.specs.Grammar.{one_word, two_words, no_words, number_in, cpu_word}
use Rattle.lk_forms.specs.declared.limits.TheConstants.{MAX_ACTS, MAX_CPUS}
use Rattle.lk_forms.specs.declared.answers.Fault.TheVariants.{NotText, UnknownWord, Misplaced, Repeated}
use Rattle.lk_forms.specs.declared.answers.Which.TheVariants.{Acts}
use Rattle.lk_forms.specs.declared.answers.LineRefusal.{LineRefusal}
use Rattle.lk_forms.specs.declared.answers.LineRefusal.TheVariants.{Bad, Limit}
use Rattle.lk_osq_forms.specs.Keywords.{keyword_of, fault_of_place}
use Rattle.lk_osq_forms.specs.declared.keyword.Keyword.{Keyword}
use Rattle.lk_osq_forms.specs.declared.keyword.Keyword.TheVariants as keyword
use Rattle.lk_osq_forms.specs.declared.answers.Sched.{Sched}
use Rattle.lk_osq_forms.specs.declared.answers.Sched.TheVariants.{Blank, Run, End}

-- what a line says that is blank or a comment, and else by its first word and those behind it
abbrev pub line_by : {A : Type 0} → A → (List ℕ → List (List ℕ) → Result A LineRefusal)
    → List (List ℕ) → Result A LineRefusal
line_by blank said [] = Ok blank
line_by blank said (first ∷ args) = if is_comment first then Ok blank else said first args

-- the header: how many rounds each processor has, none where no line says so

-- `cpus n`
abbrev pub cpus_line : List (List ℕ) → Result (List ℕ) LineRefusal
cpus_line args =
    and_then (one_word args)
    (λ word. and_then (number_in 1 MAX_CPUS word) (λ n. Ok (replicate n 0)))

-- a line `prog` gave the processor rounds
abbrev pub has_rounds : List ℕ → ℕ → Bool
has_rounds rounds p = nat_lt 0 (slice_index_or rounds p 0)

abbrev pub with_rounds : List ℕ → ℕ → ℕ → Result (List ℕ) LineRefusal
with_rounds rounds p r =
    if has_rounds rounds p then Err (Bad Repeated) else Ok (slice_set rounds p r)

-- `prog p r`, where the processor has no rounds yet
abbrev pub program_line : List ℕ → List (List ℕ) → Result (List ℕ) LineRefusal
program_line rounds args =
    and_then (two_words args) (λ both. and_then (cpu_word (length rounds) both.0) (λ p.
    and_then (number_in 1 64 both.1) (λ r. with_rounds rounds p r)))

-- what a line of the header makes of the rounds, by the words behind its keyword
abbrev pub header_args : Keyword → List ℕ → List (List ℕ) → Result (List ℕ) LineRefusal
header_args keyword.Cpus rounds args = cpus_line args
header_args keyword.Prog rounds args = program_line rounds args
header_args keyword.Go rounds args = no_words args rounds
header_args _ rounds args = Err (Bad Misplaced)

-- the two words `qosq` and `1`
abbrev pub is_format : List ℕ → List (List ℕ) → Bool
is_format first (version ∷ []) = bytes_eq first (codes "qosq") && bytes_eq version (codes "1")
is_format first _ = false

-- the lines of the schedule, behind so many acts

abbrev pub run_of : ℕ → Bool → ℕ → ℕ → Result Sched LineRefusal
run_of acts give p times =
    if nat_le (acts + times) MAX_ACTS then Ok (Run give p times) else Err (Limit Acts)

-- `step p n`
abbrev pub step_line : ℕ → ℕ → List (List ℕ) → Result Sched LineRefusal
step_line cpus acts args =
    and_then (two_words args) (λ both. and_then (cpu_word cpus both.0) (λ p.
    and_then (number_in 1 (2 ^ 64 - 1) both.1) (λ n. run_of acts false p n)))

-- `give p`
abbrev pub give_line : ℕ → ℕ → List (List ℕ) → Result Sched LineRefusal
give_line cpus acts args =
    and_then (one_word args) (λ word. and_then (cpu_word cpus word) (λ p. run_of acts true p 1))

-- what a line of the schedule says, by the words behind its keyword
abbrev pub schedule_args : Keyword → ℕ → ℕ → List (List ℕ) → Result Sched LineRefusal
schedule_args keyword.Step cpus acts args = step_line cpus acts args
schedule_args keyword.Give cpus acts args = give_line cpus acts args
schedule_args keyword.End cpus acts args = no_words args End
schedule_args _ cpus acts args = Err (Bad Misplaced)

-- the rank of the last line with a keyword, as far as places go
abbrev pub rank_behind : Bool → ℕ
rank_behind true = 5
rank_behind false = 3

abbrev pub schedule_known : ℕ → ℕ → Bool → Option Keyword → List (List ℕ) → Result Sched LineRefusal
schedule_known cpus acts ended None args = Err (Bad UnknownWord)
schedule_known cpus acts ended (Some k) args =
    unless (fault_of_place (rank_behind ended) k) (schedule_args k cpus acts args)

-- what a line says behind `go`, by how many processors and acts there are, and whether `end` was
-- read
abbrev pub schedule_of : ℕ → ℕ → Bool → List ℕ → Result Sched LineRefusal
schedule_of cpus acts ended line =
    if is_text line then line_by Blank
    (λ first args. schedule_known cpus acts ended (keyword_of first) args) (words line)
    else Err (Bad NotText)
