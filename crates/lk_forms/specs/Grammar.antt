-- What a line of a trace says behind the lines before it, or why it is refused: the checks stand in their order, and the first
-- that fails is the answer.
use Rattle.std.specs.Prelude.{ℕ, ◌==◌, ◌+◌, ◌-◌, ◌^◌, ◌&&◌, nat_le, nat_lt, Bool, List, [], ◌∷◌, ◌++◌, Option, None, Some, Result, Ok, Err, length, replicate, slice_index_or, slice_set, fold, is_some, unwrap_or, codes, if◌then◌else◌}
use Rattle.std.specs.Result.{result_unwrap_or, result_err}
use Rattle.std.specs.Str.{bytes_eq}
use Rattle.lk_names.specs.ListOf.{ListOf}
use Rattle.lk_names.specs.declared.names.Format.{Format}
use Rattle.lk_names.specs.declared.names.Format.TheVariants.{One, Two}
use Rattle.lk_names.specs.declared.names.Kind.{Kind}
use Rattle.lk_names.specs.declared.names.Kind.TheVariants.{Spin, Rw}
use Rattle.lk_names.specs.declared.names.Mode.{Mode}
use Rattle.lk_names.specs.declared.names.Mode.TheVariants.{Virt, Native, Cna, Pv}
use Rattle.lk_names.specs.declared.events.Act.{Act}
use Rattle.lk_names.specs.declared.events.Act.TheVariants as act
use Rattle.lk_names.specs.declared.limits.TheConstants.{MAX_SOCKET, MAX_TURNS}
use Rattle.lk_rows.specs.declared.setup.Op.{Op}
use Rattle.lk_rows.specs.declared.setup.Setup.{Setup}
use Rattle.lk_text.specs.Numbers.{number_of}
use Rattle.lk_forms.specs.declared.limits.TheConstants.{MAX_ACTS, MAX_CPUS, MAX_HANDLERS, MAX_LOCKS, MAX_OPS, MAX_WIDE_CPUS, USUAL_SPINS}
use Rattle.lk_forms.specs.Words.{words, is_text, is_comment}
use Rattle.lk_forms.specs.Keywords.{keyword_of, rank_of, fault_of_place}
use Rattle.lk_forms.specs.Operations.{and_then, unless, or_fault, ops_of}
use Rattle.lk_forms.specs.declared.answers.Fault.{Fault}
use Rattle.lk_forms.specs.declared.answers.Fault.TheVariants.{NoFormat, NotText, UnknownWord, WordCount, BadNumber, OutOfRange, Misplaced, Repeated, NoEnd}
use Rattle.lk_forms.specs.declared.answers.Which.TheVariants.{Handlers, Acts}
use Rattle.lk_forms.specs.declared.answers.LineRefusal.{LineRefusal}
use Rattle.lk_forms.specs.declared.answers.LineRefusal.TheVariants.{Bad, Limit}
use Rattle.lk_forms.specs.declared.answers.Sched.{Sched}
use Rattle.lk_forms.specs.declared.answers.Sched.TheVariants.{Blank, Run, End}
use Rattle.lk_forms.specs.declared.keyword.Keyword.{Keyword}
use Rattle.lk_forms.specs.declared.keyword.Keyword.TheVariants as keyword

-- the words behind the first

-- exactly one word
abbrev pub one_word : List (List ℕ) → Result (List ℕ) LineRefusal
one_word (word ∷ []) = Ok word
one_word _ = Err (Bad WordCount)

-- exactly two words
abbrev pub two_words : List (List ℕ) → Result (List ℕ × List ℕ) LineRefusal
two_words (first ∷ second ∷ []) = Ok (first, second)
two_words _ = Err (Bad WordCount)

-- no word; then the value
abbrev pub no_words : {A : Type 0} → List (List ℕ) → A → Result A LineRefusal
no_words [] a = Ok a
no_words (word ∷ words) a = Err (Bad WordCount)

-- the number, if it is within the range
abbrev pub in_range : ℕ → ℕ → ℕ → Result ℕ LineRefusal
in_range low high n = if nat_le low n && nat_le n high then Ok n else Err (Bad OutOfRange)

-- a number within a range
abbrev pub number_in : ℕ → ℕ → List ℕ → Result ℕ LineRefusal
number_in low high word = and_then (or_fault BadNumber (number_of word)) (λ n. in_range low high n)

-- these numbers, and behind them those of these words, each within a range
abbrev pub numbers_from : ℕ → ℕ → List ℕ → List (List ℕ) → Result (List ℕ) LineRefusal
numbers_from low high before [] = Ok before
numbers_from low high before (word ∷ words) = and_then (number_in low high word) (λ n. numbers_from low high (before ++ n ∷ []) words)

-- the setup, and the lines of the header

-- a list with room for so many
abbrev pub list_of : {T : Type 0} → ℕ → List T → ListOf T
list_of room items = record { items = items; room = room }

-- programs of so many processors, each without an operation
abbrev pub no_programs : ℕ → ListOf (ListOf Op)
no_programs cpus = list_of cpus (replicate cpus (list_of 0 []))

-- handlers of so many processors, none for each
abbrev pub no_handlers : ℕ → ListOf (ListOf (ListOf Op))
no_handlers cpus = list_of cpus (replicate cpus (list_of MAX_HANDLERS []))

-- what no line has said: format 1 stands for the format, and mode `virt` for the mode, until they
-- are said
abbrev pub default_setup : Setup
default_setup =
    record {
      format = One;
      mode = Virt;
      topology = record { sockets = list_of 1 (replicate 1 0) };
      threshold = MAX_TURNS;
      spins = USUAL_SPINS;
      locks = list_of MAX_LOCKS [];
      progs = no_programs 1;
      irqs = no_handlers 1;
    }

-- how many processors the setup has
abbrev pub cpus_of : Setup → ℕ
cpus_of s = length s.topology.sockets.items

abbrev pub mode_of : List ℕ → Option Mode
mode_of word =
    if bytes_eq word (codes "virt") then Some Virt
    else if bytes_eq word (codes "native") then Some Native
    else if bytes_eq word (codes "cna") then Some Cna
    else if bytes_eq word (codes "pv") then Some Pv
    else None

abbrev pub mode_word : List ℕ → Result Mode LineRefusal
mode_word word = or_fault UnknownWord (mode_of word)

-- `mode m`
abbrev pub mode_line : Setup → List (List ℕ) → Result Setup LineRefusal
mode_line s args = and_then (one_word args) (λ word. and_then (mode_word word) (λ m. Ok (record s { mode = m })))

-- the setup with so many processors, all on socket 0 and without programs and handlers
abbrev pub with_cpus : Setup → ℕ → Setup
with_cpus s n = record s { topology = record { sockets = list_of n (replicate n 0) }; progs = no_programs n; irqs = no_handlers n }

-- the most processors of a trace of this format
abbrev pub most_cpus : Format → ℕ
most_cpus One = MAX_CPUS
most_cpus Two = MAX_WIDE_CPUS

-- `cpus n`
abbrev pub cpus_line : Setup → List (List ℕ) → Result Setup LineRefusal
cpus_line s args =
    and_then (one_word args)
    (λ word. and_then (number_in 1 (most_cpus s.format) word) (λ n. Ok (with_cpus s n)))

-- the setup with these sockets of its processors
abbrev pub with_sockets : Setup → List ℕ → Setup
with_sockets s sockets = record s { topology = record { sockets = list_of (cpus_of s) sockets } }

-- `sockets s0 s1 ..`, one for each processor
abbrev pub sockets_line : Setup → List (List ℕ) → Result Setup LineRefusal
sockets_line s args =
    if length args == cpus_of s then and_then (numbers_from 0 MAX_SOCKET [] args) (λ sockets. Ok (with_sockets s sockets)) else Err (Bad WordCount)

-- `threshold t`
abbrev pub threshold_line : Setup → List (List ℕ) → Result Setup LineRefusal
threshold_line s args = and_then (one_word args) (λ word. and_then (number_in 0 MAX_TURNS word) (λ t. Ok (record s { threshold = t })))

-- `spins s`
abbrev pub spins_line : Setup → List (List ℕ) → Result Setup LineRefusal
spins_line s args = and_then (one_word args) (λ word. and_then (number_in 1 MAX_TURNS word) (λ n. Ok (record s { spins = n })))

-- the kind of lock that a word names, if it does
abbrev pub kind_named : List ℕ → Option Kind
kind_named word = if bytes_eq word (codes "spin") then Some Spin else if bytes_eq word (codes "rw") then Some Rw else None

-- the kind of lock that a word names, or the fault of one that names none
abbrev pub kind_word : List ℕ → Result Kind LineRefusal
kind_word word = or_fault UnknownWord (kind_named word)

-- the number of the next lock, behind so many locks
abbrev pub next_lock : ℕ → ℕ → Result ℕ LineRefusal
next_lock locks i = if (i == locks) && nat_lt i MAX_LOCKS then Ok i else Err (Bad OutOfRange)

-- the setup with one lock more
abbrev pub with_lock : Setup → Kind → Setup
with_lock s k = record s { locks = list_of s.locks.room (s.locks.items ++ k ∷ []) }

-- `lock i kind`, where i is the number of lock lines before it
abbrev pub lock_line : Setup → List (List ℕ) → Result Setup LineRefusal
lock_line s args =
    and_then (two_words args) (λ both. and_then (or_fault BadNumber (number_of both.0)) (λ i.
    and_then (next_lock (length s.locks.items) i) (λ next. and_then (kind_word both.1) (λ k. Ok (with_lock s k)))))

-- the program of a processor
abbrev pub given_program : Setup → ℕ → ListOf Op
given_program s p = slice_index_or s.progs.items p (list_of 0 [])

-- the handlers of a processor
abbrev pub given_handlers : Setup → ℕ → ListOf (ListOf Op)
given_handlers s p = slice_index_or s.irqs.items p (list_of MAX_HANDLERS [])

-- a line `prog` gave the processor a program
abbrev pub has_program : Setup → ℕ → Bool
has_program s p = nat_lt 0 (length (given_program s p).items)

-- the setup with this program of a processor's task
abbrev pub with_program : Setup → ℕ → List Op → Setup
with_program s p ops = record s { progs = list_of s.progs.room (slice_set s.progs.items p (list_of MAX_OPS ops)) }

-- the handlers with one more
abbrev pub with_more : ListOf (ListOf Op) → List Op → ListOf (ListOf Op)
with_more handlers ops = list_of handlers.room (handlers.items ++ list_of MAX_OPS ops ∷ [])

-- the setup with one handler more of a processor
abbrev pub with_handler : Setup → ℕ → List Op → Setup
with_handler s p ops = record s { irqs = list_of s.irqs.room (slice_set s.irqs.items p (with_more (given_handlers s p) ops)) }

-- the processor, one of so many, that a word names: where there is none, each number is out of range
abbrev pub cpu_word : ℕ → List ℕ → Result ℕ LineRefusal
cpu_word cpus word = and_then (or_fault BadNumber (number_of word)) (λ n. if nat_lt n cpus then Ok n else Err (Bad OutOfRange))

-- `prog p ops`, where the processor has no program yet
abbrev pub program_line : Setup → List (List ℕ) → Result Setup LineRefusal
program_line s [] = Err (Bad WordCount)
program_line s (cpu ∷ args) =
    and_then (cpu_word (cpus_of s) cpu) (λ p.
    if has_program s p then Err (Bad Repeated)
    else and_then (ops_of s.locks.items args) (λ ops. Ok (with_program s p ops)))

-- one more handler of the processor
abbrev pub handler_line : Setup → List ℕ → List (List ℕ) → Result Setup LineRefusal
handler_line s cpu args =
    and_then (cpu_word (cpus_of s) cpu) (λ p.
    if nat_le MAX_HANDLERS (length (given_handlers s p).items) then Err (Limit Handlers)
    else and_then (ops_of s.locks.items args) (λ ops. Ok (with_handler s p ops)))

-- `irq p ops`
abbrev pub irq_line : Setup → List (List ℕ) → Result Setup LineRefusal
irq_line s [] = Err (Bad WordCount)
irq_line s (cpu ∷ args) = handler_line s cpu args

-- what a line of the header makes of the setup, by the words behind its keyword
abbrev pub header_line : Keyword → Setup → List (List ℕ) → Result Setup LineRefusal
header_line keyword.Mode s args = mode_line s args
header_line keyword.Cpus s args = cpus_line s args
header_line keyword.Sockets s args = sockets_line s args
header_line keyword.Threshold s args = threshold_line s args
header_line keyword.Spins s args = spins_line s args
header_line keyword.Lock s args = lock_line s args
header_line keyword.Prog s args = program_line s args
header_line keyword.Irq s args = irq_line s args
header_line keyword.Go s args = no_words args s
header_line _ s args = Err (Bad Misplaced)

-- the lines of the schedule, behind so many acts

-- an act so many times, if there are no more acts than a trace may have
abbrev pub run_of : ℕ → Act → ℕ → Result Sched LineRefusal
run_of acts what times = if nat_le (acts + times) MAX_ACTS then Ok (Run what times) else Err (Limit Acts)

-- `step p n`
abbrev pub step_line : ℕ → ℕ → List (List ℕ) → Result Sched LineRefusal
step_line cpus acts args =
    and_then (two_words args) (λ both. and_then (cpu_word cpus both.0) (λ p.
    and_then (number_in 1 (2 ^ 64 - 1) both.1) (λ n. run_of acts (act.Step p) n)))

-- `int p`, `pre p`, `res p` or `nudge p`
abbrev pub act_line : (ℕ → Act) → ℕ → ℕ → List (List ℕ) → Result Sched LineRefusal
act_line what cpus acts args = and_then (one_word args) (λ word. and_then (cpu_word cpus word) (λ p. run_of acts (what p) 1))

-- what a line of the schedule says, by the words behind its keyword
abbrev pub schedule_args : Keyword → ℕ → ℕ → List (List ℕ) → Result Sched LineRefusal
schedule_args keyword.Step cpus acts args = step_line cpus acts args
schedule_args keyword.Int cpus acts args = act_line (λ p. act.Interrupt p) cpus acts args
schedule_args keyword.Pre cpus acts args = act_line (λ p. act.Preempt p) cpus acts args
schedule_args keyword.Res cpus acts args = act_line (λ p. act.Resume p) cpus acts args
schedule_args keyword.Nudge cpus acts args = act_line (λ p. act.Nudge p) cpus acts args
schedule_args keyword.End cpus acts args = no_words args End
schedule_args _ cpus acts args = Err (Bad Misplaced)

-- all lines

-- what accepted lines have said: the rank of the last one that has a keyword, the setup, and the acts
pub record Reading : Type 0 where
  pub rank : Option ℕ
  pub setup : Setup
  pub acts : List Act

-- before the first line
abbrev pub nothing_read : Reading
nothing_read = record { rank = None; setup = default_setup; acts = [] }

-- a line of the schedule was read
abbrev pub scheduled : Reading → Sched → Reading
scheduled r Blank = r
scheduled r (Run what times) = record r { rank = Some 10; acts = r.acts ++ replicate times what }
scheduled r End = record r { rank = Some 11 }

-- a line of the header, of an accepted keyword
abbrev pub read_header : Reading → Keyword → List (List ℕ) → Result Reading LineRefusal
read_header r k args = and_then (header_line k r.setup args) (λ s. Ok (record r { rank = Some (rank_of k); setup = s }))

-- a line of the schedule, of an accepted keyword
abbrev pub read_schedule : Reading → Keyword → List (List ℕ) → Result Reading LineRefusal
read_schedule r k args = and_then (schedule_args k (cpus_of r.setup) (length r.acts) args) (λ said. Ok (scheduled r said))

-- a line with a keyword that may stand there
abbrev pub read_placed : Reading → Keyword → List (List ℕ) → Result Reading LineRefusal
read_placed r k args = if nat_le (rank_of k) 9 then read_header r k args else read_schedule r k args

-- a line with a keyword, or without one, behind one of rank `last`
abbrev pub read_known : Reading → ℕ → Option Keyword → List (List ℕ) → Result Reading LineRefusal
read_known r last None args = Err (Bad UnknownWord)
read_known r last (Some k) args = unless (fault_of_place last k) (read_placed r k args)

-- the format with this number: the word is exactly `1` or `2`
abbrev pub format_numbered : List ℕ → Option Format
format_numbered version =
    if bytes_eq version (codes "1") then Some One
    else if bytes_eq version (codes "2") then Some Two else None

-- the format that the two words `qtrace` and `1`, or `qtrace` and `2`, say
abbrev pub format_said : List ℕ → List (List ℕ) → Option Format
format_said first (version ∷ []) =
    if bytes_eq first (codes "qtrace") then format_numbered version else None
format_said first _ = None

-- what is read by the first line, which says the format
abbrev pub read_format : Reading → Option Format → Result Reading LineRefusal
read_format r None = Err (Bad NoFormat)
read_format r (Some format) =
    Ok (record r { rank = Some 0; setup = record r.setup { format = format } })

-- a line that is neither blank nor a comment: the first such line has to be the format's
abbrev pub read_ranked : Reading → Option ℕ → List ℕ → List (List ℕ) → Result Reading LineRefusal
read_ranked r None first args = read_format r (format_said first args)
read_ranked r (Some last) first args = read_known r last (keyword_of first) args

-- the words of a line: none, a comment, or what is said
abbrev pub read_words : Reading → List (List ℕ) → Result Reading LineRefusal
read_words r [] = Ok r
read_words r (first ∷ args) = if is_comment first then Ok r else read_ranked r r.rank first args

-- what has been said with one more line, without its line feed; or why the line is refused
abbrev pub read : Reading → List ℕ → Result Reading LineRefusal
read r line = if is_text line then read_words r (words line) else Err (Bad NotText)

-- lines, one after the other

-- what has been said with one more line: a refused one says nothing
abbrev pub next_reading : Reading → List ℕ → Reading
next_reading r line = result_unwrap_or (read r line) r

-- what these lines say, the first to the last, each without its line feed
abbrev pub reading_of : List (List ℕ) → Reading
reading_of lines = fold next_reading nothing_read lines

-- The check at which a line fails behind these lines, if there is one.
abbrev pub refusal_of_line : List (List ℕ) → List ℕ → Option LineRefusal
refusal_of_line before line = result_err (read (reading_of before) line)

-- a line with a keyword was accepted, the first of which is the format's
abbrev pub has_format : Reading → Bool
has_format r = is_some r.rank

-- the rank of the last line with a keyword, or 0
abbrev pub last_rank : Reading → ℕ
last_rank r = unwrap_or r.rank 0

-- the line `go` was accepted
abbrev pub has_go : Reading → Bool
has_go r = nat_le 9 (last_rank r)

-- the line `end` was accepted
abbrev pub has_end : Reading → Bool
has_end r = last_rank r == 11

-- what is wrong where the input ends behind these lines
abbrev pub ending : Reading → Fault
ending r = if has_format r then NoEnd else NoFormat
