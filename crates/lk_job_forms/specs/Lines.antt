-- What a line of a job file says by the words behind its keyword: the checks stand in their order,
-- and the first that fails is the answer.
use Rattle.std.specs.Prelude.{ℕ, ◌==◌, nat_le, nat_lt, List, [], ◌∷◌, ◌++◌, Result, Ok, Err, length, replicate, slice_set, codes, if◌then◌else◌}
use Rattle.std.specs.List.{sum}
use Rattle.std.specs.Str.{bytes_eq}
use Rattle.lk_names.specs.declared.names.Mode.{Mode}
use Rattle.lk_names.specs.declared.names.Kind.{Kind}
use Rattle.lk_names.specs.declared.names.Kind.TheVariants.{Spin, Rw}
use Rattle.lk_names.specs.declared.names.Mode.TheVariants.{Pv}
use Rattle.lk_names.specs.declared.ledger.Job.{Job}
use Rattle.lk_names.specs.declared.ledger.Job.TheVariants.{Move, Add, Sum, Get}
use Rattle.lk_names.specs.Jobs.{full}
use Rattle.lk_names.specs.declared.limits.TheConstants.{MAX_SOCKET, MAX_TURNS, MAX_ACCOUNTS, MAX_AMOUNT, MAX_JOBS, MAX_WORKERS}
use Rattle.lk_names.specs.Workload.{Workload, workers_of, jobs_of, job_count}
use Rattle.lk_forms.specs.Operations.{and_then}
use Rattle.lk_forms.specs.Grammar.{one_word, two_words, no_words, number_in, numbers_from, cpu_word, kind_word, mode_word}
use Rattle.lk_forms.specs.declared.answers.Fault.TheVariants.{UnknownWord, WordCount, OutOfRange, Misplaced, WrongLock}
use Rattle.lk_forms.specs.declared.answers.Which.TheVariants.{Jobs, Total}
use Rattle.lk_forms.specs.declared.answers.LineRefusal.{LineRefusal}
use Rattle.lk_forms.specs.declared.answers.LineRefusal.TheVariants.{Bad, Limit}
use Rattle.lk_job_forms.specs.declared.keyword.Keyword.{Keyword}
use Rattle.lk_job_forms.specs.declared.keyword.Keyword.TheVariants as keyword

-- the lines that stand once

-- `mode m`: the guard is a spinlock until a line says another
abbrev pub mode_line : Workload → List (List ℕ) → Result Workload LineRefusal
mode_line w args =
    and_then (one_word args) (λ word. and_then (mode_word word) (λ m.
    Ok (record w { mode = m; guard = Spin })))

-- the kind of a lock of this family: where processors halt, all locks are spinlocks
abbrev pub suited : Mode → Kind → Result Kind LineRefusal
suited Pv Rw = Err (Bad WrongLock)
suited m k = Ok k

-- `guard g`
abbrev pub guard_line : Workload → List (List ℕ) → Result Workload LineRefusal
guard_line w args =
    and_then (one_word args) (λ word. and_then (kind_word word) (λ k. and_then (suited w.mode k) (λ g.
    Ok (record w { guard = g }))))

-- so many workers, each on socket 0 and without a job
abbrev pub with_workers : Workload → ℕ → Workload
with_workers w n = record w { sockets = replicate n 0; jobs = replicate n [] }

-- `workers n`
abbrev pub workers_line : Workload → List (List ℕ) → Result Workload LineRefusal
workers_line w args =
    and_then (one_word args) (λ word. and_then (number_in 1 MAX_WORKERS word) (λ n.
    Ok (with_workers w n)))

-- `sockets s0 s1 ..`, one for each worker
abbrev pub sockets_line : Workload → List (List ℕ) → Result Workload LineRefusal
sockets_line w args =
    if length args == workers_of w
    then and_then (numbers_from 0 MAX_SOCKET [] args) (λ ss. Ok (record w { sockets = ss }))
    else Err (Bad WordCount)

-- `threshold t`
abbrev pub threshold_line : Workload → List (List ℕ) → Result Workload LineRefusal
threshold_line w args =
    and_then (one_word args) (λ word. and_then (number_in 0 MAX_TURNS word) (λ t.
    Ok (record w { threshold = t })))

-- these balances, and behind them those of these words: one too many is out of range, whatever it
-- says
abbrev pub balances_from : List ℕ → List (List ℕ) → Result (List ℕ) LineRefusal
balances_from before [] = Ok before
balances_from before (word ∷ words) =
    if nat_le MAX_ACCOUNTS (length before) then Err (Bad OutOfRange)
    else and_then (number_in 0 MAX_AMOUNT word) (λ n. balances_from (before ++ n ∷ []) words)

-- the sum of the opening balances stays below the limit of a ledger
abbrev pub opened : List ℕ → Result (List ℕ) LineRefusal
opened balances = if nat_lt (sum balances) full then Ok balances else Err (Limit Total)

abbrev pub balances_of : List (List ℕ) → Result (List ℕ) LineRefusal
balances_of [] = Err (Bad WordCount)
balances_of (word ∷ words) = and_then (balances_from [] (word ∷ words)) opened

-- `accounts b0 b1 ..`
abbrev pub accounts_line : Workload → List (List ℕ) → Result Workload LineRefusal
accounts_line w args = and_then (balances_of args) (λ bs. Ok (record w { balances = bs }))

-- the lines of jobs

-- exactly three words
abbrev pub three_words : List (List ℕ) → Result (List ℕ × List ℕ × List ℕ) LineRefusal
three_words (first ∷ second ∷ third ∷ []) = Ok (first, second, third)
three_words _ = Err (Bad WordCount)

abbrev pub amount_word : List ℕ → Result ℕ LineRefusal
amount_word word = number_in 0 MAX_AMOUNT word

-- `move a b n`, `add a n` and `get a`, where there are so many accounts

abbrev pub move_of : ℕ → List (List ℕ) → Result Job LineRefusal
move_of accounts args =
    and_then (three_words args) (λ all. and_then (cpu_word accounts all.0) (λ from.
    and_then (cpu_word accounts all.1) (λ to. and_then (amount_word all.2) (λ amount.
    Ok (Move from to amount)))))

abbrev pub add_of : ℕ → List (List ℕ) → Result Job LineRefusal
add_of accounts args =
    and_then (two_words args) (λ both. and_then (cpu_word accounts both.0) (λ account.
    and_then (amount_word both.1) (λ amount. Ok (Add account amount))))

abbrev pub get_of : ℕ → List (List ℕ) → Result Job LineRefusal
get_of accounts args =
    and_then (one_word args) (λ word. and_then (cpu_word accounts word) (λ account.
    Ok (Get account)))

-- the job of a verb and of the words behind it
abbrev pub job_of : ℕ → List ℕ → List (List ℕ) → Result Job LineRefusal
job_of accounts verb args =
    if bytes_eq verb (codes "move") then move_of accounts args
    else if bytes_eq verb (codes "add") then add_of accounts args
    else if bytes_eq verb (codes "sum") then no_words args Sum
    else if bytes_eq verb (codes "get") then get_of accounts args
    else Err (Bad UnknownWord)

-- one more job of a worker, if there are not too many
abbrev pub with_job : Workload → ℕ → Job → Result Workload LineRefusal
with_job w worker job =
    if nat_le MAX_JOBS (job_count w.jobs) then Err (Limit Jobs)
    else Ok (record w { jobs = slice_set w.jobs worker (jobs_of w worker ++ job ∷ []) })

-- a job of this worker, by the words behind it
abbrev pub worker_job : Workload → ℕ → List (List ℕ) → Result Workload LineRefusal
worker_job w worker [] = Err (Bad WordCount)
worker_job w worker (verb ∷ args) =
    and_then (job_of (length w.balances) verb args) (λ job. with_job w worker job)

-- `job w verb ..`
abbrev pub job_line : Workload → List (List ℕ) → Result Workload LineRefusal
job_line w [] = Err (Bad WordCount)
job_line w (word ∷ args) =
    and_then (cpu_word (workers_of w) word) (λ worker. worker_job w worker args)

-- what a line makes of the workload, by the words behind its keyword
abbrev pub line_args : Keyword → Workload → List (List ℕ) → Result Workload LineRefusal
line_args keyword.Format w args = Err (Bad Misplaced)
line_args keyword.Mode w args = mode_line w args
line_args keyword.Guard w args = guard_line w args
line_args keyword.Workers w args = workers_line w args
line_args keyword.Sockets w args = sockets_line w args
line_args keyword.Threshold w args = threshold_line w args
line_args keyword.Accounts w args = accounts_line w args
line_args keyword.Job w args = job_line w args
line_args keyword.End w args = no_words args w
