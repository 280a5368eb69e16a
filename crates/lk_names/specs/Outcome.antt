-- What may come of a job file: a journal, the records of the reads, and the closing balances.
use Rattle.std.specs.Prelude.{◌≡◌, ◌<◌, ◌≤◌, ◌+◌, ◌==◌, ℕ, false, List, [], ◌∷◌, ◌++◌, Some, filter, length, map, take, slice_get, All, if◌then◌else◌}
use Rattle.lk_names.specs.declared.ledger.Job.{Job}
use Rattle.lk_names.specs.declared.ledger.Entry.{Entry}
use Rattle.lk_names.specs.declared.ledger.Seen.{Seen}
use Rattle.lk_names.specs.Jobs.{reply_to}
use Rattle.lk_names.specs.Journal.{is_write, balances_after, Replays}
use Rattle.lk_names.specs.Workload.{Workload, jobs_of}

-- the entries of a worker, in the order of the journal
abbrev pub entries_of : ℕ → List Entry → List Entry
entries_of worker journal = filter (λ e. e.worker == worker) journal

-- the number and the job of an entry
abbrev pub label_of : Entry → ℕ × Job
label_of e = (e.number, e.job)

-- the jobs that write with their numbers, and those that read, where the first job has the number n
abbrev pub writes_from : ℕ → List Job → List (ℕ × Job)
writes_from n [] = []
writes_from n (job ∷ jobs) =
    if is_write job then (n, job) ∷ writes_from (n + 1) jobs else writes_from (n + 1) jobs

abbrev pub reads_from : ℕ → List Job → List (ℕ × Job)
reads_from n [] = []
reads_from n (job ∷ jobs) =
    if is_write job then reads_from (n + 1) jobs else (n, job) ∷ reads_from (n + 1) jobs

-- The entries of each worker are its jobs that write, with their numbers, in order, each once; and
-- no other worker has one.
abbrev pub IsMerge : List Entry → Workload → Type 0
IsMerge journal work =
    (worker : ℕ) → map label_of (entries_of worker journal) ≡ writes_from 1 (jobs_of work worker)

-- the worker, the number and the job of a record
abbrev pub tag_of : Seen → ℕ × ℕ × Job
tag_of r = (r.worker, r.number, r.job)

-- the jobs that read, by worker and then by number, where the first worker is this one
abbrev pub asked_from : ℕ → List (List Job) → List (ℕ × ℕ × Job)
asked_from worker [] = []
asked_from worker (jobs ∷ rest) =
    map (λ x. (worker, x.0, x.1)) (reads_from 1 jobs) ++ asked_from (worker + 1) rest

-- the record says what its job answers after the first entries, as many as its version
pub record IsReadAt (opening : List ℕ) (journal : List Entry) (r : Seen) : Type 0 where
  pub version : r.version ≤ length journal
  pub reads : is_write r.job ≡ false
  pub right : r.reply ≡ reply_to (balances_after opening (take r.version journal)) r.job

-- A record saw all that its worker wrote before it and nothing that it wrote after it, and no less
-- than what an earlier read of its worker saw. Places in the journal are from 0.
pub record IsFresh (journal : List Entry) (reads : List Seen) (r : Seen) : Type 0 where
  pub after : (at : ℕ) (e : Entry) → slice_get journal at ≡ Some e → e.worker ≡ r.worker
      → e.number < r.number → at < r.version
  pub before : (at : ℕ) (e : Entry) → slice_get journal at ≡ Some e → e.worker ≡ r.worker
      → r.number < e.number → r.version ≤ at
  pub rises : (at : ℕ) (s : Seen) → slice_get reads at ≡ Some s → s.worker ≡ r.worker
      → s.number < r.number → s.version ≤ r.version

-- this journal, these records and these balances may come of the workload
pub record IsOutcome (work : Workload) (journal : List Entry) (reads : List Seen)
    (balances : List ℕ) : Type 0 where
  pub replays : Replays work.balances journal
  pub merge : IsMerge journal work
  pub records : map tag_of reads ≡ asked_from 0 work.jobs
  pub read_at : All (λ r. IsReadAt work.balances journal r) reads
  pub fresh : All (λ r. IsFresh journal reads r) reads
  pub closing : balances ≡ balances_after work.balances journal
