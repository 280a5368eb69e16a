-- What the jobs of a worker leave.
use Rattle.std.specs.Prelude.{◌≡◌, ℕ, ◌+◌, true, false, List, [], ◌∷◌, ◌++◌, if◌then◌else◌}
use Rattle.lk_names.specs.Journal.{is_write}
use Rattle.lk_names.specs.declared.ledger.Entry.{Entry}
use Rattle.lk_names.specs.declared.ledger.Job.{Job}
use Rattle.lk_names.specs.declared.ledger.Seen.{Seen}
use Rattle.lk_domain.specs.Ledgers.{Ledger, Look}
use Rattle.lk_guard.specs.Guards.{Guard}
use Rattle.lk_guard.specs.Reads.{IsRead, after_read}
use Rattle.lk_guard.specs.Writes.{IsWritten, after_write}

-- what one job left: an entry at its place, and two looks; or a record, and one look
pub data Deed : Type 0 where
  wrote : ℕ → Entry → Look → Look → Deed
  saw : Seen → Look → Deed

-- an entry of the job with the number n of the worker p, which knew this of the ledger
pub record WroteFor (h : Guard) (p n : ℕ) (job : Job) (g : Ledger) (place : ℕ) (e : Entry)
    (first second : Look) : Type 0 where
  pub worker : e.worker ≡ p
  pub number : e.number ≡ n
  pub task : e.job ≡ job
  pub writes : is_write job ≡ true
  pub written : IsWritten h p place e g first second

-- a record of such a job
pub record SawFor (h : Guard) (p n : ℕ) (job : Job) (g : Ledger) (r : Seen) (look : Look) : Type 0
  where
    pub worker : r.worker ≡ p
    pub number : r.number ≡ n
    pub task : r.job ≡ job
    pub reads : is_write job ≡ false
    pub read : IsRead h p r.version job r.reply g look

-- the deed is of such a job: an entry where it writes, a record where it reads
abbrev pub IsDeed : Guard → ℕ → ℕ → Job → Ledger → Deed → Type 0
IsDeed h p n job g (wrote place e first second) = WroteFor h p n job g place e first second
IsDeed h p n job g (saw r look) = SawFor h p n job g r look

-- what the worker knows of the ledger after a deed
abbrev pub after_deed : Ledger → Deed → Ledger
after_deed g (wrote place e first second) = after_write g place e first second
after_deed g (saw r look) = after_read g r.version look

-- and after all of them, in order
abbrev pub after_deeds : Ledger → List Deed → Ledger
after_deeds g [] = g
after_deeds g (d ∷ ds) = after_deeds (after_deed g d) ds

-- the deeds are of these jobs, one for each, in order; the first job has the number n
abbrev pub AreDeeds : Guard → ℕ → ℕ → List Job → Ledger → List Deed → Type 0
AreDeeds h p n [] g [] = Unit {0}
AreDeeds h p n [] g (d ∷ ds) = ⊥
AreDeeds h p n (job ∷ jobs) g [] = ⊥
AreDeeds h p n (job ∷ jobs) g (d ∷ ds) =
    IsDeed h p n job g d × AreDeeds h p (n + 1) jobs (after_deed g d) ds

-- the records of the deeds, in order
abbrev pub records_of : List Deed → List Seen
records_of [] = []
records_of (wrote place e first second ∷ ds) = records_of ds
records_of (saw r look ∷ ds) = r ∷ records_of ds

-- One job was done: its deed is all that changed in what the worker knows of the ledger, and in its
-- list of records.
pub record HasDone (h : Guard) (p n : ℕ) (job : Job) (old new : Ledger) (before after : List Seen)
    : Type 0 where
  pub deed : Deed
  pub is : IsDeed h p n job old deed
  pub ledger : new ≡ after_deed old deed
  pub records : after ≡ before ++ records_of (deed ∷ [])

-- The jobs were done in order, numbered from 1: their deeds are all that changed in what the worker
-- knows of the ledger, and in its list of records.
pub record Worked (h : Guard) (p : ℕ) (jobs : List Job) (old new : Ledger)
    (before after : List Seen) : Type 0 where
  pub deeds : List Deed
  pub are : AreDeeds h p 1 jobs old deeds
  pub ledger : new ≡ after_deeds old deeds
  pub records : after ≡ before ++ records_of deeds

-- how many of the jobs write, and how many read

abbrev pub writes_in : List Job → ℕ
writes_in [] = 0
writes_in (job ∷ jobs) = (if is_write job then 1 else 0) + writes_in jobs

abbrev pub reads_in : List Job → ℕ
reads_in [] = 0
reads_in (job ∷ jobs) = (if is_write job then 0 else 1) + reads_in jobs
