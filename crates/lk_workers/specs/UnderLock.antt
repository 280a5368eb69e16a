-- Every read and write was made under the lock, as the looks of the processors tell.
use Rattle.std.specs.Prelude.{◌≡◌, ◌<◌, ◌*◌, ◌==◌, ℕ, Bool, List, [], Some, All, filter, length, replicate}
use Rattle.std.specs.Prelude.{if◌then◌else◌, is_none, is_some, slice_index_or}
use Rattle.std.specs.List.{AllZip}
use Rattle.lk_names.specs.declared.ledger.Job.{Job}
use Rattle.lk_names.specs.declared.ledger.Seen.{Seen}
use Rattle.lk_names.specs.Workload.{Workload, workers_of, jobs_of}
use Rattle.lk_domain.specs.Calls.{Terms}
use Rattle.lk_domain.specs.Ledgers.{Look}
use Rattle.lk_law.specs.Agree.{halts}
use Rattle.lk_guard.specs.Deeds.{writes_in}
use Rattle.lk_guard.specs.Guards.{Guard, IsToRead, IsToWrite}
use Rattle.lk_guard.specs.Reads.{Answers}

-- What rows read of a workload, and how its ledger is guarded. Where processors halt no row asks for a
-- socket, and the threshold says for how many turns a waiter spins.

abbrev pub terms_in : Bool → Workload → Terms
terms_in halting work =
    record {
      format = work.format;
      mode = work.mode;
      threshold = if halting then 32768 else work.threshold;
      sockets = if halting then replicate (workers_of work) 0 else work.sockets;
    }

abbrev pub terms_for : Workload → Terms
terms_for work = terms_in (halts work.mode) work

abbrev pub guard_for : Workload → Guard
guard_for work =
    record { terms = terms_for work; kind = work.guard; opening = work.balances }

-- the looks in which a version was loaded, and the others
abbrev pub sights : List Look → List Look
sights looks = filter (λ look. is_some look.version) looks

abbrev pub others : List Look → List Look
others looks = filter (λ look. is_none look.version) looks

-- the records of a worker
abbrev pub records_by : ℕ → List Seen → List Seen
records_by worker reads = filter (λ r. r.worker == worker) reads

-- The look is in a hold that the worker took for a read. In it the version of the record was loaded,
-- and the balances that its job asks, and the reply is of these.
pub record Shows (h : Guard) (worker : ℕ) (look : Look) (r : Seen) : Type 0 where
  pub taken : IsToRead h worker look
  pub version : look.version ≡ Some r.version
  pub answers : Answers (length h.opening) r.job r.reply look.loads

-- One look of the worker shows each of its records, in order, and no other loaded a version. The
-- others, two for each job that writes, are in holds that the worker took for a write.
pub record AreLooksOf (h : Guard) (worker : ℕ) (jobs : List Job) (reads : List Seen)
    (looks : List Look) : Type 0 where
  pub shown : AllZip (Shows h worker) (sights looks) reads
  pub taken : All (IsToWrite h worker) (others looks)
  pub twice : length (others looks) ≡ 2 * writes_in jobs

-- Every read and write of the workload was made under its lock: these records and looks, those of
-- each worker in turn, tell it.
pub record UnderLock (work : Workload) (reads : List Seen) (looks : List (List Look)) : Type 0 where
  pub each : length looks ≡ workers_of work
  pub looks_are : (worker : ℕ)
      → worker < workers_of work
      → AreLooksOf (guard_for work) worker (jobs_of work worker) (records_by worker reads)
      (slice_index_or looks worker [])
