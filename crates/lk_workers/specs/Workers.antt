-- The workers before and after their jobs.
use Rattle.std.specs.Prelude.{◌≡◌, ◌<◌, ℕ, List, [], length, slice_index_or}
use Rattle.std.specs.List.{flat_map}
use Rattle.lk_names.specs.ListOf.{ListOf}
use Rattle.lk_names.specs.declared.ledger.Job.{Job}
use Rattle.lk_names.specs.declared.ledger.Seen.{Seen}
use Rattle.lk_names.specs.Workload.{Workload, jobs_of}
use Rattle.lk_domain.specs.Ledgers.{with_share}
use Rattle.lk_domain.specs.Plans.{share_of}
use Rattle.lk_domain.specs.Seats.{ledger_of}
use Rattle.lk_domain.specs.Views.{newcomer}
use Rattle.lk_domain.specs.declared.cpu.Cpu.{Cpu}
use Rattle.lk_guard.specs.Idle.{Crew}
use Rattle.lk_guard.specs.Deeds.{Worked, reads_in, writes_in}
use Rattle.lk_guard.specs.Guards.{guard_in}
use Rattle.lk_workers.specs.declared.worker.Worker.{Worker}

-- parts of a worker

abbrev pub cpu_of : Worker → Cpu
cpu_of worker = worker.cpu

abbrev pub reads_of : Worker → ListOf Seen
reads_of worker = worker.reads

abbrev pub records_in : Worker → List Seen
records_in worker = worker.reads.items

-- the records of all workers, one worker after another
abbrev pub all_records : List Worker → List Seen
all_records workers = flat_map records_in workers

-- an empty list with room for a record of each job that reads
abbrev pub no_records : List Job → ListOf Seen
no_records jobs = record { items = []; room = reads_in jobs }

-- what is in the list is so, each by its place
abbrev pub InOrder : {A : Type 0} → (ℕ → A → Type 0) → List A → Type 0
InOrder is xs = (i : ℕ) (d : _) → i < length xs → is i (slice_index_or xs i d)

-- the processor i of its domain, which is ready
pub record Rests (crew : Crew) (i : ℕ) (cpu : Cpu) : Type 0 where
  pub ready : crew.ready cpu
  pub number : cpu.number ≡ i
  pub who : cpu.seat.me.0.who ≡ newcomer crew.plan i

-- a new domain gave it this number, and its share
pub record IsDealt (crew : Crew) (i : ℕ) (cpu : Cpu) : Type 0 where
  pub rests : Rests crew i cpu
  pub ledger : ledger_of cpu ≡ with_share (share_of crew.plan i)

-- The worker i before its jobs: its processor may write an entry for each that writes, and its list
-- has room for a record of each that reads.
pub record IsReady (crew : Crew) (jobs : List Job) (i : ℕ) (worker : Worker) : Type 0 where
  pub rests : Rests crew i worker.cpu
  pub ledger : ledger_of worker.cpu ≡ with_share (writes_in jobs)
  pub reads : worker.reads ≡ no_records jobs

-- the worker i after its jobs, which it did in order
pub record IsThrough (crew : Crew) (jobs : List Job) (i : ℕ) (worker : Worker) : Type 0 where
  pub rests : Rests crew i worker.cpu
  pub worked : Worked (guard_in crew.plan) i jobs (with_share (writes_in jobs))
      (ledger_of worker.cpu) [] worker.reads.items

-- each worker is so, in order of their numbers
abbrev pub AreReady : Crew → Workload → List Worker → Type 0
AreReady crew work workers = InOrder (λ i. IsReady crew (jobs_of work i) i) workers

abbrev pub AreThrough : Crew → Workload → List Worker → Type 0
AreThrough crew work workers = InOrder (λ i. IsThrough crew (jobs_of work i) i) workers
