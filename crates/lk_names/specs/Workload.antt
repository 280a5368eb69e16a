-- What a job file says: the lock, the workers, the accounts, and the jobs.
use Rattle.std.specs.Prelude.{◌≤◌, ◌<◌, ◌≡◌, ℕ, List, [], All, length, map, slice_index_or}
use Rattle.std.specs.List.{sum, sum_by}
use Rattle.lk_names.specs.declared.names.Format.{Format}
use Rattle.lk_names.specs.declared.names.Kind.{Kind}
use Rattle.lk_names.specs.declared.names.Kind.TheVariants.{Spin}
use Rattle.lk_names.specs.declared.names.Mode.{Mode}
use Rattle.lk_names.specs.declared.names.Mode.TheVariants.{Pv}
use Rattle.lk_names.specs.declared.ledger.Job.{Job}
use Rattle.lk_names.specs.declared.ledger.Job.TheVariants as job
use Rattle.lk_names.specs.Jobs.{IsAmong, full}
use Rattle.lk_names.specs.declared.limits.TheConstants.{MAX_SOCKET, MAX_TURNS, MAX_ACCOUNTS, MAX_JOBS, MAX_WORKERS}
use Rattle.lk_names.specs.declared.job_file.JobFile.{JobFile}

-- the format, the mode of the lock and its kind, the socket of each worker, the threshold, the
-- opening balance of each account, and the jobs of each worker
pub record Workload : Type 0 where
  pub format : Format
  pub mode : Mode
  pub guard : Kind
  pub sockets : List ℕ
  pub threshold : ℕ
  pub balances : List ℕ
  pub jobs : List (List Job)

-- what the file in memory says
abbrev pub workload_of : JobFile → Workload
workload_of file =
    record {
      format = file.format;
      mode = file.mode;
      guard = file.guard;
      sockets = file.topology.sockets.items;
      threshold = file.threshold;
      balances = file.balances.items;
      jobs = map (λ jobs. jobs.items) file.jobs.items;
    }

-- how many workers there are
abbrev pub workers_of : Workload → ℕ
workers_of w = length w.jobs

-- the jobs of a worker, none where there is no such worker
abbrev pub jobs_of : Workload → ℕ → List Job
jobs_of w worker = slice_index_or w.jobs worker []

-- how many jobs all workers have
abbrev pub job_count : List (List Job) → ℕ
job_count jobs = sum_by (λ js. length js) jobs

-- no amount of a job reaches the limit of a sum
abbrev pub IsBounded : Job → Type 0
IsBounded (job.Move from to amount) = amount < full
IsBounded (job.Add account amount) = amount < full
IsBounded job.Sum = Unit {0}
IsBounded (job.Get account) = Unit {0}

-- the accounts of a job are there, and its amount is bounded
abbrev pub IsFair : ℕ → Job → Type 0
IsFair accounts job = IsAmong accounts job × IsBounded job

-- What holds of everything that a job file can say. Where processors halt, all locks are spinlocks.
pub record IsLawful (w : Workload) : Type 0 where
  pub guarded : w.mode ≡ Pv → w.guard ≡ Spin
  pub some : 1 ≤ workers_of w
  pub few : workers_of w ≤ MAX_WORKERS
  pub each : length w.sockets ≡ workers_of w
  pub near : All (λ socket. socket ≤ MAX_SOCKET) w.sockets
  pub threshold : w.threshold ≤ MAX_TURNS
  pub accounts : length w.balances ≤ MAX_ACCOUNTS
  pub total : sum w.balances < full
  pub jobs : job_count w.jobs ≤ MAX_JOBS
  pub fair : All (λ jobs. All (IsFair (length w.balances)) jobs) w.jobs
