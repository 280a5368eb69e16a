-- How many of a worker's jobs write and read.
use Rattle.std.proofs.Common.{◌≡◌, ◌+◌, ◌≤◌, ℕ, zero, suc, Bool, true, false, List, [], ◌∷◌, length, get_or, if◌then◌else◌, arith}
use Rattle.std.specs.List.{sum_by}
use Rattle.std.proofs.lemmas.List.Sums.{sum_by-cons}
use Rattle.lk_names.specs.Journal.{is_write}
use Rattle.lk_names.specs.declared.ledger.Job.{Job}
use Rattle.lk_names.specs.Workload.{job_count}
use Rattle.lk_guard.specs.Deeds.{reads_in, writes_in}

-- a job either writes or reads
pub each_counts : (jobs : List Job) → writes_in jobs + reads_in jobs ≡ length jobs
each_counts [] = omega arith
each_counts (job ∷ jobs) = by_test (is_write job) (each_counts jobs)
  where
    by_test : (b : Bool) → writes_in jobs + reads_in jobs ≡ length jobs
        → ((if b then 1 else 0) + writes_in jobs) + ((if b then 0 else 1) + reads_in jobs) ≡ length (job ∷ jobs)
    by_test true is = omega (arith, is)
    by_test false is = omega (arith, is)

-- one list of jobs more
pub more_reads : (jobs : List Job) (rest : List (List Job)) → sum_by reads_in (jobs ∷ rest) ≡ reads_in jobs + sum_by reads_in rest
more_reads jobs rest = sum_by-cons reads_in jobs rest

-- no more jobs read than there are
pub reads_few : (file : List (List Job)) → sum_by reads_in file ≤ job_count file
reads_few [] = omega arith
reads_few (jobs ∷ rest) =
    omega (arith, more_reads jobs rest, sum_by-cons (λ (js : List Job). length js) jobs rest, each_counts jobs, reads_few rest)

-- the jobs of one worker are no more than all
pub one_few : (file : List (List Job)) (jobs : List Job) → job_count (jobs ∷ file) ≡ length jobs + job_count file
one_few file jobs = sum_by-cons (λ (js : List Job). length js) jobs file

-- no worker has more jobs than there are
pub each_few : (file : List (List Job)) (i : ℕ) → length (get_or file i []) ≤ job_count file
each_few [] i = omega arith
each_few (jobs ∷ rest) zero = omega (arith, one_few rest jobs)
each_few (jobs ∷ rest) (suc i) = omega (arith, one_few rest jobs, each_few rest i)
