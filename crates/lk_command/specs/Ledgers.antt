-- What each status of a ledger means, by what is seen of the source and the sink before it and after
-- it.
use Rattle.std.specs.Prelude.{◌≡◌, ◌⊎◌, ℕ, List, Some, Ok, Err}
use Rattle.std.specs.Io.KnownBytes.{Keeps}
use Rattle.lk_names.specs.declared.ledger.Entry.{Entry}
use Rattle.lk_names.specs.declared.ledger.Seen.{Seen}
use Rattle.lk_names.specs.Workload.{Workload}
use Rattle.lk_text.specs.Causes.{Rose}
use Rattle.lk_forms.specs.declared.answers.LineRefusal.{LineRefusal}
use Rattle.lk_forms.specs.declared.answers.LineRefusal.TheVariants.{Bad, Limit}
use Rattle.lk_stream.specs.Outside.{Outside}
use Rattle.lk_stream.specs.Outcome.{refused_fault}
use Rattle.lk_job_forms.specs.JobFile.{job_file}
use Rattle.lk_ledger.specs.Outcome.{IsRun, RefusedAt, CutByRead, CutByWrite}
use Rattle.lk_command.specs.Status.{status_at}
use Rattle.lk_command.specs.declared.status.Status.{Status}
use Rattle.lk_command.specs.declared.status.Status.TheVariants as status

-- The meaning of each status. Done: the text is a job file, and the sink grew by the text of an
-- outcome that may come of it: of a journal that replays, in which each worker's writes stand in
-- order, each once, of records of its reads, and of the closing balances (`IsRun`).
abbrev pub LedgerMeans : Outside → Outside → Status → Type 0
LedgerMeans old new status.Done = (journal : List Entry) × (reads : List Seen)
    × (balances : List ℕ) × IsRun old new journal reads balances
LedgerMeans old new status.Usage = ⊥
LedgerMeans old new (status.BadInput line why) = RefusedAt old new line (Bad why)
LedgerMeans old new (status.Limit line which) = RefusedAt old new line (Limit which)
LedgerMeans old new (status.Unlawful line) = ⊥
LedgerMeans old new status.ReadFault = CutByRead old new
LedgerMeans old new status.WriteFault = CutByWrite old new
LedgerMeans old new status.Memory = Keeps old.held new.held

-- What a ledger comes to: what its status means; the jobs of a job file are run, and another text is
-- refused at its first line that is refused, where neither count of faults rose and there is memory.
pub record Ledgers (old new : Outside) (came : Status) : Type 0 where
  pub means : LedgerMeans old new came
  pub complete : (bytes : List ℕ) (work : Workload) → old.left ≡ Some bytes
      → job_file bytes ≡ Ok work
      → ¬ Rose old.reads new.reads → ¬ Rose old.writes new.writes
      → (came ≡ status.Done) ⊎ (came ≡ status.Memory)
  pub exact : (bytes : List ℕ) (line : ℕ) (why : LineRefusal) → old.left ≡ Some bytes
      → job_file bytes ≡ Err (line, why)
      → ¬ Rose old.reads new.reads → ¬ Rose old.writes new.writes
      → (came ≡ status_at (refused_fault line why)) ⊎ (came ≡ status.Memory)
