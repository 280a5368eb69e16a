-- What a ledger comes to, by what `ledger` answers.
use Rattle.std.proofs.Common.{◌≡◌, ◌⊎◌, ℕ, List, Some, Result, Ok, Err, IfOk, IfErr, IsOkUnless, IsErrAnd, inl, inr, ap, refl}
use Rattle.lk_names.specs.Workload.{Workload}
use Rattle.lk_text.specs.Causes.{Rose}
use Rattle.lk_forms.specs.declared.answers.LineRefusal.{LineRefusal}
use Rattle.lk_stream.specs.Outside.{Outside}
use Rattle.lk_stream.specs.Outcome.{refused_fault}
use Rattle.lk_stream.specs.declared.answers.ReplayFault.{ReplayFault}
use Rattle.lk_stream.specs.declared.answers.ReplayFault.TheVariants as fault
use Rattle.lk_job_forms.specs.JobFile.{job_file}
use Rattle.lk_workers.specs.Ended.{balances_in, journal_in}
use Rattle.lk_workers.specs.declared.running.Outcome.{Outcome}
use Rattle.lk_ledger.specs.Outcome.{HasRun, FaultMeans}
use Rattle.lk_command.specs.Status.{status_at, came_to}
use Rattle.lk_command.specs.Ledgers.{LedgerMeans, Ledgers}
use Rattle.lk_command.specs.declared.status.Status.TheVariants as status

module _ (old new : Outside) where
  means_of : (answer : Result Outcome ReplayFault) → IfOk answer (HasRun old new)
      → IfErr answer (FaultMeans old new) → LedgerMeans old new (came_to answer)
  means_of (Ok left) done means = (
    journal_in left.closed,
    left.reads.items,
    balances_in left.closed,
    record {
      comes = record {
        work = done.came.work;
        says = done.came.says;
        outcome = done.came.outcome;
      };
      all_read = done.all_read;
      written = done.written;
    },
  )
  means_of (Err (fault.BadInput line why)) done means = means
  means_of (Err (fault.Limit line which)) done means = means
  means_of (Err fault.ReadFault) done means = means
  means_of (Err fault.WriteFault) done means = means
  means_of (Err fault.Memory) done means = means

done_unless : (answer : Result Outcome ReplayFault) → IsOkUnless answer fault.Memory
    → (came_to answer ≡ status.Done) ⊎ (came_to answer ≡ status.Memory)
done_unless (Ok o) unless = inl refl
done_unless (Err why) unless = inr (ap status_at unless)

fails_with : (answer : Result Outcome ReplayFault) (why : ReplayFault)
    → IsErrAnd answer (λ f. (f ≡ why) ⊎ (f ≡ fault.Memory))
    → (came_to answer ≡ status_at why) ⊎ (came_to answer ≡ status.Memory)
fails_with (Ok o) why fails = absurd fails
fails_with (Err f) why fails =
    elim fails [ inl e ↦ inl (ap status_at e) | inr e ↦ inr (ap status_at e) ]

pub ledgers : (old new : Outside) (answer : Result Outcome ReplayFault)
    → IfOk answer (HasRun old new) → IfErr answer (FaultMeans old new)
    → ((bytes : List ℕ) (work : Workload) → old.left ≡ Some bytes → job_file bytes ≡ Ok work
    → ¬ Rose old.reads new.reads → ¬ Rose old.writes new.writes → IsOkUnless answer fault.Memory)
    → ((bytes : List ℕ) (line : ℕ) (why : LineRefusal) → old.left ≡ Some bytes
    → job_file bytes ≡ Err (line, why)
    → ¬ Rose old.reads new.reads → ¬ Rose old.writes new.writes
    → IsErrAnd answer (λ f. (f ≡ refused_fault line why) ⊎ (f ≡ fault.Memory)))
    → Ledgers old new (came_to answer)
ledgers old new answer done means complete exact = record {
  means = means_of old new answer done means;
  complete = λ bytes work left is reads writes.
      done_unless answer (complete bytes work left is reads writes);
  exact = λ bytes line why left is reads writes.
      fails_with answer (refused_fault line why) (exact bytes line why left is reads writes);
}
