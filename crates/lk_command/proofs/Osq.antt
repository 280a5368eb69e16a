-- What a run of the spin queue comes to, by what `osq` answers.
use Rattle.std.proofs.Common.{◌≡◌, ◌⊎◌, ℕ, List, Some, Result, Ok, Err, IsOkUnless, IsErrAnd, inl, inr, ap, refl}
use Rattle.lk_text.specs.Causes.{Rose}
use Rattle.lk_forms.specs.declared.answers.LineRefusal.{LineRefusal}
use Rattle.lk_stream.specs.Outside.{Outside}
use Rattle.lk_stream.specs.Grammar.{Good, Refused, saying}
use Rattle.lk_stream.specs.Outcome.{refused_fault}
use Rattle.lk_stream.specs.declared.answers.ReplayFault.{ReplayFault}
use Rattle.lk_stream.specs.declared.answers.ReplayFault.TheVariants as fault
use Rattle.lk_osq_forms.specs.Grammar.{Said}
use Rattle.lk_osq_forms.specs.Trace.{osq_grammar}
use Rattle.lk_osq_replay.specs.Outcome.{OsqOutcome}
use Rattle.lk_command.specs.Status.{status_at, came_to}
use Rattle.lk_command.specs.OsqRuns.{OsqMeans, OsqRuns}
use Rattle.lk_command.specs.declared.status.Status.TheVariants as status

means_of : (old new : Outside) (answer : Result ℕ ReplayFault) → OsqOutcome old new answer
    → OsqMeans old new (came_to answer)
means_of old new (Ok acts) outcome = (acts, outcome)
means_of old new (Err (fault.BadInput line why)) outcome = outcome
means_of old new (Err (fault.Limit line which)) outcome = outcome
means_of old new (Err fault.ReadFault) outcome = outcome
means_of old new (Err fault.WriteFault) outcome = outcome
means_of old new (Err fault.Memory) outcome = outcome

done_unless : (answer : Result ℕ ReplayFault) → IsOkUnless answer fault.Memory
    → (came_to answer ≡ status.Done) ⊎ (came_to answer ≡ status.Memory)
done_unless (Ok acts) unless = inl refl
done_unless (Err why) unless = inr (ap status_at unless)

fails_with : (answer : Result ℕ ReplayFault) (why : ReplayFault)
    → IsErrAnd answer (λ f. (f ≡ why) ⊎ (f ≡ fault.Memory))
    → (came_to answer ≡ status_at why) ⊎ (came_to answer ≡ status.Memory)
fails_with (Ok acts) why fails = absurd fails
fails_with (Err f) why fails =
    elim fails [ inl e ↦ inl (ap status_at e) | inr e ↦ inr (ap status_at e) ]

pub osq_runs : (old new : Outside) (answer : Result ℕ ReplayFault) → OsqOutcome old new answer
    → ((bytes : List ℕ) (said : Said) → old.left ≡ Some bytes
    → saying osq_grammar bytes ≡ Good said
    → ¬ Rose old.reads new.reads → ¬ Rose old.writes new.writes → IsOkUnless answer fault.Memory)
    → ((bytes : List ℕ) (line : ℕ) (why : LineRefusal) (said : Said) → old.left ≡ Some bytes
    → saying osq_grammar bytes ≡ Refused line why said
    → ¬ Rose old.reads new.reads → ¬ Rose old.writes new.writes
    → IsErrAnd answer (λ f. (f ≡ refused_fault line why) ⊎ (f ≡ fault.Memory)))
    → OsqRuns old new (came_to answer)
osq_runs old new answer outcome complete exact = record {
  means = means_of old new answer outcome;
  complete = λ bytes said left is reads writes.
      done_unless answer (complete bytes said left is reads writes);
  exact = λ bytes line why said left is reads writes.
      fails_with answer (refused_fault line why) (exact bytes line why said left is reads writes);
}
