-- What an audit comes to, by what `audit` answers.
use Rattle.std.proofs.Common.{◌≡◌, ◌⊎◌, ℕ, List, Some, Result, Ok, Err, IsOkUnless, IsErrAnd, inl, inr, ap, refl}
use Rattle.lk_names.specs.declared.events.Breach.{Breach}
use Rattle.lk_text.specs.Causes.{Rose}
use Rattle.lk_forms.specs.declared.answers.LineRefusal.{LineRefusal}
use Rattle.lk_stream.specs.Outside.{Outside}
use Rattle.lk_stream.specs.Grammar.{Good, Refused, saying}
use Rattle.lk_audit_forms.specs.Grammar.{Said, audit_grammar}
use Rattle.lk_audit_forms.specs.Texts.{name_of}
use Rattle.lk_audit.specs.Lawful.{IsLawfulSo, BreaksAt}
use Rattle.lk_audit.specs.Outcome.{Outcome, refused_fault}
use Rattle.lk_audit.specs.declared.answers.AuditFault.{AuditFault}
use Rattle.lk_audit.specs.declared.answers.AuditFault.TheVariants as fault
use Rattle.lk_command.specs.Audits.{AuditMeans, Audits, status_audited, status_audited_at}
use Rattle.lk_command.specs.declared.status.Status.TheVariants as status

means_of : (old new : Outside) (answer : Result ℕ AuditFault) → Outcome old new answer
    → AuditMeans old new (status_audited answer)
means_of old new (Ok events) outcome = (events, outcome)
means_of old new (Err (fault.BadInput line why)) outcome = outcome
means_of old new (Err (fault.Limit line which)) outcome = outcome
means_of old new (Err (fault.Breach line name)) outcome = (outcome.0, outcome.2)
means_of old new (Err fault.ReadFault) outcome = outcome
means_of old new (Err fault.WriteFault) outcome = outcome
means_of old new (Err fault.Memory) outcome = outcome

done_unless : (answer : Result ℕ AuditFault) → IsOkUnless answer fault.Memory
    → (status_audited answer ≡ status.Done) ⊎ (status_audited answer ≡ status.Memory)
done_unless (Ok events) unless = inl refl
done_unless (Err why) unless = inr (ap status_audited_at unless)

fails_with : (answer : Result ℕ AuditFault) (why : AuditFault)
    → IsErrAnd answer (λ f. (f ≡ why) ⊎ (f ≡ fault.Memory))
    → (status_audited answer ≡ status_audited_at why) ⊎ (status_audited answer ≡ status.Memory)
fails_with (Ok events) why fails = absurd fails
fails_with (Err f) why fails =
    elim fails [ inl e ↦ inl (ap status_audited_at e) | inr e ↦ inr (ap status_audited_at e) ]

pub audited_memory : (answer : Result ℕ AuditFault) → status_audited answer ≡ status.Memory
    → answer ≡ Err fault.Memory
audited_memory (Ok events) is = cc
audited_memory (Err (fault.BadInput line why)) is = cc
audited_memory (Err (fault.Limit line which)) is = cc
audited_memory (Err (fault.Breach line name)) is = cc
audited_memory (Err fault.ReadFault) is = cc
audited_memory (Err fault.WriteFault) is = cc
audited_memory (Err fault.Memory) is = refl

pub audits : (old new : Outside) (answer : Result ℕ AuditFault) → Outcome old new answer
    → ((bytes : List ℕ) (said : Said) → old.left ≡ Some bytes
    → saying audit_grammar bytes ≡ Good said → IsLawfulSo said
    → ¬ Rose old.reads new.reads → ¬ Rose old.writes new.writes → IsOkUnless answer fault.Memory)
    → ((bytes : List ℕ) (line : ℕ) (breach : Breach)
    → old.left ≡ Some bytes → BreaksAt bytes line breach
    → ¬ Rose old.reads new.reads → ¬ Rose old.writes new.writes
    → IsErrAnd answer (λ f. (f ≡ fault.Breach line (name_of breach)) ⊎ (f ≡ fault.Memory)))
    → ((bytes : List ℕ) (line : ℕ) (why : LineRefusal) (said : Said) → old.left ≡ Some bytes
    → saying audit_grammar bytes ≡ Refused line why said → IsLawfulSo said
    → ¬ Rose old.reads new.reads → ¬ Rose old.writes new.writes
    → IsErrAnd answer (λ f. (f ≡ refused_fault line why) ⊎ (f ≡ fault.Memory)))
    → Audits old new (status_audited answer)
audits old new answer outcome complete breaks exact = record {
  means = means_of old new answer outcome;
  complete = λ bytes said left is lawful reads writes.
      done_unless answer (complete bytes said left is lawful reads writes);
  breaks = λ bytes line breach left is reads writes.
      fails_with answer (fault.Breach line (name_of breach)) (breaks bytes line breach left is reads writes);
  exact = λ bytes line why said left is lawful reads writes.
      fails_with answer (refused_fault line why) (exact bytes line why said left is lawful reads writes);
}
