-- What each status of an audit means, by what is seen of the source and the sink before it and after it.
use Rattle.std.specs.Prelude.{◌≡◌, ◌⊎◌, ℕ, List, Some, Result, Ok, Err}
use Rattle.std.specs.Io.KnownBytes.{Keeps}
use Rattle.lk_names.specs.declared.events.Breach.{Breach}
use Rattle.lk_text.specs.Causes.{Rose}
use Rattle.lk_forms.specs.declared.answers.LineRefusal.{LineRefusal}
use Rattle.lk_forms.specs.declared.answers.LineRefusal.TheVariants.{Bad, Limit}
use Rattle.lk_stream.specs.Outside.{Outside}
use Rattle.lk_stream.specs.Grammar.{Good, Refused, saying}
use Rattle.lk_audit_forms.specs.Grammar.{Said, audit_grammar}
use Rattle.lk_audit.specs.Lawful.{IsLawfulSo, BreaksAt}
use Rattle.lk_audit.specs.Outcome.{IsAccepted, IsRefused, HasBreach, CutByRead, CutByWrite, refused_fault}
use Rattle.lk_audit.specs.declared.answers.AuditFault.{AuditFault}
use Rattle.lk_audit.specs.declared.answers.AuditFault.TheVariants as fault
use Rattle.lk_command.specs.declared.status.Status.{Status}
use Rattle.lk_command.specs.declared.status.Status.TheVariants as status

-- the status of a fault of an audit
abbrev pub status_audited_at : AuditFault → Status
status_audited_at (fault.BadInput line why) = status.BadInput line why
status_audited_at (fault.Limit line which) = status.Limit line which
status_audited_at (fault.Breach line name) = status.Unlawful line
status_audited_at fault.ReadFault = status.ReadFault
status_audited_at fault.WriteFault = status.WriteFault
status_audited_at fault.Memory = status.Memory

-- what an audit came to
abbrev pub status_audited : {T : Type 0} → Result T AuditFault → Status
status_audited (Ok events) = status.Done
status_audited (Err why) = status_audited_at why

-- The meaning of each status. Done: the text is an accepted header with the text of a lawful history
-- and its closing lines, and the line `lawful e` was written. Unlawful: this line is the first that
-- breaks the history, and the line `breach n Name` was written.
abbrev pub AuditMeans : Outside → Outside → Status → Type 0
AuditMeans old new status.Done = (events : ℕ) × IsAccepted old new events
AuditMeans old new status.Usage = ⊥
AuditMeans old new (status.BadInput line why) = IsRefused old new line (Bad why)
AuditMeans old new (status.Limit line which) = IsRefused old new line (Limit which)
AuditMeans old new (status.Unlawful line) = (breach : Breach) × HasBreach old new line breach
AuditMeans old new status.ReadFault = CutByRead old new
AuditMeans old new status.WriteFault = CutByWrite old new
AuditMeans old new status.Memory = Keeps old.held new.held

-- What an audit comes to: what its status means; and where neither count of faults rose and there is
-- memory, a lawful history is accepted, one that a line breaks is unlawful there, and another text is
-- refused at its first line that is refused.
pub record Audits (old new : Outside) (came : Status) : Type 0 where
  pub means : AuditMeans old new came
  pub complete : (bytes : List ℕ) (said : Said) → old.left ≡ Some bytes
      → saying audit_grammar bytes ≡ Good said → IsLawfulSo said
      → ¬ Rose old.reads new.reads → ¬ Rose old.writes new.writes
      → (came ≡ status.Done) ⊎ (came ≡ status.Memory)
  pub breaks : (bytes : List ℕ) (line : ℕ) (breach : Breach)
      → old.left ≡ Some bytes → BreaksAt bytes line breach
      → ¬ Rose old.reads new.reads → ¬ Rose old.writes new.writes
      → (came ≡ status.Unlawful line) ⊎ (came ≡ status.Memory)
  pub exact : (bytes : List ℕ) (line : ℕ) (why : LineRefusal) (said : Said)
      → old.left ≡ Some bytes → saying audit_grammar bytes ≡ Refused line why said
      → IsLawfulSo said
      → ¬ Rose old.reads new.reads → ¬ Rose old.writes new.writes
      → (came ≡ status_audited_at (refused_fault line why)) ⊎ (came ≡ status.Memory)
