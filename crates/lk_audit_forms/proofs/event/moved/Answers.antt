use Rattle.std.proofs.Common.{sym, ◌∙◌}
use Rattle.lk_audit_forms.proofs.Cuts.{moved_some}
use Rattle.lk_audit_forms.proofs.event.moved.Goals as goal

pub returns-in-Some : goal.returns-in-Some
returns-in-Some c = c.aside.ensures ∙ rw c.in-Some.is (sym (moved_some c.in-Some.field-0.now))
