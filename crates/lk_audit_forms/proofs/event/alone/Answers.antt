use Rattle.std.proofs.Common.{sym}
use Rattle.lk_audit_forms.proofs.Cuts.{none_no_more}
use Rattle.lk_audit_forms.proofs.event.alone.Goals as goal

pub returns-in-Some : goal.returns-in-Some
returns-in-Some c = rw c.in-Some.is (sym (none_no_more c.args.what c.in-Some.field-0.now))
