use Rattle.std.proofs.Common.{sym}
use Rattle.lk_audit_forms.proofs.Cuts.{one_no_more}
use Rattle.lk_audit_forms.proofs.parts.one_word.Goals as goal

pub returns-in_default-Some : goal.returns-in_default-Some
returns-in_default-Some c =
    rw (c.in_ok-word.ensures, c.in_default-Some.is-1) (sym (one_no_more 32 _ c.in_default-Some.field-0-1.now))
