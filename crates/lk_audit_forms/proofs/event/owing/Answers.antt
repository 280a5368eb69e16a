use Rattle.std.proofs.Common.{sym, ◌∙◌, ap, Some}
use Rattle.lk_audit_forms.specs.Parts.{if_some}
use Rattle.lk_audit_forms.proofs.Cuts.{owing_some}
use Rattle.lk_audit_forms.proofs.event.owing.Goals as goal

pub returns-in_err-owed-in-Some : goal.returns-in_err-owed-in-Some
returns-in_err-owed-in-Some c =
    let words = c.in-Some.field-0.now in
    let none = rw c.in-Some.is at c.in_err-owed-in-Some.ensures in
    c.from_residual.ensures ∙ rw c.in-Some.is
    (ap (λ o. if_some o (λ p. Some (Some p))) none ∙ sym (owing_some words))
