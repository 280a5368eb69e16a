use Rattle.std.proofs.Common.{◌∷◌, sym, ap, ◌∙◌}
use Rattle.lk_audit_forms.specs.EventLines.{waiter_of_parts}
use Rattle.lk_audit_forms.proofs.Cuts.{waiter_no_more}
use Rattle.lk_audit_forms.proofs.event.waiter_named.Goals as goal

pub returns-in_default-Some : goal.returns-in_default-Some
returns-in_default-Some c =
    let first = rw c.in_ok-rest.was at c.cut.ensures in
    let second = rw c.in_default-Some.is-1 at c.cut-2.ensures in
    let none =
    waiter_no_more 46 c.cut.result.0.now c.cut-2.result.0.now c.in_default-Some.field-0-1.now in
    sym (ap waiter_of_parts (first ∙ ap (λ l. c.cut.result.0.now ∷ l) second) ∙ none)
