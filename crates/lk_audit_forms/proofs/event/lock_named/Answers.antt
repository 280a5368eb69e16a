use Rattle.std.proofs.Common.{◌<◌, length, sym, ap, ◌∙◌, arith}
use Rattle.std.proofs.lemmas.Bool.Decides.{nat_tests}
use Rattle.lk_audit_forms.specs.EventLines.{lock_of_parts}
use Rattle.lk_audit_forms.proofs.Cuts.{lock_no_more}
use Rattle.lk_audit_forms.proofs.event.lock_named.Goals as goal

pub returns-in-Some-2 : goal.returns-in-Some-2
returns-in-Some-2 c =
    let some : 0 < length c.in-Some.rest.now = grind (arith, nat_tests, c.is_empty.ensures, c.if-is_empty.false) in
    let both = rw c.in-Some.is at c.cut.ensures in
    sym (ap lock_of_parts both ∙ lock_no_more c.cut.result.0.now c.in-Some.rest.now some)
