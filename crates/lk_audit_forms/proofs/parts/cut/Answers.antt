use Rattle.std.proofs.Common.{sym}
use Rattle.lk_audit_forms.proofs.Cuts.{cut_none, cut_some}
use Rattle.lk_audit_forms.proofs.parts.cut.Goals as goal

pub returns-in-None : goal.returns-in-None
returns-in-None c = cut_none c.args.mark c.args.bytes.now (sym c.in-None.ensures)

pub returns-in-Some : goal.returns-in-Some
returns-in-Some c = cut_some c.args.mark c.args.bytes.now c.in-Some.at (sym c.in-Some.ensures)
