use Rattle.std.proofs.Common.{◌∙◌, sym}
use Rattle.lk_command.proofs.Audited.{audits, audited_memory}
use Rattle.lk_command.proofs.auditing.run_audit.Goals as goal

pub returns-clause-runs : goal.returns-clause-runs
returns-clause-runs g c =
    let came = c.audit.ensures in
    rw c.of_audit.ensures (audits _ _ c.audit.result came.outcome came.complete came.breaks came.exact)

pub returns-clause-memory : goal.returns-clause-memory
returns-clause-memory g c =
    λ memory. c.audit.ensures.untouched (audited_memory c.audit.result (sym c.of_audit.ensures ∙ memory))
