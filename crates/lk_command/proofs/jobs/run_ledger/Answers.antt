use Rattle.lk_command.proofs.Ledger.{ledgers}
use Rattle.lk_command.proofs.jobs.run_ledger.Goals as goal

pub returns-clause-runs : goal.returns-clause-runs
returns-clause-runs g c =
    let came = c.ledger.ensures in
    rw c.of.ensures (ledgers _ _ c.ledger.result came.done came.fault came.complete came.exact)
