use Rattle.lk_command.proofs.Osq.{osq_runs}
use Rattle.lk_command.proofs.spin_queue.run_osq.Goals as goal

pub returns-clause-runs : goal.returns-clause-runs
returns-clause-runs g c =
    let came = c.osq.ensures in
    rw c.of.ensures (osq_runs _ _ c.osq.result came.outcome came.complete came.exact)
