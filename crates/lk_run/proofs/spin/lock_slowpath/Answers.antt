use Rattle.lk_run.proofs.spin.lock_slowpath.Goals as goal

pub wait_on-requires-clause-begun : goal.wait_on-requires-clause-begun
wait_on-requires-clause-begun g c = c.requires.begun

pub returns : goal.returns
returns g c = c.wait_on.ensures
