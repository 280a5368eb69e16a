use Rattle.lk_thread_tests.proofs.pv_polls.frees.Goals as goal

pub pv_try_unlock-requires-clause-value : goal.pv_try_unlock-requires-clause-value
pv_try_unlock-requires-clause-value c = c.requires.has.home
