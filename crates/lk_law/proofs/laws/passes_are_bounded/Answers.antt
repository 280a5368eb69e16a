use Rattle.lk_law.proofs.cna.Knows.{passes_are_bounded, runs_are_bounded, run_is_short}
use Rattle.lk_law.proofs.laws.passes_are_bounded.Goals as goal

pub returns-clause-bounded : goal.returns-clause-bounded
returns-clause-bounded c = passes_are_bounded

pub returns-clause-runs : goal.returns-clause-runs
returns-clause-runs c = runs_are_bounded

pub returns-clause-short : goal.returns-clause-short
returns-clause-short c = run_is_short
