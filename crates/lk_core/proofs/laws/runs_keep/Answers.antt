use Rattle.lk_core.proofs.Runs.{runs_keep}
use Rattle.lk_core.proofs.laws.runs_keep.Goals as goal

pub returns : goal.returns
returns c = record { run = runs_keep }
