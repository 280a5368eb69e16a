use Rattle.lk_core.proofs.Runs.{acts_keep}
use Rattle.lk_core.proofs.laws.acts_keep.Goals as goal

pub returns : goal.returns
returns c = record { keep = acts_keep }
