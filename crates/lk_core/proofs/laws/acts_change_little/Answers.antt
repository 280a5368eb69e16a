use Rattle.lk_core.proofs.{CountsKept.counts_within, Setups.setup_kept}
use Rattle.lk_core.proofs.laws.acts_change_little.Goals as goal

pub returns : goal.returns
returns c = record { setup = setup_kept; counts = counts_within }
