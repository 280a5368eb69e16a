use Rattle.lk_reach.proofs.apart.Counts.{counts_are_idle}
use Rattle.lk_reach.proofs.laws.counts_are_idle.Goals as goal

pub returns : goal.returns
returns c = record { idle = counts_are_idle }
