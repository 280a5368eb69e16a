use Rattle.lk_reach.proofs.Likeness.{makes_alike, over_alike}
use Rattle.lk_reach.proofs.laws.alike_states_tell.Goals as goal

pub returns : goal.returns
returns c = record { rows = makes_alike; over = over_alike }
