use Rattle.lk_renaming.proofs.Composed.{compose, twice, back}
use Rattle.lk_renaming.proofs.laws.renamings_compose.Goals as goal

pub returns : goal.returns
returns c = record { compose = compose; twice = twice; back = back }
