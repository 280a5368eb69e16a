use Rattle.lk_core.proofs.Runs.{rest_shows}
use Rattle.lk_core.proofs.laws.rest_shows.Goals as goal

pub returns : goal.returns
returns c = record { rest = rest_shows }
