use Rattle.lk_law.proofs.queue.Walks.{second_is_the_walk}
use Rattle.lk_law.proofs.laws.second_is_the_walk.Goals as goal

pub returns : goal.returns
returns c = record { walk = second_is_the_walk }
