use Rattle.lk_law.proofs.cna.Knows.{aside_are_tasks}
use Rattle.lk_law.proofs.laws.aside_are_tasks.Goals as goal

pub returns : goal.returns
returns c = aside_are_tasks
