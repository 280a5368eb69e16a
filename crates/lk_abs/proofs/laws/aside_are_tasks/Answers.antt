use Rattle.lk_abs.proofs.Aside.{aside_are_tasks}
use Rattle.lk_abs.proofs.laws.aside_are_tasks.Goals as goal

pub returns : goal.returns
returns c = aside_are_tasks
