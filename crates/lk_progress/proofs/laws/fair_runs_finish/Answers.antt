use Rattle.lk_progress.proofs.{Fair.fair_runs_finish, halting.Fair.halting_fair_runs_finish}
use Rattle.lk_progress.proofs.laws.fair_runs_finish.Goals as goal

pub returns : goal.returns
returns c = record { finish = fair_runs_finish; halting = halting_fair_runs_finish }
