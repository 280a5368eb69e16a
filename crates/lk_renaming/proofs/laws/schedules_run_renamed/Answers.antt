use Rattle.lk_renaming.proofs.Runs.{schedules_run_renamed, schedules_have_names}
use Rattle.lk_renaming.proofs.laws.schedules_run_renamed.Goals as goal

pub returns : goal.returns
returns c = record { run = schedules_run_renamed; names = schedules_have_names }
