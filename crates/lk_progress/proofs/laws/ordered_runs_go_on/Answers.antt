use Rattle.lk_progress.proofs.HaltingSteps.{somebody_leads_on_halting}
use Rattle.lk_progress.proofs.Runs.{ordered_runs_go_on, somebody_moves_on}
use Rattle.lk_progress.proofs.RunsAside.{ordered_runs_go_on_aside, somebody_leads_on_aside}
use Rattle.lk_progress.proofs.RunsHalting.{ordered_runs_go_on_halting}
use Rattle.lk_progress.proofs.laws.ordered_runs_go_on.Goals as goal

pub returns : goal.returns
returns c = record {
  stuck = ordered_runs_go_on;
  moves = somebody_moves_on;
  aside = ordered_runs_go_on_aside;
  leads_aside = somebody_leads_on_aside;
  halting = ordered_runs_go_on_halting;
  leads = somebody_leads_on_halting;
}
