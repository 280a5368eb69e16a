use Rattle.lk_progress.proofs.Budget.{acts_lower, price_falls, runs_are_short}
use Rattle.lk_progress.proofs.Descends.{row_descends, begin_is_short}
use Rattle.lk_progress.proofs.Runs.{runs_end, native_runs_end}
use Rattle.lk_progress.proofs.halting.Budget.{halting_acts_lower, halting_price_falls}
use Rattle.lk_progress.proofs.halting.Budget.{halting_runs_are_short}
use Rattle.lk_progress.proofs.{halting.Descends.halting_row_descends, halting.Rest.halting_runs_end}
use Rattle.lk_progress.proofs.halting.Spins.{halting_begin_is_short, row_keeps_spins}
use Rattle.lk_progress.proofs.laws.operations_are_short.Goals as goal

pub returns : goal.returns
returns c = record {
  rows = row_descends;
  begin = begin_is_short;
  acts = acts_lower;
  falls = price_falls;
  runs = runs_are_short;
  ends = runs_end;
  native = native_runs_end;
  halting_rows = halting_row_descends;
  halting_begin = halting_begin_is_short;
  halting_spins = row_keeps_spins;
  halting_acts = halting_acts_lower;
  halting_falls = halting_price_falls;
  halting_runs = halting_runs_are_short;
  halting_ends = halting_runs_end;
}
