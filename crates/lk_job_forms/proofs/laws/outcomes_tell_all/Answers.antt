use Rattle.lk_job_forms.proofs.Told.{entries_told, reads_told, balances_told, totals_told}
use Rattle.lk_job_forms.proofs.Numbers.{outcomes_told}
use Rattle.lk_job_forms.proofs.laws.outcomes_tell_all.Goals as goal

pub returns : goal.returns
returns c = record { entries = entries_told; reads = reads_told; balances = balances_told; totals = totals_told; outcomes = outcomes_told }
