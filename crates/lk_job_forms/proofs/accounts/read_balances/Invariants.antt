use Rattle.std.proofs.Common.{◌≡◌, ◌≤◌, [], length}
use Rattle.lk_names.specs.declared.limits.TheConstants.{MAX_ACCOUNTS}
use Rattle.lk_forms.specs.Words.{words}
use Rattle.lk_job_forms.specs.Lines.{balances_from}
use Rattle.lk_job_forms.proofs.accounts.read_balances.Given as goal

abbrev pub invariant-loop-word : goal.invariant-loop-word
invariant-loop-word l = record {
  same : balances_from l.balances.items (words l.rest) ≡ balances_from [] (words l.args);
  room : l.balances.room ≡ MAX_ACCOUNTS;
  few : length l.balances.items ≤ MAX_ACCOUNTS;
}

abbrev pub decreases-loop-word : goal.decreases-loop-word
decreases-loop-word l = length l.rest
