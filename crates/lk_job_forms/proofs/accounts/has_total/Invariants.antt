use Rattle.std.proofs.Common.{◌≡◌, ◌+◌, take}
use Rattle.std.specs.List.{sum}
use Rattle.lk_names.specs.declared.limits.TheConstants.{MAX_AMOUNT}
use Rattle.lk_job_forms.proofs.accounts.has_total.Given as goal

abbrev pub invariant-loop-balance : goal.invariant-loop-balance
invariant-loop-balance l = l.left + sum (take l.balance-index l.balances) ≡ MAX_AMOUNT
