-- Each line of an outcome tells what it was made of.
use Rattle.std.proofs.Common.{[], ◌++◌, ap}
use Rattle.lk_job_forms.specs.TextLaws.{EntriesAreTold, ReadsAreTold, BalancesAreTold, TotalsAreTold}
use Rattle.lk_job_forms.proofs.JobTexts.{entry_same, seen_same, balance_same, total_same}

pub entries_told : EntriesAreTold
entries_told m n e f hm hn he hf is =
    let same = entry_same m n e f [] [] hm hn he hf (ap (λ t. t ++ []) is) in
    (same.0, same.1)

pub reads_told : ReadsAreTold
reads_told r s hr hs is = (seen_same r s [] [] hr hs (ap (λ t. t ++ []) is)).0

pub balances_told : BalancesAreTold
balances_told a b m n ha hb hm hn is =
    let same = balance_same a b m n [] [] ha hb hm hn (ap (λ t. t ++ []) is) in
    (same.0, same.1)

pub totals_told : TotalsAreTold
totals_told a b m n ha hb hm hn is =
    let same = total_same a b m n [] [] ha hb hm hn (ap (λ t. t ++ []) is) in
    (same.0, same.1)
