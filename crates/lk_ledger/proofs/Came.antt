-- What a ledger comes to.
use Rattle.std.proofs.Common.{◌<◌, ◌^◌, ℕ, List, length, arith}
use Rattle.lk_names.specs.declared.ledger.Entry.{Entry}
use Rattle.lk_names.specs.declared.ledger.Seen.{Seen}
use Rattle.lk_names.specs.Workload.{Workload, IsLawful}
use Rattle.lk_names.specs.Outcome.{IsOutcome}
use Rattle.lk_domain.proofs.journals.Loads.{entries_long}

-- there are few closing balances
pub few_balances : (work : Workload) (journal : List Entry) (reads : List Seen)
    (balances : List ℕ) → IsLawful work → IsOutcome work journal reads balances
    → length balances < 2 ^ 32
few_balances work journal reads balances lawful outcome =
    rw outcome.closing (omega (arith, entries_long work.balances journal, lawful.accounts))
