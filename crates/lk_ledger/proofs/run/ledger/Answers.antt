use Rattle.lk_ledger.proofs.Came.{few_balances}
use Rattle.lk_ledger.proofs.run.ledger.Goals as goal

pub write_outcome-requires : goal.write_outcome-requires
write_outcome-requires g c =
    rw c.balances.ensures (few_balances _ _ _ _ c.in_ok-file.ensures.lawful
    c.in_ok-outcome.ensures.outcome)
