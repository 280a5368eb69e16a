use Rattle.lk_pvdomain.proofs.Kicked.{entry_is_found}
use Rattle.lk_pvdomain.proofs.laws.entries_are_found.Goals as goal

pub returns : goal.returns
returns c = record { found = entry_is_found }
