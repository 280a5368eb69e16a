use Rattle.lk_core.proofs.ActDone.{rows_are_ready}
use Rattle.lk_core.proofs.laws.rows_are_ready.Goals as goal

pub returns : goal.returns
returns c = record { ready = rows_are_ready }
