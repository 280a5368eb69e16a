use Rattle.lk_law.proofs.common.Knows.{row_knows}
use Rattle.lk_law.proofs.laws.rows_know.Goals as goal

pub returns : goal.returns
returns c = record { rows = row_knows }
