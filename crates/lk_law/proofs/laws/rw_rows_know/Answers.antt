use Rattle.lk_law.proofs.{rw.Few.readers_are_few, rw.Knows.rw_row_knows}
use Rattle.lk_law.proofs.laws.rw_rows_know.Goals as goal

pub returns-clause-rows : goal.returns-clause-rows
returns-clause-rows c = rw_row_knows

pub returns-clause-few : goal.returns-clause-few
returns-clause-few c = readers_are_few
