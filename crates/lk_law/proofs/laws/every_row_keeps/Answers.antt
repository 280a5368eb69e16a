use Rattle.lk_law.proofs.common.EveryRow.{every_row_keeps}
use Rattle.lk_law.proofs.laws.every_row_keeps.Goals as goal

pub returns : goal.returns
returns c = record { rows = every_row_keeps }
