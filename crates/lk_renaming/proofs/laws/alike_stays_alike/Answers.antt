use Rattle.lk_renaming.proofs.Bared.{alike_stays}
use Rattle.lk_renaming.proofs.laws.alike_stays_alike.Goals as goal

pub returns : goal.returns
returns c = record { alike = alike_stays }
