use Rattle.lk_fold.proofs.Fold.{small_space_is_enough, stand_ins_tell}
use Rattle.lk_fold.proofs.laws.small_space_is_enough.Goals as goal

pub returns : goal.returns
returns c = record { enough = small_space_is_enough; tells = stand_ins_tell }
