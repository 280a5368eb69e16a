use Rattle.lk_pvdomain.proofs.Kicked.{front_is_kicked}
use Rattle.lk_pvdomain.proofs.laws.fronts_are_kicked.Goals as goal

pub returns : goal.returns
returns c = record { kicked = front_is_kicked }
