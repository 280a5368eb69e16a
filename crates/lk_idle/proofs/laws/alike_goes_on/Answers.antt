use Rattle.lk_idle.proofs.Goes.{alike_goes_on}
use Rattle.lk_idle.proofs.laws.alike_goes_on.Goals as goal

pub returns : goal.returns
returns c = record { goes_on = alike_goes_on }
