use Rattle.lk_run.proofs.Places.{last_of_two}
use Rattle.lk_run.proofs.Calling as on
use Rattle.lk_run.proofs.Turning as turn
use Rattle.lk_run.proofs.call.Call.look_on.Goals as goal

pub look_again-requires : goal.look_again-requires
look_again-requires c = c.requires

pub pend-requires : goal.pend-requires
pend-requires c = on.stepped (turn.step_is c.in-P1.is c.look_again.ensures.goes) c.requires

pub returns-in-P1 : goal.returns-in-P1
returns-in-P1 c = turn.step_turns (turn.step_is c.in-P1.is c.look_again.ensures.goes) c.pend.ensures

pub slow-requires : goal.slow-requires
slow-requires c = on.stepped (turn.step_is (last_of_two c.look_again.result c.look_again.ensures.place c.in_default.not-P1) c.look_again.ensures.goes) c.requires

pub returns-in_default : goal.returns-in_default
returns-in_default c = turn.step_turns (turn.step_is (last_of_two c.look_again.result c.look_again.ensures.place c.in_default.not-P1) c.look_again.ensures.goes) c.slow.ensures
