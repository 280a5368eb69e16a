use Rattle.lk_run.proofs.Places.{last_of_four}
use Rattle.lk_run.proofs.Calling as on
use Rattle.lk_run.proofs.Turning as turn
use Rattle.lk_run.proofs.call.Call.pend.Goals as goal

pub set_pending-requires : goal.set_pending-requires
set_pending-requires c = c.requires

pub clear_pending-requires : goal.clear_pending-requires
clear_pending-requires c = on.stepped (turn.step_is c.in-P2.is c.set_pending.ensures.goes) c.requires

pub slow-requires : goal.slow-requires
slow-requires c = on.stepped c.clear_pending.ensures (on.stepped (turn.step_is c.in-P2.is c.set_pending.ensures.goes) c.requires)

pub returns-in-P2 : goal.returns-in-P2
returns-in-P2 c = turn.step_turns (turn.step_is c.in-P2.is c.set_pending.ensures.goes) (turn.step_turns c.clear_pending.ensures c.slow.ensures)

pub wait_as_next-requires : goal.wait_as_next-requires
wait_as_next-requires c = on.stepped (turn.step_is c.in-P3.is c.set_pending.ensures.goes) c.requires

pub returns-in-P3 : goal.returns-in-P3
returns-in-P3 c = turn.step_turns (turn.step_is c.in-P3.is c.set_pending.ensures.goes) c.wait_as_next.ensures

pub take_pending-requires : goal.take_pending-requires
take_pending-requires c = on.stepped (turn.step_is c.in-P4.is c.set_pending.ensures.goes) c.requires

pub returns-in-P4 : goal.returns-in-P4
returns-in-P4 c = turn.step_turns (turn.step_is c.in-P4.is c.set_pending.ensures.goes) (turn.takes_turns c.take_pending.ensures)

pub slow-requires-in_default : goal.slow-requires-in_default
slow-requires-in_default c = on.stepped (turn.step_is (last_of_four c.set_pending.result c.set_pending.ensures.place c.in_default.not-P2 c.in_default.not-P3 c.in_default.not-P4) c.set_pending.ensures.goes) c.requires

pub returns-in_default : goal.returns-in_default
returns-in_default c = turn.step_turns (turn.step_is (last_of_four c.set_pending.result c.set_pending.ensures.place c.in_default.not-P2 c.in_default.not-P3 c.in_default.not-P4) c.set_pending.ensures.goes) c.slow-in_default.ensures
