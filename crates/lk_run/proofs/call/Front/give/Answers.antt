use Rattle.lk_run.proofs.Calling as on
use Rattle.lk_run.proofs.call.Front.give.Goals as goal

pub count-requires-clause-waits : goal.count-requires-clause-waits
count-requires-clause-waits c = c.requires.waits

pub hand_chosen-requires-clause-waits : goal.hand_chosen-requires-clause-waits
hand_chosen-requires-clause-waits c = on.stepped c.count.ensures c.requires.waits

pub returns : goal.returns
returns c = on.step_takes c.count.ensures c.hand_chosen.ensures
