use Rattle.lk_waits.proofs.Climb.{no_deadlock, stuck_wait_for_outside}
use Rattle.lk_waits.proofs.ClimbAside.{at_bay_wait_for_outside}
use Rattle.lk_waits.proofs.ClimbHalting.{at_rest_wait_for_outside}
use Rattle.lk_waits.proofs.laws.no_deadlock.Goals as goal

pub returns : goal.returns
returns c = record { none = no_deadlock; outside = stuck_wait_for_outside; aside = at_bay_wait_for_outside; halting = at_rest_wait_for_outside }
