use Rattle.lk_law.proofs.pv.HaltsShown.{sleeping_front_is_kicked}
use Rattle.lk_law.proofs.running.Nodes.{halting_link_is_used}
use Rattle.lk_law.proofs.domains.halts_are_kicked.Goals as goal

pub returns-clause-kicked : goal.returns-clause-kicked
returns-clause-kicked c = sleeping_front_is_kicked

pub returns-clause-link : goal.returns-clause-link
returns-clause-link c = halting_link_is_used
