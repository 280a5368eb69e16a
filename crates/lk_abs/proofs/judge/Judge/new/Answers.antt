-- Of no lock anything is said, and no event is lawful.
use Rattle.lk_abs.proofs.Judging.{taken-none}
use Rattle.lk_abs.proofs.judge.Judge.new.Goals as goal

pub returns-clause-taken : goal.returns-clause-taken
returns-clause-taken c = taken-none _ c.in_ok-locks.locks.items _ _ _ c.in_ok-locks.ensures c.in_ok-kicks.ensures.state c.in_ok-kicks.ensures.told
