use Rattle.lk_audit.proofs.Turns.{stops_sooner}
use Rattle.lk_audit.proofs.header.read_header.Goals as goal

pub returns-in-Err-clause-refused : goal.returns-in-Err-clause-refused
returns-in-Err-clause-refused g c = λ input s.
    stops_sooner input _ _ _ c.in-Err.fault c.lines.invariant.later (c.in-Err.ensures.turns input (c.lines.invariant.stands input s))
