use Rattle.lk_replay.proofs.HeaderSteps.{refused_sooner}
use Rattle.lk_replay.proofs.header.read_header.Goals as goal

pub returns-in-Err-clause-refused : goal.returns-in-Err-clause-refused
returns-in-Err-clause-refused g c = λ input s.
    refused_sooner input _ _ _ _ c.in-Err.fault c.lines.invariant.later (c.in-Err.ensures.turns input (c.lines.invariant.stands input s))
