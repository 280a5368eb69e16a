use Rattle.lk_replay.proofs.replaying.Replaying.read_on.Goals as goal

pub returns-in-Ok-false-clause-stops : goal.returns-in-Ok-false-clause-stops
returns-in-Ok-false-clause-stops g c = λ input held s.
    rw c.in-Ok-false.field-0-test at (c.in-Ok-false.ensures.turns input held (c.lines.invariant.stands input held s))
