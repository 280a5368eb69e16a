use Rattle.std.proofs.Common.{Ok, ap}
use Rattle.std.proofs.lemmas.Result.{err_from_is_err_and}
use Rattle.lk_text.specs.Block.{waiting}
use Rattle.lk_stream.proofs.Turns.{turn_ends, turn_cut, turn_refused, turn_goes_on, turn_fails, stands_put, put_fails}
use Rattle.lk_stream.proofs.stream.Stream.turn.Goals as goal

pub returns-in-Ok-Some-Ok-clause-turns : goal.returns-in-Ok-Some-Ok-clause-turns
returns-in-Ok-Some-Ok-clause-turns g c = λ input held s.
    let here =
    stands_put _ _ g.met.G.Script.grows input held _ _
    (waiting c.put_before_read.new.block) _ _ _ s c.in_ok-put_before_read.ensures.ok in
    let step = c.in-Ok-Some-Ok in
    let given = rw (step.field-0-is, step.field-0-0-is) at step.ensures.given in
    turn_goes_on _ _ g.met.G.Script.grows input held _ _ _ _ _ _ here given.line given.gave _ _ _
    (given.means here.place.said here.shown)

pub returns-in-Ok-Some-Err-Refused-clause-turns : goal.returns-in-Ok-Some-Err-Refused-clause-turns
returns-in-Ok-Some-Err-Refused-clause-turns g c = λ input held s.
    let here =
    stands_put _ _ g.met.G.Script.grows input held _ _
    (waiting c.put_before_read.new.block) _ _ _ s c.in_ok-put_before_read.ensures.ok in
    let stop = c.in-Ok-Some-Err-Refused in
    let given =
    rw (stop.field-0-is, stop.field-0-0-is, stop.field-0-0-0-is) at stop.ensures.given in
    rw (c.refused.ensures, c.lines.ensures)
    (turn_refused _ _ g.met.G.Script.grows input held _ _ _ _ _ _ here given.line given.gave _ _ stop.why
    (given.means here.place.said here.shown))

pub returns-in-Ok-Some-Err-WriteFault-clause-turns : goal.returns-in-Ok-Some-Err-WriteFault-clause-turns
returns-in-Ok-Some-Err-WriteFault-clause-turns g c = λ input held s.
    let here =
    stands_put _ _ g.met.G.Script.grows input held _ _
    (waiting c.put_before_read.new.block) _ _ _ s c.in_ok-put_before_read.ensures.ok in
    let stop = c.in-Ok-Some-Err-WriteFault in
    let given =
    rw (stop.field-0-is, stop.field-0-0-is, stop.field-0-0-0-is) at stop.ensures.given in
    turn_fails _ _ g.met.G.Script.grows input held _ _ _ _ _ _ here given.line given.gave _
    (given.means here.place.said here.shown)

pub returns-in-Ok-None-clause-turns : goal.returns-in-Ok-None-clause-turns
returns-in-Ok-None-clause-turns g c = λ input held s.
    let here =
    stands_put _ _ g.met.G.Script.grows input held _ _
    (waiting c.put_before_read.new.block) _ _ _ s c.in_ok-put_before_read.ensures.ok in
    let end = c.in-Ok-None.ensures.end (ap Ok c.in-Ok-None.field-0-is) in
    let wrong = c.ending.ensures here.place.said (rw end.1 here.shown) in
    rw (c.ended.ensures, c.lines-in-Ok-None.ensures, end.1, end.2, end.3)
    (turn_ends _ _ g.met.G.Script.grows input held _ _ _ _ _ _ here c.ending.result wrong end.0
    (λ e. ap (g.S.Source.left) (c.in-Ok-None.ensures.idle e)))

pub returns-in-Err-clause-turns : goal.returns-in-Err-clause-turns
returns-in-Err-clause-turns g c = λ input held s.
    let here =
    stands_put _ _ g.met.G.Script.grows input held _ _
    (waiting c.put_before_read.new.block) _ _ _ s c.in_ok-put_before_read.ensures.ok in
    let faults = g.S.Source.faults in
    let stop = c.in-Err.ensures.fault in
    rw (c.cut.ensures, c.lines-in-Err.ensures, stop.2, stop.3)
    (turn_cut _ _ g.met.G.Script.grows input held _ _ _ _ _ _ here (faults c.args.source.now)
    (faults c.next_line.new.source) c.in-Err.fault stop.0)

pub returns-in_err-put_before_read-clause-turns : goal.returns-in_err-put_before_read-clause-turns
returns-in_err-put_before_read-clause-turns g c = λ input held s.
    let p = err_from_is_err_and c.from_residual.result c.from_residual.ensures.1 in
    rw (p.1, p.2)
    (put_fails _ _ g.met.G.Script.grows input held _ _ _ _ _ s c.in_err-put_before_read.ensures.err)
