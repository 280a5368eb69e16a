use Rattle.std.proofs.Common.{Ok, ap}
use Rattle.lk_audit.proofs.Turns.{goes_on, cut_line}
use Rattle.lk_audit.proofs.Auditing.{shows_lawful, line_stops, turn_ends}
use Rattle.lk_audit.proofs.history.turn.Goals as goal

pub returns-in-Ok-Some-Ok-clause-turns : goal.returns-in-Ok-Some-Ok-clause-turns
returns-in-Ok-Some-Ok-clause-turns g c = λ input s.
    let step = c.in-Ok-Some-Ok in
    let given = rw (step.field-0-is, step.field-0-0-is) at step.ensures.given in
    let means = given.means s.0 s.2 in
    (means.next, goes_on input c.args.reader.now c.next_line.new.reader _ _ s.0 s.1 given.line means.next given.gave means.reads, means.shows)

pub returns-in-Ok-Some-Err-clause-turns : goal.returns-in-Ok-Some-Err-clause-turns
returns-in-Ok-Some-Err-clause-turns g c = λ input s.
    let stop = c.in-Ok-Some-Err in
    let faults = g.S.Source.faults in
    let given = rw (stop.field-0-is, stop.field-0-0-is) at stop.ensures.given in
    line_stops input c.args.reader.now c.next_line.new.reader _ _ s.0 s.1 (shows_lawful c.args.auditor.now s.0 c.requires s.2)
    (faults c.args.source.now) (faults c.next_line.new.source) c.next_line.new.auditor given.line given.gave stop.fault (given.means s.0 s.2)

pub returns-in-Ok-None-clause-turns : goal.returns-in-Ok-None-clause-turns
returns-in-Ok-None-clause-turns g c = λ input s.
    let faults = g.S.Source.faults in
    let end = c.in-Ok-None.ensures.end (ap Ok c.in-Ok-None.field-0-is) in
    let shows = rw (← end.1) at s.2 in
    rw (c.ended.ensures, c.lines.ensures)
    (turn_ends input c.args.reader.now c.next_line.new.reader _ _ s.0 s.1 (shows_lawful c.args.auditor.now s.0 c.requires s.2)
    (faults c.args.source.now) (faults c.next_line.new.source) c.next_line.new.auditor c.ending.result shows (c.ending.ensures s.0 shows)
    end.0 (λ e. ap (g.S.Source.left) (c.in-Ok-None.ensures.idle e)))

pub returns-in-Err-clause-turns : goal.returns-in-Err-clause-turns
returns-in-Err-clause-turns g c = λ input s.
    let faults = g.S.Source.faults in
    rw (c.cut.ensures, c.lines-in-Err.ensures)
    (cut_line input c.args.reader.now c.next_line.new.reader _ _ s.0 s.1 (shows_lawful c.args.auditor.now s.0 c.requires s.2)
    (faults c.args.source.now) (faults c.next_line.new.source) c.in-Err.fault c.in-Err.ensures.fault)
