use Rattle.std.proofs.Common.{Ok, ap, sym, length}
use Rattle.std.proofs.lemmas.Result.{err_from_is_err_and}
use Rattle.lk_forms.proofs.ScheduleLemmas.{schedule-within}
use Rattle.lk_replay.proofs.Turns.{needs_no_memory, turn_ends, turn_cut, turn_refused, turn_goes_on, turn_fails, stands_put, put_fails}
use Rattle.lk_replay.proofs.replaying.Replaying.turn.Goals as goal

pub refusal_fault-requires : goal.refusal_fault-requires
refusal_fault-requires g c =
    let stop = c.in-Ok-Some-Err in
    let given = rw (stop.field-0-is, stop.field-0-0-is) at stop.ensures.given in
    needs_no_memory c.cpus.result c.args.self.now.run.acts c.args.self.now.ended given.0 stop.why given.2

pub returns-in-Ok-Some-Err-clause-turns : goal.returns-in-Ok-Some-Err-clause-turns
returns-in-Ok-Some-Err-clause-turns g c = λ input held s.
    let here = stands_put input held c.args.self.now c.put_before_read.new.block _ _ _ s c.in_ok-put_before_read.ensures.ok in
    let stop = c.in-Ok-Some-Err in
    let given = rw (stop.field-0-is, stop.field-0-0-is, c.cpus.ensures) at stop.ensures.given in
    turn_refused input held _ c.next_said.new.reader _ _ _ here c.requires.ready.sound given.0 given.1 stop.why c.refusal_fault.result given.2 (rw c.lines.ensures at c.refusal_fault.ensures)

pub returns-in-Ok-None-clause-turns : goal.returns-in-Ok-None-clause-turns
returns-in-Ok-None-clause-turns g c = λ input held s.
    let here = stands_put input held c.args.self.now c.put_before_read.new.block _ _ _ s c.in_ok-put_before_read.ensures.ok in
    rw c.end.ensures (turn_ends input held _ c.next_said.new.reader _ _ _ here (c.in-Ok-None.ensures.end (ap Ok c.in-Ok-None.field-0-is)) (λ e. ap (g.S.Source.left) (c.in-Ok-None.ensures.idle e)))

pub returns-in-Err-clause-turns : goal.returns-in-Err-clause-turns
returns-in-Err-clause-turns g c = λ input held s.
    let here = stands_put input held c.args.self.now c.put_before_read.new.block _ _ _ s c.in_ok-put_before_read.ensures.ok in
    let faults = g.S.Source.faults in
    rw (c.cut_fault.ensures, c.lines-in-Err.ensures)
    (turn_cut input held _ c.next_said.new.reader _ _ _ here (faults c.args.source.now) (faults c.next_said.new.source) c.in-Err.fault c.in-Err.ensures.fault)

pub obey-requires-clause-within : goal.obey-requires-clause-within
obey-requires-clause-within g c =
    let run = c.args.self.now.run in
    let step = c.in-Ok-Some-Ok in
    let given = rw (step.field-0-is, step.field-0-0-is, c.cpus.ensures) at step.ensures.given in
    schedule-within (length run.machine.cpus) run.acts c.args.self.now.ended given.0 step.said (sym given.2)

pub returns-in-Ok-clause-turns : goal.returns-in-Ok-clause-turns
returns-in-Ok-clause-turns g c = λ input held s.
    let here = stands_put input held c.args.self.now c.put_before_read.new.block _ _ _ s c.in_ok-put_before_read.ensures.ok in
    let step = c.in-Ok-Some-Ok in
    let given = rw (step.field-0-is, step.field-0-0-is, c.cpus.ensures) at step.ensures.given in
    let made = c.in-Ok.ensures in
    turn_goes_on input held _ c.next_said.new.reader _ _ _ here c.requires.ready.sound given.0 given.1 step.said given.2 c.obey.new.self _ made.reader made.made made.ended made.ok

pub returns-in-Err-obey-clause-turns : goal.returns-in-Err-obey-clause-turns
returns-in-Err-obey-clause-turns g c = λ input held s.
    let here = stands_put input held c.args.self.now c.put_before_read.new.block _ _ _ s c.in_ok-put_before_read.ensures.ok in
    let step = c.in-Ok-Some-Ok in
    let given = rw (step.field-0-is, step.field-0-0-is, c.cpus.ensures) at step.ensures.given in
    turn_fails input held _ c.next_said.new.reader _ _ _ here c.requires.ready.sound given.0 given.1 step.said given.2 _ c.in-Err-obey.ensures.err

pub returns-in_err-put_before_read-clause-turns : goal.returns-in_err-put_before_read-clause-turns
returns-in_err-put_before_read-clause-turns g c = λ input held s.
    let p = err_from_is_err_and c.from_residual.result c.from_residual.ensures.1 in
    rw (p.1, p.2) (put_fails input held c.args.self.now _ _ _ s c.in_err-put_before_read.ensures.err)
