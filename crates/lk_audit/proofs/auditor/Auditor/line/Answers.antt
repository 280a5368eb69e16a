use Rattle.std.proofs.Common.{sym}
use Rattle.lk_audit_forms.specs.declared.answers.Told.TheVariants as told
use Rattle.lk_audit.proofs.Told.{line_tells}
use Rattle.lk_audit.proofs.Auditing.{read_told, event_line, end_line, count_line}
use Rattle.lk_audit.proofs.auditor.Auditor.line.Goals as goal

pub judge-requires-clause-next : goal.judge-requires-clause-next
judge-requires-clause-next c =
    let event = sym (rw c.in-Ok-Event.field-0-is at c.in-Ok-Event.ensures) in
    (line_tells c.args.self.now.setup c.args.self.now.last c.args.self.now.closed c.args.line.now (told.Event c.in-Ok-Event.act c.in-Ok-Event.event) event).1

pub judge-requires-clause-event : goal.judge-requires-clause-event
judge-requires-clause-event c =
    let event = sym (rw c.in-Ok-Event.field-0-is at c.in-Ok-Event.ensures) in
    (line_tells c.args.self.now.setup c.args.self.now.last c.args.self.now.closed c.args.line.now (told.Event c.in-Ok-Event.act c.in-Ok-Event.event) event).2

pub returns-in-Ok-Event-clause-means : goal.returns-in-Ok-Event-clause-means
returns-in-Ok-Event-clause-means c = λ said s.
    let event = sym (rw c.in-Ok-Event.field-0-is at c.in-Ok-Event.ensures) in
    event_line c.judge.new.self said c.args.line.now c.args.number c.in-Ok-Event.act c.in-Ok-Event.event c.judge.result
    (read_told c.args.self.now said c.args.line.now (told.Event c.in-Ok-Event.act c.in-Ok-Event.event) s event)
    (c.judge.ensures.means said s)

pub returns-in-Ok-End-clause-means : goal.returns-in-Ok-End-clause-means
returns-in-Ok-End-clause-means c = λ said s.
    end_line c.args.self.now said c.args.line.now s (sym (rw c.in-Ok-End.field-0-is at c.in-Ok-End.ensures))

pub returns-in-Ok-Count-clause-means : goal.returns-in-Ok-Count-clause-means
returns-in-Ok-Count-clause-means c = λ said s.
    count_line c.args.self.now said c.args.line.now s (sym (rw c.in-Ok-Count.field-0-is at c.in-Ok-Count.ensures))
