use Rattle.std.proofs.Common.{◌+◌, Ok, refl, ap, sym, subst}
use Rattle.lk_text.specs.Reader.{lines_given}
use Rattle.lk_forms.specs.Grammar.{ending}
use Rattle.lk_forms.specs.Reader.{reading}
use Rattle.lk_forms.specs.declared.answers.LineRefusal.TheVariants.{Bad}
use Rattle.lk_audit.specs.Stands.{StopsRefused}
use Rattle.lk_audit_forms.specs.Grammar.{in_header}
use Rattle.lk_audit.proofs.Turns.{goes_on, read_in_header, header_stops, header_lawful, ends_early, cut_line}
use Rattle.lk_audit.proofs.Headers.{said_more}
use Rattle.lk_audit.proofs.header.read_step.Goals as goal

pub returns-in-Ok-Some-Ok-clause-turns : goal.returns-in-Ok-Some-Ok-clause-turns
returns-in-Ok-Some-Ok-clause-turns g c = λ input s.
    let step = c.in-Ok-Some-Ok in
    let given = rw (step.field-0-is, step.field-0-0-is) at step.ensures.given in
    goes_on input c.args.reader.now c.next_header_step.new.reader _ _ _ s given.line (in_header (reading c.next_header_step.new.header)) given.gave
    (read_in_header (reading c.args.header.now) (reading c.next_header_step.new.header) given.line c.requires given.reads.0)

pub returns-in-Ok-Some-Err-clause-turns : goal.returns-in-Ok-Some-Err-clause-turns
returns-in-Ok-Some-Err-clause-turns g c = λ input s.
    let stop = c.in-Ok-Some-Err in
    let faults = g.S.Source.faults in
    let given = rw (stop.field-0-is, stop.field-0-0-is) at stop.ensures.given in
    rw (c.refused.ensures, c.lines.ensures)
    (header_stops input c.args.reader.now c.next_header_step.new.reader _ _ (reading c.args.header.now) (reading c.next_header_step.new.header) s c.requires
    (faults c.args.source.now) (faults c.next_header_step.new.source) given.line stop.why given.gave given.reads)

pub returns-in-Ok-None-clause-turns : goal.returns-in-Ok-None-clause-turns
returns-in-Ok-None-clause-turns g c = λ input s.
    let end = c.in-Ok-None.ensures.end (ap Ok c.in-Ok-None.field-0-is) in
    let old = reading c.args.header.now in
    let line = lines_given c.next_header_step.new.reader + 1 in
    rw (c.lines-in-Ok-None.ensures, c.ending.ensures)
    (subst (λ r. StopsRefused input line (Bad (ending r))) (sym end.1)
    (ends_early input c.args.reader.now c.next_header_step.new.reader _ _ (in_header old) s (header_lawful old) end.0
    (λ e. ap (g.S.Source.left) (c.in-Ok-None.ensures.idle e)) (ending old) refl))

pub returns-in-Err-clause-turns : goal.returns-in-Err-clause-turns
returns-in-Err-clause-turns g c = λ input s.
    let faults = g.S.Source.faults in
    rw (c.cut.ensures, c.lines-in-Err.ensures)
    (cut_line input c.args.reader.now c.next_header_step.new.reader _ _ _ s (header_lawful (reading c.args.header.now))
    (faults c.args.source.now) (faults c.next_header_step.new.source) c.in-Err.fault c.in-Err.ensures.fault)

pub returns-in-Ok-Some-Ok-clause-said : goal.returns-in-Ok-Some-Ok-clause-said
returns-in-Ok-Some-Ok-clause-said g c =
    let step = c.in-Ok-Some-Ok in
    let given = rw (step.field-0-is, step.field-0-0-is) at step.ensures.given in
    said_more (reading c.args.header.now) (reading c.next_header_step.new.header) given.line given.reads.0
