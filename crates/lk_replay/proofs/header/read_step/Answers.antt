use Rattle.std.proofs.Common.{◌+◌, Ok, ap, sym, subst}
use Rattle.lk_text.specs.Reader.{lines_given}
use Rattle.lk_forms.specs.Grammar.{ending}
use Rattle.lk_forms.specs.declared.answers.LineRefusal.TheVariants.{Bad}
use Rattle.lk_replay.specs.Header.{HeaderRefused}
use Rattle.lk_forms.specs.Reader.{reading}
use Rattle.lk_replay.proofs.HeaderSteps.{header_goes_on, header_stops, header_ends, header_cut}
use Rattle.lk_replay.proofs.header.read_step.Goals as goal

pub returns-in-Ok-Some-Ok-clause-turns : goal.returns-in-Ok-Some-Ok-clause-turns
returns-in-Ok-Some-Ok-clause-turns g c = λ input s.
    let step = c.in-Ok-Some-Ok in
    let given = rw (step.field-0-is, step.field-0-0-is) at step.ensures.given in
    header_goes_on input _ c.args.reader.now c.next_header_step.new.reader _ _ s (reading c.next_header_step.new.header) given.line c.requires given.gave given.reads.0

pub returns-in-Ok-Some-Err-clause-turns : goal.returns-in-Ok-Some-Err-clause-turns
returns-in-Ok-Some-Err-clause-turns g c = λ input s.
    let stop = c.in-Ok-Some-Err in
    let faults = g.S.Source.faults in
    let given = rw (stop.field-0-is, stop.field-0-0-is) at stop.ensures.given in
    rw (c.refused.ensures, c.lines.ensures)
    (header_stops input _ c.args.reader.now c.next_header_step.new.reader _ _ s c.requires (faults c.args.source.now) (faults c.next_header_step.new.source) (reading c.next_header_step.new.header) given.line stop.why given.gave given.reads)

pub returns-in-Ok-None-clause-turns : goal.returns-in-Ok-None-clause-turns
returns-in-Ok-None-clause-turns g c = λ input s.
    let end = c.in-Ok-None.ensures.end (ap Ok c.in-Ok-None.field-0-is) in
    rw (c.lines-in-Ok-None.ensures, c.ending.ensures)
    (subst (λ r. HeaderRefused input (lines_given c.next_header_step.new.reader + 1) (Bad (ending r))) (sym end.1)
    (header_ends input _ c.args.reader.now c.next_header_step.new.reader _ _ s c.requires end.0 (λ e. ap (g.S.Source.left) (c.in-Ok-None.ensures.idle e))))

pub returns-in-Err-clause-turns : goal.returns-in-Err-clause-turns
returns-in-Err-clause-turns g c = λ input s.
    let faults = g.S.Source.faults in
    rw (c.from.ensures, c.cut_fault.ensures, c.lines-in-Err.ensures)
    (header_cut input _ c.args.reader.now c.next_header_step.new.reader _ _ s c.requires (faults c.args.source.now) (faults c.next_header_step.new.source) c.in-Err.fault c.in-Err.ensures.fault)
