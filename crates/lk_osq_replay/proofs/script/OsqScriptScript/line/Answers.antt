use Rattle.lk_osq_replay.proofs.Obeyed.{header_goes, header_begins}
use Rattle.lk_osq_replay.proofs.script.OsqScriptScript.line.Goals as goal

pub returns-in-Ok-None-clause-means : goal.returns-in-Ok-None-clause-means
returns-in-Ok-None-clause-means g c = λ said s.
    let step = c.in-Ok-None in
    header_goes c.in-Reads.header c.header_line.new.header c.args.line.now _ _ said
    (rw c.in-Reads.is at s) (rw step.field-0-is at step.ensures)

pub returns-in-Ok-Some-clause-means : goal.returns-in-Ok-Some-clause-means
returns-in-Ok-Some-clause-means g c = λ said s.
    let step = c.in-Ok-Some in
    header_begins c.in-Reads.header c.header_line.new.header c.args.line.now _ _ said
    (rw c.in-Reads.is at s) step.run' (rw step.field-0-is at step.ensures)
