use Rattle.lk_text.proofs.reader.LineReader.take_line.Goals as goal

pub returns-in-Ok-clause-line : goal.returns-in-Ok-clause-line
returns-in-Ok-clause-line g c =
    let line = c.in-Ok.ensures.line in
    (line.0, line.1, line.2 (g.S.Source.left c.args.source.now))

pub returns-in-Err-clause-fault : goal.returns-in-Err-clause-fault
returns-in-Err-clause-fault g c =
    c.in-Err.ensures.fault (g.S.Source.left c.args.source.now) (g.S.Source.faults c.args.source.now)
