use Rattle.std.proofs.Common.{Err, ap}
use Rattle.lk_text.proofs.Reasons.{Reason_of_limit}
use Rattle.lk_text.proofs.reader.LineReader.read_line.Goals as goal

pub returns-in-Err-clause-reason : goal.returns-in-Err-clause-reason
returns-in-Err-clause-reason g c =
    let left = g.S.Source.left in
    let count = g.S.Source.faults in
    let here = c.turn in
    Reason_of_limit c.args.self.now here.self here.self (left c.args.source.now) (left here.source) (left here.source) (count c.args.source.now) (count here.source) c.in-Err.fault here.invariant.bytes here.invariant.place.looked (λ e. c.in-Err.ensures.only (ap Err e)) (λ e. c.in-Err.ensures.long (ap Err e)) (λ e. c.in-Err.ensures.much (ap Err e))

pub returns-in-Ok-Some-clause-span : goal.returns-in-Ok-Some-clause-span
returns-in-Ok-Some-clause-span g c = (rw c.in-Ok-Some.field-0-is at c.in-Ok-Some.ensures.found).1 (g.S.Source.left c.turn.source)
