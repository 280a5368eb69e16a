use Rattle.std.proofs.Common.{Ok, ap, ◌∙◌, arith}
use Rattle.lk_stream.proofs.stream.Stream.read_on.Goals as goal

pub lines-preserved : goal.lines-preserved
lines-preserved g c =
    let turned = c.in-Ok-true.ensures in
    let so_far = c.lines.invariant in
    let causes = turned.causes in record {
      kept = turned.kept (ap Ok c.in-Ok-true.field-0-test);
      stands = λ input held s. rw c.in-Ok-true.field-0-test at
          (turned.turns input held (so_far.stands input held s));
      untouched = λ takes nothing.
          let step = turned.untouched takes in
          let before = so_far.untouched step.0 nothing in
          let now = step.1 before.0 in
          (now.0, now.1 ∙ before.1);
      reads = omega (arith, so_far.reads, causes.reads_later);
      writes = omega (arith, so_far.writes, causes.writes_later);
    }

pub returns-in-Ok-false-clause-stops : goal.returns-in-Ok-false-clause-stops
returns-in-Ok-false-clause-stops g c = λ input held s.
    rw c.in-Ok-false.field-0-test at
    (c.in-Ok-false.ensures.turns input held (c.lines.invariant.stands input held s))
