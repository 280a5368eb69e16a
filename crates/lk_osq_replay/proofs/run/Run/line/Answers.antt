use Rattle.std.proofs.Common.{refl}
use Rattle.lk_text.specs.Block.{waiting}
use Rattle.lk_osq_replay.proofs.Obeyed.{refuses, goes_blank, goes_end, goes_acts, fails_acts}
use Rattle.lk_osq_replay.proofs.run.Run.line.Goals as goal

pub returns-in-Ok-Blank-clause-means : goal.returns-in-Ok-Blank-clause-means
returns-in-Ok-Blank-clause-means g c = λ said s.
    let step = c.in-Ok-Blank in
    goes_blank c.args.self.now c.args.line.now _ _ said s
    (rw (step.field-0-is, c.cpus.ensures) at step.ensures.value)

pub returns-in-Ok-clause-means : goal.returns-in-Ok-clause-means
returns-in-Ok-clause-means g c = λ said s.
    let step = c.in-Ok-Run in
    let is = rw (step.field-0-is, c.cpus.ensures) at step.ensures.value in
    let within = rw (step.field-0-is, c.cpus.ensures) at step.ensures.within in
    goes_acts c.args.self.now c.args.line.now _ _ _ _ step.give step.cpu step.times within.0 is c.repeat.new.self said s c.in-Ok.ensures.made c.in-Ok.ensures.ok

pub returns-in-Err-repeat-clause-means : goal.returns-in-Err-repeat-clause-means
returns-in-Err-repeat-clause-means g c = λ said s.
    let step = c.in-Ok-Run in
    let is = rw (step.field-0-is, c.cpus.ensures) at step.ensures.value in
    let within = rw (step.field-0-is, c.cpus.ensures) at step.ensures.within in
    fails_acts c.args.self.now c.args.line.now _ _ _
    (waiting c.args.block.now) step.give step.cpu step.times within.0 is said s c.in-Err-repeat.ensures.err

pub returns-in-Ok-End-clause-means : goal.returns-in-Ok-End-clause-means
returns-in-Ok-End-clause-means g c = λ said s.
    let step = c.in-Ok-End in
    goes_end c.args.self.now c.args.line.now _ _ _ said s
    (rw (step.field-0-is, c.cpus.ensures) at step.ensures.value) refl refl refl

pub returns-in-Err-clause-means : goal.returns-in-Err-clause-means
returns-in-Err-clause-means g c = λ said s. record {
  refuses =
      refuses c.args.self.now c.args.line.now said s c.in-Err.why
      (rw c.cpus.ensures at c.in-Err.ensures.value) c.in-Err.ensures.no_memory;
  held_is = refl;
  waits_is = refl;
}
