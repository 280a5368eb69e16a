use Rattle.std.proofs.Common.{◌≡◌, ℕ, None, arith}
use Rattle.qlock_c.specs.declared.processor.Processor.{Processor}
use Rattle.qlock_c.proofs.Opened.{first_set, within}
use Rattle.qlock_c.proofs.opening.empty_all.Goals as goal

pub loop-i-init : goal.loop-i-init
loop-i-init c i cpu low at = absurd (omega (arith, low))

pub loop-i-preserved : goal.loop-i-preserved
loop-i-preserved c =
    first_set (λ (_ : ℕ) (cpu : Processor). cpu.handle.inner ≡ None) c.loop-i.i c.loop-i.cpus c.take.new.cpu
    (omega (arith, c.loop-i-test.true, c.loop-i.auto.cpus)) c.loop-i.invariant c.take.ensures.empty

pub returns : goal.returns
returns c i cpu at =
    let low = within c.loop-i.cpus i cpu at in
    c.loop-i.invariant i cpu (omega (arith, low, c.loop-i.auto.cpus, c.loop-i-test.false)) at
