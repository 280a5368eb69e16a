use Rattle.std.proofs.Common.{◌≡◌, ℕ, None, sym, ap, ◌∙◌, arith}
use Rattle.qlock_c.specs.declared.processor.Processor.{Processor}
use Rattle.qlock_c.proofs.Full.{none_of}
use Rattle.qlock_c.proofs.Opened.{first_more, read_at, within}
use Rattle.qlock_c.proofs.opening.are_empty.Goals as goal

pub loop-i-init : goal.loop-i-init
loop-i-init c i cpu low at = absurd (omega (arith, low))

pub loop-i-preserved : goal.loop-i-preserved
loop-i-preserved c =
    let cpus = c.args.cpus.now in
    first_more (λ (_ : ℕ) (cpu : Processor). cpu.handle.inner ≡ None) c.loop-i.i cpus c.loop-i.invariant
    (λ cpu at.
    let same = read_at cpus c.loop-i.i cpu c.index-cpus-i.result at in
    none_of cpu.handle.inner (cpu.full ∙ (ap (λ (p : Processor). p.used) (sym same) ∙ c.if-cpus-i.false)))

pub returns : goal.returns
returns c e i cpu at =
    let low = within c.args.cpus.now i cpu at in
    c.loop-i.invariant i cpu (omega (arith, low, c.loop-i-test.false)) at
