use Rattle.std.proofs.Common.{◌≡◌, ◌<◌, ℕ, length, drop, suc, map, sym, subst, ◌∙◌, arith}
use Rattle.lk_abs.specs.Breaches.{first_over}
use Rattle.lk_abs.proofs.Steps.{suc_is, drop-end, over-end, over-step}
use Rattle.lk_abs.proofs.queues.first_over.Goals as goal

pub returns-then-at-passes : goal.returns-then-at-passes
returns-then-at-passes c =
    sym (c.loop-at.invariant.rest ∙ over-end c.args.lock c.args.threshold (drop c.loop-at.at c.args.waiters.now) (drop c.loop-at.at c.args.passes.now) (drop-end c.loop-at.at c.args.passes.now (omega (arith, c.if-at-passes.true))))

pub loop-at-preserved : goal.loop-at-preserved
loop-at-preserved c =
    let more : c.loop-at.at < length c.args.passes.now = omega (arith, c.loop-at.invariant.within, c.if-at-passes.false) in
    record {
      rest = subst (λ (k : ℕ). first_over c.args.lock c.args.threshold c.args.waiters.now (map (λ n. suc n) c.args.passes.now) ≡ first_over c.args.lock c.args.threshold (drop k c.args.waiters.now) (map (λ n. suc n) (drop k c.args.passes.now))) (suc_is c.loop-at.at)
          (c.loop-at.invariant.rest ∙ over-step c.args.lock c.args.threshold c.loop-at.at c.args.waiters.now c.args.passes.now c.loop-at-test.true more c.if-passes-at.false);
      within = omega (arith, more);
    }
