use Rattle.std.proofs.Common.{◌∙◌, ◌-◌, sym, arith}
use Rattle.lk_gen.proofs.Written.{goes_on, ends, steps_none, draws_none, steps_step, draws_step}
use Rattle.lk_gen.proofs.pages.steps_page.Goals as goal

pub loop-step-preserved : goal.loop-step-preserved
loop-step-preserved c =
    let so_far = c.loop-step.invariant in
    let below = c.loop-step-test.true in
    let drawn = c.next_draw-draw.ensures in record {
      whole = goes_on _ _ _ _ _ _ so_far.whole (steps_step c.loop-step._step c.loop-step.draw c.next_draw-draw.result below drawn) c.add_step.ensures.text;
      drawn = so_far.drawn ∙ draws_step 100 c.loop-step._step c.loop-step.draw c.next_draw-draw.result below drawn;
      size = omega (arith, so_far.size, c.add_step.ensures.size);
    }

pub returns-clause-draw : goal.returns-clause-draw
returns-clause-draw c =
    sym (c.loop-step.invariant.drawn ∙ draws_none (100 - c.loop-step._step) c.loop-step.draw (omega (arith, c.loop-step-test.false)))

pub returns-clause-text : goal.returns-clause-text
returns-clause-text c =
    ends _ _ _ c.loop-step.invariant.whole (steps_none (100 - c.loop-step._step) c.loop-step.draw (omega (arith, c.loop-step-test.false)))
