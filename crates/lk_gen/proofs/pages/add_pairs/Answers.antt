use Rattle.std.proofs.Common.{◌∙◌, ◌-◌, sym, arith}
use Rattle.lk_gen.proofs.Written.{goes_on, ends, pairs_none, draws_none, pairs_step, draws_step}
use Rattle.lk_gen.proofs.pages.add_pairs.Goals as goal

pub loop-pair-preserved : goal.loop-pair-preserved
loop-pair-preserved c =
    let so_far = c.loop-pair.invariant in
    let below = c.loop-pair-test.true in
    let drawn = c.next_draw-draw.ensures in record {
      whole = goes_on _ _ _ _ _ _ so_far.whole (pairs_step c.loop-pair._pair c.loop-pair.draw c.next_draw-draw.result below drawn) c.add_pair.ensures.text;
      drawn = so_far.drawn ∙ draws_step 16 c.loop-pair._pair c.loop-pair.draw c.next_draw-draw.result below drawn;
      size = omega (arith, so_far.size, c.add_pair.ensures.size);
    }

pub returns-clause-draw : goal.returns-clause-draw
returns-clause-draw c =
    sym (c.loop-pair.invariant.drawn ∙ draws_none (16 - c.loop-pair._pair) c.loop-pair.draw (omega (arith, c.loop-pair-test.false)))

pub returns-clause-text : goal.returns-clause-text
returns-clause-text c =
    ends _ _ _ c.loop-pair.invariant.whole (pairs_none (16 - c.loop-pair._pair) c.loop-pair.draw (omega (arith, c.loop-pair-test.false)))
