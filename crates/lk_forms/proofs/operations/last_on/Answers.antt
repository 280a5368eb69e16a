use Rattle.std.proofs.Common.{sym, ◌∙◌}
use Rattle.lk_forms.proofs.WalkLemmas.{way_after_all-last, way_after_all-other, try_at-last, try_at-other}
use Rattle.lk_forms.proofs.operations.last_on.Goals as goal

pub returns-then-op-lock-clause-way : goal.returns-then-op-lock-clause-way
returns-then-op-lock-clause-way c =
    sym c.loop-at.invariant.way ∙ way_after_all-last _ _ _ _ c.loop-at-test.true c.loop-at.auto.«at» c.if-op-lock.true

pub returns-then-op-lock-clause-place : goal.returns-then-op-lock-clause-place
returns-then-op-lock-clause-place c =
    sym c.loop-at.invariant.place ∙ try_at-last _ _ _ _ c.loop-at-test.true c.loop-at.auto.«at» c.if-op-lock.true

pub loop-at-preserved : goal.loop-at-preserved
loop-at-preserved c = record {
  way = sym (way_after_all-other _ _ _ _ c.loop-at-test.true c.loop-at.auto.«at» c.if-op-lock.false) ∙ c.loop-at.invariant.way;
  place = sym (try_at-other _ _ _ _ c.loop-at-test.true c.loop-at.auto.«at» c.if-op-lock.false) ∙ c.loop-at.invariant.place;
}
