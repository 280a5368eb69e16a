use Rattle.lk_reach.proofs.steps.add_places.Goals as goal

pub loop-init : goal.loop-init
loop-init c i d is = (i, is)

pub loop-preserved : goal.loop-preserved
loop-preserved c i d is = let x = c.add_place.ensures i d is in c.loop.invariant x.0 d x.1
