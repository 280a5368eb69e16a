use Rattle.lk_values.proofs.Guards.{step_keeps}
use Rattle.lk_values.proofs.laws.steps_keep.Goals as goal

pub returns : goal.returns
returns g c = let r = g.R.Rights in step_keeps r.own r.locks r.alone r.outs r.fits
