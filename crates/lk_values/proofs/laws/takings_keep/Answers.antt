use Rattle.lk_values.proofs.Guards.{taking_keeps}
use Rattle.lk_values.proofs.laws.takings_keep.Goals as goal

pub returns : goal.returns
returns g c = let r = g.R.Rights in taking_keeps r.own r.locks r.alone r.outs r.fits
