use Rattle.lk_values.proofs.Guards.{bringing_keeps}
use Rattle.lk_values.proofs.laws.returns_keep.Goals as goal

pub returns : goal.returns
returns g c = let r = g.R.Rights in bringing_keeps r.own r.locks r.alone r.outs r.fits
