use Rattle.lk_values.proofs.Guards.{idle_is_home}
use Rattle.lk_values.proofs.laws.idle_values_are_home.Goals as goal

pub returns : goal.returns
returns g c = let r = g.R.Rights in idle_is_home r.own r.locks r.alone r.outs r.fits
