use Rattle.lk_values.proofs.Guards.{holder_finds}
use Rattle.lk_values.proofs.laws.holders_find.Goals as goal

pub returns : goal.returns
returns g c = let r = g.R.Rights in holder_finds r.own r.locks r.alone r.outs r.fits
