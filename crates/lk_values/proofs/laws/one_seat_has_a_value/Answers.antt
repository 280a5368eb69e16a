use Rattle.lk_values.proofs.Guards.{one_has_it}
use Rattle.lk_values.proofs.laws.one_seat_has_a_value.Goals as goal

pub returns : goal.returns
returns g c = let r = g.R.Rights in one_has_it r.own r.locks r.alone r.outs r.fits
