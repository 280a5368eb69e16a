use Rattle.lk_values.proofs.Guards.{new_seat_keeps}
use Rattle.lk_values.proofs.laws.new_seats_keep.Goals as goal

pub returns : goal.returns
returns g c = let r = g.R.Rights in new_seat_keeps r.own r.locks r.alone r.outs r.fits
