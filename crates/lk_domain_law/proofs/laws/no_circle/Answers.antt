use Rattle.lk_domain_law.proofs.Circles.{no_circle, somebody_is_free}
use Rattle.lk_domain_law.proofs.laws.no_circle.Goals as goal

pub returns : goal.returns
returns c = record { circle = no_circle; free = somebody_is_free }
