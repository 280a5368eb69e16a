use Rattle.std.proofs.Common.{arith, refl}
use Rattle.lk_reach.proofs.Left.{grows_self}
use Rattle.lk_reach.proofs.space.Space.number.Goals as goal

pub returns-in-Some : goal.returns-in-Some
returns-in-Some c = record {
  found = c.in-Some.ensures;
  grows = grows_self c.args.self.now;
  parts = refl;
  shareds = refl;
  folds = refl;
  one = λ j high low. absurd (omega (arith, high, low));
}
