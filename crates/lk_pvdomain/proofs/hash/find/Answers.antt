use Rattle.std.proofs.Common.{arith, refl}
use Rattle.lk_pvdomain.specs.PvPlays.{looked_at}
use Rattle.lk_pvdomain.proofs.hash.find.Goals as goal

pub loop-place-init : goal.loop-place-init
loop-place-init c =
    let m = c.args.seat.now.me in
    let any = c.args.domain.now.lawful.some in
    record {
      same = (refl, refl);
      looks = (m.0.calls.spot, (λ i. (looked_at (c.requires.fresh i) m.0.calls.spot m.0, m.1)));
      inside = omega (arith, any);
    }
