use Rattle.std.proofs.Common.{refl}
use Rattle.lk_pvdomain.proofs.ways.Tried.{first_tries_on, with_rests, has_tried, stays, frees}
use Rattle.lk_pvdomain.proofs.halting.free.Goals as goal

pub try_release-requires : goal.try_release-requires
try_release-requires c =
    let m = c.requires.may.1 in
    record { on = (_, m.rests.of); lock = m.low; expected = refl; row = first_tries_on m; home = m.home; value = m.value }

pub returns : goal.returns
unfolding has_tried
returns c =
    record {
      freed = λ e own r. frees (with_rests c.requires.may.1 r) c.try_release.ensures.same c.try_release.ensures.step e;
      tried = λ own r. has_tried (with_rests c.requires.may.1 r) c.try_release.ensures.same c.try_release.ensures.step;
      still = λ ne e.
          let same = c.try_release.ensures.same in
          record { table = same.0; id = same.1; me = stays (has_tried c.requires.may.1 same c.try_release.ensures.step) ne e };
    }
