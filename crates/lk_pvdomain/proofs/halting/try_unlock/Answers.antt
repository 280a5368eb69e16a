use Rattle.std.proofs.Common.{refl, ◌∙◌}
use Rattle.std.proofs.lemmas.Bool.{true≢false}
use Rattle.lk_pvdomain.proofs.Names.{Unlock, first_of}
use Rattle.lk_pvdomain.proofs.ways.Tried.{first_tries_on, with_rests, has_tried, stays, frees, kicks_none}
use Rattle.lk_pvdomain.proofs.halting.try_unlock.Goals as goal

pub try_release-met-requires : goal.try_release-met-requires
try_release-met-requires c =
    let m = c.requires.may.1 in
    record { on = (_, m.rests.of); lock = m.low; expected = refl; row = first_tries_on m; home = m.home; value = m.value }

pub returns-then-met-eq-HELD : goal.returns-then-met-eq-HELD
returns-then-met-eq-HELD c =
    record {
      freed = λ is own r. frees (with_rests c.requires.may.1 r) c.try_release-met.ensures.same c.try_release-met.ensures.step c.if-met-eq-HELD.true;
      whom = λ is. kicks_none c.requires.may.1 c.try_release-met.ensures.same c.try_release-met.ensures.step c.if-met-eq-HELD.true;
      still = λ is. absurd (true≢false is);
    }

pub try_release-requires : goal.try_release-requires
try_release-requires c =
    record {
      other = c.if-met-eq-HELD.false;
      tried = (
        c.requires.may.0,
        first_of Unlock c.args.lock c.args.seat.now,
        has_tried c.requires.may.1 c.try_release-met.ensures.same c.try_release-met.ensures.step,
      );
    }

pub returns : goal.returns
unfolding has_tried
returns c =
    record {
      freed = λ is own r. c.try_release.ensures.freed is own (first_of Unlock c.args.lock c.args.seat.now)
          (has_tried (with_rests c.requires.may.1 r) c.try_release-met.ensures.same c.try_release-met.ensures.step);
      whom = c.try_release.ensures.whom;
      still = λ is.
          let same = c.try_release-met.ensures.same in
          let k = c.try_release.ensures.still is in
          record {
            table = k.1.table ∙ same.0;
            id = k.1.id ∙ same.1;
            me = k.1.me ∙ stays (has_tried c.requires.may.1 same c.try_release-met.ensures.step) c.if-met-eq-HELD.false k.0;
          };
    }
