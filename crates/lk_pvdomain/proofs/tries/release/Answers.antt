use Rattle.std.proofs.Common.{◌≡◌, ◌⊎◌, inl, inr, ◌∙◌, true, subst, sym}
use Rattle.lk_pvdomain.proofs.Names.{Unlock, MadeBy, release_fails}
use Rattle.lk_pvdomain.proofs.Fails.{tried, release_failed, release_again}
use Rattle.lk_pvdomain.proofs.tries.release.Goals.{then-met-expected-via-then-met-expected}
use Rattle.lk_pvdomain.proofs.tries.release.Goals.{then-met-expected-via-else-met-expected+then-low_byte-ne-HELD}
use Rattle.lk_pvdomain.proofs.tries.release.Goals as goal

pub returns-then-met-expected-clause-step : goal.returns-then-met-expected-clause-step
returns-then-met-expected-clause-step g c =
    let t = c.try_release-met.ensures.step in
    let met = c.try_release-met.result in
    let n = c.try_release-met.new.seat.me in
    let why : (met ≡ c.loop.expected) ⊎ (release_fails t.found ≡ true) = elim c.then-met-expected.branch [
      | then-met-expected-via-then-met-expected w ↦ inl w.if-met-expected.true
      | then-met-expected-via-else-met-expected+then-low_byte-ne-HELD w ↦ inr (release_failed _ t.found met t.word (λ e. w.if-low_byte-ne-HELD.true (w.low_byte.ensures ∙ e)))
    ] in
    subst (λ m. MadeBy Unlock c.args.lock m met n) c.loop.invariant.me
    (tried release_fails Unlock c.args.lock c.loop.expected c.loop.seat.me met n t why)

pub loop-preserved : goal.loop-preserved
loop-preserved g c =
    let t = c.try_release-met.ensures.step in
    let e = (sym c.low_byte.ensures ∙ c.if-low_byte-ne-HELD.false) in
    let same = c.try_release-met.ensures.same in
    let inv = c.loop.invariant in
    record {
      same = (same.0 ∙ inv.same.0, same.1 ∙ inv.same.1);
      me = t.stays c.if-met-expected.false (release_again _ t.found c.try_release-met.result t.word e) ∙ inv.me;
      expected = e;
    }
