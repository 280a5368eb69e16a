use Rattle.std.proofs.Common.{◌≡◌, ◌≢◌, ◌∙◌, ◌%◌, List, inl, inr, refl, sym, ap, subst, true, false, None}
use Rattle.std.proofs.lemmas.Bool.{true≢false}
use Rattle.lk_pvdomain.proofs.Names.{Me, Unlock, Hold, lock_name, Slot, MadeBy, Ledger, is_first, Acts}
use Rattle.lk_pvdomain.proofs.Names.{out_in, View, first_of, release_fails, tries_release}
use Rattle.lk_domain.proofs.Outs.{moved_out}
use Rattle.lk_pvdomain.proofs.Fails.{tried, release_failed, release_again}
use Rattle.lk_pvdomain.proofs.ways.Tried.{first_tries_on, seeks, stays, began, frees_then}
use Rattle.lk_pvdomain.proofs.{ways.Tried.{kicks_then, seeks_then}, ways.Ways.moved_seat}
use Rattle.lk_pvdomain.proofs.freeing.try_release.Goals as goal

pub kick_next-kicked-requires : goal.kick_next-kicked-requires
kick_next-kicked-requires c =
    let h = c.requires.tried.2 in
    let w = seeks h (λ e. c.if-low_byte-ne-HELD.true (c.low_byte.ensures ∙ e)) in
    record {
      at = (c.requires.tried.0, first_of Unlock c.args.lock h.old, w);
      home = λ e. ap (λ (y : Ledger). y.out) w.ledger ∙ h.may.home e;
      value = ap (λ (hs : List Hold). out_in hs c.args.lock) w.holds
          ∙ (moved_out 0 (lock_name c.args.lock) h.old.me.0.calls.holds c.args.lock ∙ h.may.value);
    }

pub returns-then-low_byte-ne-HELD : goal.returns-then-low_byte-ne-HELD
returns-then-low_byte-ne-HELD c =
    record { still = λ e. absurd (true≢false e); whom = λ e. c.kick_next-kicked.ensures.whom; freed = λ e own s h. began h (c.kick_next-kicked.ensures.freed own (first_of Unlock c.args.lock h.old) (seeks h (λ e. c.if-low_byte-ne-HELD.true (c.low_byte.ensures ∙ e)))) }

pub loop-init : goal.loop-init
loop-init c = record { same = (refl, refl); me = refl; expected = sym c.low_byte.ensures ∙ c.if-low_byte-ne-HELD.false }

pub try_release-now-requires : goal.try_release-now-requires
try_release-now-requires c =
    let h = c.requires.tried.2 in
    let inv = c.loop.invariant in
    let back = sym (inv.me ∙ stays h c.requires.other (sym c.low_byte.ensures ∙ c.if-low_byte-ne-HELD.false)) in
    record {
      on = (_, moved_seat h.may.rests.of (inv.same.0 ∙ h.same.0) (ap (λ (m : Me Slot View). m.0.who) (sym back)));
      lock = h.may.low;
      expected = inv.expected;
      row = subst (λ (m : Me Slot View). Acts tries_release m.0 Unlock c.args.lock) back (first_tries_on h.may);
      home = subst (λ (m : Me Slot View). is_first (lock_name c.args.lock) ≡ true → m.0.ledger.out ≡ None) back h.may.home;
      value = subst (λ (m : Me Slot View). out_in m.0.calls.holds c.args.lock ≡ false) back h.may.value;
    }

pub returns-then-now-expected : goal.returns-then-now-expected
returns-then-now-expected c =
    let e = sym c.low_byte.ensures ∙ c.if-low_byte-ne-HELD.false in
    let inv = c.loop.invariant in
    let new = c.try_release-now.new.seat.me in
    let now = c.try_release-now.result in
    let is = c.try_release-now.ensures.same in
    let same : (c.try_release-now.new.seat.table_id ≡ c.args.seat.now.table_id) × (c.try_release-now.new.seat.id ≡ c.args.seat.now.id) =
    (is.0 ∙ inv.same.0, is.1 ∙ inv.same.1) in
    let k = subst (λ m. MadeBy Unlock c.args.lock m now new) inv.me
    (tried release_fails Unlock c.args.lock c.loop.expected c.loop.seat.me now new c.try_release-now.ensures.step (inl c.if-now-expected.true)) in
    let held = ap (λ n. n % 256) c.if-now-expected.true ∙ inv.expected in
    record {
      whom = λ is. kicks_then c.requires.tried.2 c.requires.other e same k held;
      freed = λ is own s h. began h (frees_then h c.requires.other e same k held);
      still = λ is. absurd (true≢false is);
    }

pub kick_next-kicked-requires-then-low_byte-ne-HELD-2 : goal.kick_next-kicked-requires-then-low_byte-ne-HELD-2
kick_next-kicked-requires-then-low_byte-ne-HELD-2 c =
    let h = c.requires.tried.2 in
    let ne : c.try_release-now.result % 256 ≢ 1 = λ f. c.if-low_byte-ne-HELD-2.true (c.low_byte-in-loop.ensures ∙ f) in
    let e = sym c.low_byte.ensures ∙ c.if-low_byte-ne-HELD.false in
    let inv = c.loop.invariant in
    let t = c.try_release-now.ensures.step in
    let new = c.try_release-now.new.seat.me in
    let now = c.try_release-now.result in
    let is = c.try_release-now.ensures.same in
    let k = subst (λ m. MadeBy Unlock c.args.lock m now new) inv.me
    (tried release_fails Unlock c.args.lock c.loop.expected c.loop.seat.me now new t (inr (release_failed _ t.found now t.word ne))) in
    let w = seeks_then h c.requires.other e (is.0 ∙ inv.same.0, is.1 ∙ inv.same.1) k ne in
    record {
      at = (c.requires.tried.0, first_of Unlock c.args.lock h.old, w);
      home = λ is. ap (λ (y : Ledger). y.out) w.ledger ∙ h.may.home is;
      value = ap (λ (hs : List Hold). out_in hs c.args.lock) w.holds
          ∙ (moved_out 0 (lock_name c.args.lock) h.old.me.0.calls.holds c.args.lock ∙ h.may.value);
    }

pub returns-then-low_byte-ne-HELD-2 : goal.returns-then-low_byte-ne-HELD-2
returns-then-low_byte-ne-HELD-2 c =
    let ne : c.try_release-now.result % 256 ≢ 1 = λ f. c.if-low_byte-ne-HELD-2.true (c.low_byte-in-loop.ensures ∙ f) in
    let e = sym c.low_byte.ensures ∙ c.if-low_byte-ne-HELD.false in
    let inv = c.loop.invariant in
    let t = c.try_release-now.ensures.step in
    let new = c.try_release-now.new.seat.me in
    let now = c.try_release-now.result in
    let is = c.try_release-now.ensures.same in
    let k = subst (λ m. MadeBy Unlock c.args.lock m now new) inv.me
    (tried release_fails Unlock c.args.lock c.loop.expected c.loop.seat.me now new t (inr (release_failed _ t.found now t.word ne))) in
    record {
      whom = λ is. c.kick_next-kicked-then-low_byte-ne-HELD-2.ensures.whom;
      freed = λ f own s h. began h
          (c.kick_next-kicked-then-low_byte-ne-HELD-2.ensures.freed own (first_of Unlock c.args.lock h.old) (seeks_then h c.requires.other e (is.0 ∙ inv.same.0, is.1 ∙ inv.same.1) k ne));
      still = λ is. absurd (true≢false is);
    }

pub loop-preserved : goal.loop-preserved
loop-preserved c =
    let t = c.try_release-now.ensures.step in
    let again = sym c.low_byte-in-loop.ensures ∙ c.if-low_byte-ne-HELD-2.false in
    let is = c.try_release-now.ensures.same in
    let inv = c.loop.invariant in
    record {
      same = (is.0 ∙ inv.same.0, is.1 ∙ inv.same.1);
      me = t.stays c.if-now-expected.false (release_again _ t.found c.try_release-now.result t.word again) ∙ inv.me;
      expected = again;
    }

pub returns : goal.returns
returns c =
    let inv = c.loop.invariant in
    record {
      freed = λ is. absurd (true≢false (sym is));
      whom = λ is. absurd (true≢false (sym is));
      still = λ is. (sym c.low_byte.ensures ∙ c.if-low_byte-ne-HELD.false, record { table = inv.same.0; id = inv.same.1; me = inv.me });
    }
