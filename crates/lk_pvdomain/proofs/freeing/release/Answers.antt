use Rattle.std.proofs.Common.{◌≡◌, ◌∙◌, List, sym, ap, subst, true, false, None}
use Rattle.lk_pvdomain.proofs.Names.{Me, Unlock, Hold, lock_name, Slot, Ledger, is_first, Acts}
use Rattle.lk_pvdomain.proofs.Names.{out_in, View, first_of, tries_release}
use Rattle.lk_domain.proofs.Outs.{moved_out}
use Rattle.lk_pvdomain.proofs.ways.Tried.{first_tries_on, seeks, stays, began, frees_then}
use Rattle.lk_pvdomain.proofs.{ways.Tried.seeks_then, ways.Ways.moved_seat}
use Rattle.lk_pvdomain.proofs.freeing.release.Goals as goal

pub wake_next-requires : goal.wake_next-requires
wake_next-requires g c =
    let h = c.requires.tried.2 in
    let w = seeks h (λ e. c.if-low_byte-ne-HELD.true (c.low_byte.ensures ∙ e)) in
    record {
      at = (c.requires.tried.0, first_of Unlock c.args.lock h.old, w);
      home = λ e. ap (λ (y : Ledger). y.out) w.ledger ∙ h.may.home e;
      value = ap (λ (hs : List Hold). out_in hs c.args.lock) w.holds
          ∙ (moved_out 0 (lock_name c.args.lock) h.old.me.0.calls.holds c.args.lock ∙ h.may.value);
    }

pub returns-then-low_byte-ne-HELD : goal.returns-then-low_byte-ne-HELD
returns-then-low_byte-ne-HELD g c =
    record { freed = λ own s h. began h (c.wake_next.ensures.freed own (first_of Unlock c.args.lock h.old) (seeks h (λ e. c.if-low_byte-ne-HELD.true (c.low_byte.ensures ∙ e)))) }

pub release-requires : goal.release-requires
release-requires g c =
    let h = c.requires.tried.2 in
    let r = h.may.rests in
    let back = sym (stays h c.requires.other (sym c.low_byte.ensures ∙ c.if-low_byte-ne-HELD.false)) in
    record {
      on = (_, moved_seat r.of h.same.0 (ap (λ (m : Me Slot View). m.0.who) (sym back)));
      lock = h.may.low;
      seen = (sym c.low_byte.ensures ∙ c.if-low_byte-ne-HELD.false);
      row = subst (λ (m : Me Slot View). Acts tries_release m.0 Unlock c.args.lock) back (first_tries_on h.may);
      home = subst (λ (m : Me Slot View). is_first (lock_name c.args.lock) ≡ true → m.0.ledger.out ≡ None) back h.may.home;
      value = subst (λ (m : Me Slot View). out_in m.0.calls.holds c.args.lock ≡ false) back h.may.value;
    }

pub returns-then-low_byte-eq-HELD : goal.returns-then-low_byte-eq-HELD
returns-then-low_byte-eq-HELD g c =
    record {
      freed = λ own s h. began h (frees_then h c.requires.other (sym c.low_byte.ensures ∙ c.if-low_byte-ne-HELD.false) c.release.ensures.same c.release.ensures.step (sym c.low_byte-2.ensures ∙ c.if-low_byte-eq-HELD.true));
    }

pub wake_next-requires-2 : goal.wake_next-requires-2
wake_next-requires-2 g c =
    let h = c.requires.tried.2 in
    let w = seeks_then h c.requires.other (sym c.low_byte.ensures ∙ c.if-low_byte-ne-HELD.false) c.release.ensures.same c.release.ensures.step (λ e. c.if-low_byte-eq-HELD.false (c.low_byte-2.ensures ∙ e)) in
    record {
      at = (c.requires.tried.0, first_of Unlock c.args.lock h.old, w);
      home = λ e. ap (λ (y : Ledger). y.out) w.ledger ∙ h.may.home e;
      value = ap (λ (hs : List Hold). out_in hs c.args.lock) w.holds
          ∙ (moved_out 0 (lock_name c.args.lock) h.old.me.0.calls.holds c.args.lock ∙ h.may.value);
    }

pub returns : goal.returns
returns g c =
    record {
      freed = λ own s h. began h (c.wake_next-2.ensures.freed own (first_of Unlock c.args.lock h.old)
          (seeks_then h c.requires.other (sym c.low_byte.ensures ∙ c.if-low_byte-ne-HELD.false) c.release.ensures.same c.release.ensures.step (λ e. c.if-low_byte-eq-HELD.false (c.low_byte-2.ensures ∙ e))));
    }
