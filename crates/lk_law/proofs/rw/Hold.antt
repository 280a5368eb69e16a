-- Who is counted, who holds and who has set waiting, where one waiter goes to another phase for a
-- reader-writer lock.
use Rattle.std.proofs.Common.{◌≡◌, ◌≢◌, ◌⊎◌, inl, inr, ℕ, ◌+◌, ◌-◌, Option, Some, None, Bool, true}
use Rattle.std.proofs.Common.{false, List, [], ◌∷◌, ◌++◌, arith, ap, refl, sym, ◌∙◌, subst}
use Rattle.lk_law.proofs.Names.{without, same_waiter, Holder, Manner, Reads, Spins, Writes, Waiter}
use Rattle.lk_law.proofs.Names.{HoldsAgree, IsEach, RwStep, RwPhase, announces, asks, is_counted}
use Rattle.lk_law.proofs.Names.{is_inner, rests, Announces, Unreads, Unwrites}
use Rattle.lk_names.specs.History.{same_manner, is_hold}
use Rattle.lk_law.proofs.common.Cases.{waiter_cases}
use Rattle.lk_law.proofs.common.Sames.{same_waiter-self, same_waiter-true}
use Rattle.lk_law.proofs.rw.Each.{Decides, each_same, each_more, each_less, without_first}
use Rattle.lk_law.proofs.rw.Each.{length_more, length_less}
use Rattle.lk_law.specs.RwAgree.{ReadersAgree, WaitingAgrees}

pub manner_cases : Decides Manner
manner_cases a b = grind (arith, cases a, cases b)
  where
    cases : (m : Manner) → (m ≡ Spins) ⊎ (m ≡ Reads) ⊎ (m ≡ Writes)
    cases Spins = inl refl
    cases Reads = inr (inl refl)
    cases Writes = inr (inr refl)

pub holder_cases : Decides Holder
holder_cases a b =
    elim (waiter_cases a.waiter b.waiter) [
      | inl c ↦ elim
          (manner_cases a.manner b.manner) [
            | inl x ↦ inl
                (λ i. record { waiter = c i; manner = x i })
            | inr n ↦ inr (λ e. n (ap (λ (v : Holder). v.manner) e))
          ]
      | inr n ↦ inr (λ e. n (ap (λ (v : Holder). v.waiter) e))
    ]

same_manner-self : (m : Manner) → same_manner m m ≡ true
same_manner-self Spins = refl
same_manner-self Reads = refl
same_manner-self Writes = refl

same_manner-true : (a b : Manner) → same_manner a b ≡ true → a ≡ b
same_manner-true Spins Spins h = refl
same_manner-true Reads Reads h = refl
same_manner-true Writes Writes h = refl
same_manner-true Spins Reads h = cc
same_manner-true Spins Writes h = cc
same_manner-true Reads Spins h = cc
same_manner-true Reads Writes h = cc
same_manner-true Writes Spins h = cc
same_manner-true Writes Reads h = cc

is_hold-self : (w : Waiter) (m : Manner) → is_hold w m (record { waiter = w; manner = m }) ≡ true
is_hold-self w m = grind (arith, same_waiter-self w, same_manner-self m)

is_hold-true : (w : Waiter) (m : Manner) (x : Holder) → is_hold w m x ≡ true
    → x ≡ record { waiter = w; manner = m }
is_hold-true w m x h =
    let p : (same_waiter x.waiter w ≡ true) × (same_manner x.manner m ≡ true) = grind arith in
    let a = same_waiter-true x.waiter w p.0 in
    let b = same_manner-true x.manner m p.1 in
    (λ i. record { waiter = a i; manner = b i })

without-is : (w : Waiter) (m : Manner) (xs : List Holder)
    → without w m xs ≡ without_first (is_hold w m) xs
without-is w m [] = refl
without-is w m (x ∷ xs) = rw (without-is w m xs) refl

module _ {phase phase' : Waiter → RwPhase} {held held' : Waiter → Option Manner}
    {waits waits' : Waiter → Bool} {w : Waiter} {r r' : RwPhase} {h h' : Option Manner}
    (step : RwStep phase phase' held held' waits waits' w r r' h h') where
  counted_was : is_counted (phase w) (held w) ≡ is_counted r h
  counted_was = rw (step.acts.was, step.holds.was) refl

  counted_now : is_counted (phase' w) (held' w) ≡ is_counted r' h'
  counted_now = rw (step.acts.now, step.holds.now) refl

  counted_else : (u : Waiter) → u ≢ w
      → is_counted (phase' u) (held' u) ≡ is_counted (phase u) (held u)
  counted_else u ne = rw (step.acts.others u ne, step.holds.others u ne) refl

  -- the acting waiter is counted as before
  pub counted_keep : {n : ℕ} {counted : List Waiter} → ReadersAgree n phase held counted
      → is_counted r' h' ≡ is_counted r h → ReadersAgree n phase' held' counted
  counted_keep ok same =
      let each : (u : Waiter) → is_counted (phase' u) (held' u) ≡ is_counted (phase u) (held u) =
      λ u. elim (waiter_cases u w) [
        | inl e ↦ subst
            (λ (v : Waiter). is_counted (phase' v) (held' v) ≡ is_counted (phase v) (held v))
            (sym e) (counted_now ∙ same ∙ sym counted_was)
        | inr ne ↦ counted_else u ne
      ] in
      record {
        each = each_same ok.each (λ u p. each u ∙ p) (λ u p. sym (each u) ∙ p);
        number = ok.number;
      }

  -- it is counted from now on
  pub counted_more : {n : ℕ} {counted : List Waiter} → ReadersAgree n phase held counted
      → is_counted r h ≡ false → is_counted r' h' ≡ true
      → ReadersAgree (n + 1) phase' held' (counted ++ w ∷ [])
  counted_more {n = n} {counted = counted} ok was now =
      record {
        each =
            each_more waiter_cases w ok.each (λ p. grind (arith, p, counted_was, was))
            (counted_now ∙ now)
            (λ u p. elim (waiter_cases u w) [
              | inl e ↦ subst (λ (v : Waiter). is_counted (phase' v) (held' v) ≡ true) (sym e)
                  (counted_now ∙ now)
              | inr ne ↦ counted_else u ne ∙ p
            ])
            (λ u p ne. sym (counted_else u ne) ∙ p);
        number = let e = ok.number in let f = length_more counted w in omega (arith, e, f);
      }

  -- it is counted no more
  pub counted_less : {n : ℕ} {counted : List Waiter} → ReadersAgree n phase held counted
      → is_counted r h ≡ true → is_counted r' h' ≡ false
      → ReadersAgree (n - 1) phase' held' (without_first (λ u. same_waiter u w) counted)
  counted_less {n = n} {counted = counted} ok was now =
      let place = ok.each.place w (counted_was ∙ was) in
      record {
        each = each_less waiter_cases w (λ u. same_waiter u w) (λ u p. same_waiter-true u w p)
            (same_waiter-self w) ok.each (λ p. grind (arith, p, counted_now, now))
            (λ u p ne. counted_else u ne ∙ p)
            (λ u p. elim (waiter_cases u w) [
              | inl e ↦ subst (λ (v : Waiter). is_counted (phase v) (held v) ≡ true) (sym e)
                  (counted_was ∙ was)
              | inr ne ↦ sym (counted_else u ne) ∙ p
            ]);
        number = let e = ok.number in
            let f = length_less counted (λ u. same_waiter u w) w place.0 (same_waiter-self w)
            place.1 in omega (arith, e, f);
      }

  -- its hold stays
  pub rw_hold_keep : {b : Bool} {holders : List Holder} → HoldsAgree b phase held holders → h' ≡ h
      → (asks r' ≡ true → h ≡ None) → (r' ≡ Unreads → h ≡ Some Reads)
      → (r' ≡ Unwrites → h ≡ Some Writes) → HoldsAgree b phase' held' holders
  rw_hold_keep ok same out reads writes =
      let each : (u : Waiter) → held' u ≡ held u =
      λ u. elim (waiter_cases u w) [
        | inl e ↦ subst (λ (v : Waiter). held' v ≡ held v) (sym e)
            (step.holds.now ∙ same ∙ sym step.holds.was)
        | inr ne ↦ step.holds.others u ne
      ] in
      record {
        each = each_same ok.each (λ x p. each x.waiter ∙ p) (λ x p. sym (each x.waiter) ∙ p);
        unspun = λ u p. ok.unspun u (sym (each u) ∙ p);
        written = λ p. let s = ok.written p in (s.0, each s.0 ∙ s.1);
        writes = λ u p. ok.writes u (sym (each u) ∙ p);
        alone = λ u v m p q. ok.alone u v m (sym (each u) ∙ p) (sym (each v) ∙ q);
        without = λ u p.
            grind (
              arith,
              waiter_cases u w,
              ok.without u,
              step.acts.others u,
              step.acts.now,
              step.holds.was,
              each u,
            );
        unreads = λ u p.
            grind (
              arith,
              waiter_cases u w,
              ok.unreads u,
              step.acts.others u,
              step.acts.now,
              step.holds.was,
              each u,
            );
        unwrites = λ u p.
            grind (
              arith,
              waiter_cases u w,
              ok.unwrites u,
              step.acts.others u,
              step.acts.now,
              step.holds.was,
              each u,
            );
      }

  holds_more : {holders : List Holder} (m : Manner)
      → IsEach (λ (x : Holder). held x.waiter ≡ Some x.manner) holders → h ≡ None → h' ≡ Some m
      → IsEach (λ (x : Holder). held' x.waiter ≡ Some x.manner)
      (holders ++ record { waiter = w; manner = m } ∷ [])
  holds_more m ok none has =
      each_more holder_cases (record { waiter = w; manner = m }) ok
      (λ p. grind (arith, p, step.holds.was, none)) (step.holds.now ∙ has)
      (λ x p.
      step.holds.others x.waiter (λ e.
      absurd (let q = ap held e in grind (arith, p, q, step.holds.was, none))) ∙ p)
      (λ x p ne. sym (step.holds.others x.waiter (λ e. ne (is_it x p e))) ∙ p)
    where
      is_it : (x : Holder) → held' x.waiter ≡ Some x.manner → x.waiter ≡ w
          → x ≡ record { waiter = w; manner = m }
      is_it x p e =
          let q : x.manner ≡ m = let z = ap held' e in grind (arith, z, p, step.holds.now, has) in
          (λ i. record { waiter = e i; manner = q i })

  holds_less : {holders : List Holder} (m : Manner)
      → IsEach (λ (x : Holder). held x.waiter ≡ Some x.manner) holders → h ≡ Some m → h' ≡ None
      → IsEach (λ (x : Holder). held' x.waiter ≡ Some x.manner) (without w m holders)
  holds_less {holders = holders} m ok has none =
      rw (without-is w m holders)
      (each_less holder_cases (record { waiter = w; manner = m }) (is_hold w m) (is_hold-true w m)
      (is_hold-self w m) ok
      (λ p. grind (arith, p, step.holds.now, none))
      (λ x p ne. step.holds.others x.waiter (λ e. ne (is_it x p e)) ∙ p)
      (λ x p.
      sym (step.holds.others x.waiter
      (λ e. absurd (let q = ap held' e in grind (arith, p, q, step.holds.now, none)))) ∙ p))
    where
      is_it : (x : Holder) → held x.waiter ≡ Some x.manner → x.waiter ≡ w
          → x ≡ record { waiter = w; manner = m }
      is_it x p e =
          let q : x.manner ≡ m = let z = ap held e in grind (arith, z, p, step.holds.was, has) in
          (λ i. record { waiter = e i; manner = q i })

  -- it holds as a reader from now on, beside no writer
  pub rw_hold_read : {holders : List Holder} → HoldsAgree false phase held holders → h ≡ None
      → h' ≡ Some Reads → rests r' ≡ true
      → HoldsAgree false phase' held' (holders ++ record { waiter = w; manner = Reads } ∷ [])
  rw_hold_read ok none has away =
      record {
        each = holds_more Reads ok.each none has;
        unspun = λ u p.
            grind (arith, waiter_cases u w, ok.unspun u, step.holds.others u, step.holds.now);
        written = λ p. absurd (grind arith);
        writes = λ u p.
            grind (arith, waiter_cases u w, ok.writes u, step.holds.others u, step.holds.now);
        alone = λ u v m p q.
            absurd
            (grind (arith, waiter_cases u w, ok.writes u, step.holds.others u, step.holds.now, p));
        without = λ u p.
            grind (
              arith,
              waiter_cases u w,
              ok.without u,
              step.acts.others u,
              step.acts.now,
              step.holds.others u,
            );
        unreads = λ u p.
            grind (
              arith,
              waiter_cases u w,
              ok.unreads u,
              step.acts.others u,
              step.acts.now,
              step.holds.others u,
            );
        unwrites = λ u p.
            grind (
              arith,
              waiter_cases u w,
              ok.unwrites u,
              step.acts.others u,
              step.acts.now,
              step.holds.others u,
            );
      }

  -- it holds as the writer from now on, where nobody held
  pub rw_hold_write : {b : Bool} {holders : List Holder} → HoldsAgree b phase held holders
      → ((u : Waiter) (m : Manner) → held u ≡ Some m → ⊥) → h ≡ None → h' ≡ Some Writes
      → rests r' ≡ true
      → HoldsAgree true phase' held' (holders ++ record { waiter = w; manner = Writes } ∷ [])
  rw_hold_write ok nobody none has away =
      let only : (u : Waiter) (m : Manner) → held' u ≡ Some m → u ≡ w =
      λ u m p. elim
      (waiter_cases u w) [
        | inl e ↦ e
        | inr ne ↦ absurd (nobody u m (sym (step.holds.others u ne) ∙ p))
      ] in
      record {
        each = holds_more Writes ok.each none has;
        unspun = λ u p.
            grind (arith, waiter_cases u w, ok.unspun u, step.holds.others u, step.holds.now);
        written = λ p. (w, step.holds.now ∙ has);
        writes = λ u p. refl;
        alone = λ u v m p q. only v m q ∙ sym (only u Writes p);
        without = λ u p.
            grind (
              arith,
              waiter_cases u w,
              ok.without u,
              step.acts.others u,
              step.acts.now,
              step.holds.others u,
            );
        unreads = λ u p.
            grind (
              arith,
              waiter_cases u w,
              ok.unreads u,
              step.acts.others u,
              step.acts.now,
              step.holds.others u,
            );
        unwrites = λ u p.
            grind (
              arith,
              waiter_cases u w,
              ok.unwrites u,
              step.acts.others u,
              step.acts.now,
              step.holds.others u,
            );
      }

  -- the reader releases
  pub rw_hold_unread : {b : Bool} {holders : List Holder} → HoldsAgree b phase held holders
      → h ≡ Some Reads → h' ≡ None → rests r' ≡ true
      → HoldsAgree b phase' held' (without w Reads holders)
  rw_hold_unread ok has none away =
      record {
        each = holds_less Reads ok.each has none;
        unspun = λ u p.
            grind (arith, waiter_cases u w, ok.unspun u, step.holds.others u, step.holds.now);
        written = λ p.
            let s = ok.written p in (
              s.0,
              step.holds.others s.0 (λ e.
                  absurd (let q = ap held e in grind (arith, q, s.1, step.holds.was, has))) ∙ s.1,
            );
        writes = λ u p.
            grind (arith, waiter_cases u w, ok.writes u, step.holds.others u, step.holds.now);
        alone = λ u v m p q.
            grind (
              arith,
              waiter_cases u w,
              waiter_cases v w,
              ok.alone u v m,
              step.holds.others u,
              step.holds.others v,
              step.holds.now,
            );
        without = λ u p.
            grind (
              arith,
              waiter_cases u w,
              ok.without u,
              step.acts.others u,
              step.acts.now,
              step.holds.others u,
            );
        unreads = λ u p.
            grind (
              arith,
              waiter_cases u w,
              ok.unreads u,
              step.acts.others u,
              step.acts.now,
              step.holds.others u,
            );
        unwrites = λ u p.
            grind (
              arith,
              waiter_cases u w,
              ok.unwrites u,
              step.acts.others u,
              step.acts.now,
              step.holds.others u,
            );
      }

  -- the writer releases
  pub rw_hold_unwrite : {b : Bool} {holders : List Holder} → HoldsAgree b phase held holders
      → h ≡ Some Writes → h' ≡ None → rests r' ≡ true
      → HoldsAgree false phase' held' (without w Writes holders)
  rw_hold_unwrite ok has none away =
      let mine = step.holds.was ∙ has in
      record {
        each = holds_less Writes ok.each has none;
        unspun = λ u p.
            grind (arith, waiter_cases u w, ok.unspun u, step.holds.others u, step.holds.now);
        written = λ p. absurd (grind arith);
        writes = λ u p.
            absurd
            (grind (
              arith,
              waiter_cases u w,
              ok.alone w u Writes mine,
              step.holds.others u,
              step.holds.now,
            ));
        alone = λ u v m p q.
            absurd
            (grind (
              arith,
              waiter_cases u w,
              ok.alone w u Writes mine,
              step.holds.others u,
              step.holds.now,
            ));
        without = λ u p.
            grind (
              arith,
              waiter_cases u w,
              ok.without u,
              step.acts.others u,
              step.acts.now,
              step.holds.others u,
            );
        unreads = λ u p.
            grind (
              arith,
              waiter_cases u w,
              ok.unreads u,
              step.acts.others u,
              step.acts.now,
              step.holds.others u,
            );
        unwrites = λ u p.
            grind (
              arith,
              waiter_cases u w,
              ok.unwrites u,
              step.acts.others u,
              step.acts.now,
              step.holds.others u,
            );
      }

  inner_else : {b : Bool} → WaitingAgrees b phase waits → (u : Waiter)
      → waits' u ≡ is_inner (phase' u)
  inner_else ok u =
      grind (
        arith,
        waiter_cases u w,
        ok.inner u,
        step.acts.others u,
        step.acts.now,
        step.others u,
        step.inner,
      )

  -- it has set waiting, or has not, as before
  pub waiting_keep : {b : Bool} → WaitingAgrees b phase waits → announces r' ≡ announces r
      → WaitingAgrees b phase' waits'
  waiting_keep ok same =
      record {
        set = λ u p.
            grind (
              arith,
              waiter_cases u w,
              ok.set u,
              step.acts.others u,
              step.acts.now,
              step.acts.was,
              is_so r,
            );
        someone = λ p. let s = ok.someone p in (
          s.0,
          grind (
            arith,
            waiter_cases s.0 w,
            s.1,
            step.acts.others s.0,
            step.acts.now,
            step.acts.was,
            is_so r',
          ),
        );
        inner = inner_else ok;
      }
    where
      is_so : (q : RwPhase) → announces q ≡ true → q ≡ Announces
      is_so q p = grind arith

  -- it sets waiting
  pub waiting_set : {b : Bool} → WaitingAgrees b phase waits → r' ≡ Announces
      → WaitingAgrees true phase' waits'
  waiting_set ok sets =
      record { set = λ u p. refl; someone = λ p. (w, step.acts.now ∙ sets); inner = inner_else ok }

  -- it clears waiting, where nobody else has the wait lock
  pub waiting_clear : {b : Bool} → WaitingAgrees b phase waits
      → ((u : Waiter) → waits u ≡ true → u ≡ w) → announces r' ≡ false
      → WaitingAgrees false phase' waits'
  waiting_clear ok one gone =
      record {
        set = λ u p.
            absurd
            (grind
            (arith, waiter_cases u w, one u, ok.inner u, step.acts.others u, step.acts.now, p));
        someone = λ p. absurd (grind arith);
        inner = inner_else ok;
      }
