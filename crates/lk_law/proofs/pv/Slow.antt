use Rattle.std.proofs.Common.{◌≡◌, ◌≢◌, Option, Some, None, Bool, true, false, ◌⊎◌, inl, inr, arith}
use Rattle.std.proofs.Common.{ap, refl, sym, ◌∙◌}
use Rattle.lk_law.proofs.Names.{Locked, Free, Held, Slow, NodeName, Waiter, State, Post, PostsAgree}
use Rattle.lk_law.proofs.Names.{bare, calls, dozes, names, one_at, post_full, post_holds, raw}
use Rattle.lk_law.proofs.Names.{slow_at, slowing, touches, Drops, Erases, Finds, Kicks, Off}
use Rattle.lk_law.proofs.Names.{Signing, Slowing, Slows, Moves}
use Rattle.lk_law.proofs.{common.Cases.waiter_cases, pv.Met.Met}

-- what the posts say of one another
full-cases : (p : Post) → post_full p ≡ true → (p ≡ Slows) ⊎ (p ≡ Erases)
full-cases Slows h = inl refl
full-cases Erases h = inr refl
full-cases _ h = cc h

pub touches-holds : (p : Post) → touches p ≡ true → post_holds p ≡ true
touches-holds p h = grind arith

pub bare-touches : (p : Post) → bare p ≡ true → touches p ≡ true
bare-touches p h = grind arith

pub calls-holds : (p : Post) → calls p ≡ true → post_holds p ≡ true
calls-holds p h = grind arith

pub slowing-holds : (p : Post) → slowing p ≡ true → post_holds p ≡ true
slowing-holds p h = grind arith

pub slow_at-holds : (p : Post) → slow_at p ≡ true → post_holds p ≡ true
slow_at-holds p h = grind arith

pub one_at-holds : (p : Post) → one_at p ≡ true → post_holds p ≡ true
one_at-holds p h = grind arith

module _ {locked : Locked} {entry : Option NodeName} {front : Option Waiter}
    {post : Waiter → Post} {state : Waiter → State} {own : Waiter → NodeName}
    {owed : Waiter → Type 0} (met : Met locked entry front post state own owed) where
  open met use {posts as ok, only, leads}

  -- where one touches the slow byte, nobody is entered beside a byte that is not slow
  pub no_full : (u v : Waiter) → touches (post v) ≡ true → post_full (post u) ≡ true → ⊥
  no_full u v t h =
      elim (full-cases (post u) h) [
        | inl e ↦ let f = leads u (rw e refl) in let r = ok.raw_free u v f (rw e refl) in cc (r, t)
        | inr e ↦ let s = only u v (rw e refl) (touches-holds (post v) t) in cc (ap post s, e, t)
      ]

  pub not_raw : (z v : Waiter) → touches (post v) ≡ true → front ≡ Some z
      → raw (post z) (state z) ≡ true → ⊥
  not_raw z v t f r = cc (ok.raw_free z v f r, t)

module _ {locked : Locked} {entry : Option NodeName} {front : Option Waiter}
    {post : Waiter → Post} {state : Waiter → State} {own : Waiter → NodeName}
    {owed : Waiter → Type 0} {w : Waiter} (met : Met locked entry front post state own owed) where
  open met use {only}

  pub none_else : (P : Post → Bool) → ((p : Post) → P p ≡ true → post_holds p ≡ true)
      → post_holds (post w) ≡ true → (u : Waiter) → u ≢ w → P (post u) ≡ true → ⊥
  none_else P sub h u ne q = ne (only u w (sub (post u) q) h)

-- of the posts that the hash speaks of
module _ {locked : Locked} {entry : Option NodeName} {front : Option Waiter}
    {post post' : Waiter → Post} {state : Waiter → State} {own : Waiter → NodeName}
    {owed : Waiter → Type 0} {w : Waiter} (met : Met locked entry front post state own owed) where
  open met use {posts as ok, only, leads}

  -- K2: the holder tells the releaser to look into the hash
  pub k2_slow : (y : NodeName) → Moves post post' w (Slowing y) (Signing y)
      → PostsAgree Slow entry front post' state own owed
  k2_slow y moves =
      let t : touches (post w) ≡ true = rw moves.was refl in
      let h : post_holds (post w) ≡ true = rw moves.was refl in
      let l : locked ≡ Held = ok.one w (rw moves.was refl) in
      let e : entry ≡ None = empty entry refl l t in
      record {
        fit = λ u f p q. grind (arith, waiter_cases u w, moves.others u, moves.now, ok.fit u f p q);
        bare_entry = λ u p. e;
        bare_slow = λ u p. refl;
        bare_some = λ p q. (w, rw moves.now refl);
        full_entry = λ u p. absurd (no_full met u w t (elsewhere post_full refl u p));
        full_slow = λ u p q. no_full met u w t (elsewhere post_full refl u p);
        full_some = λ n p q. absurd (q refl);
        entered = ok.entered;
        named = λ u n p.
            grind (arith, waiter_cases u w, moves.others u, moves.now, moves.was, ok.named u n);
        raw_slow = λ z p q r. not_raw met z w t p (elsewhere-raw z q);
        raw_free = λ z u p q. absurd (not_raw met z w t p (elsewhere-raw z q));
        slow = λ u p. refl;
        one = λ u p.
            absurd (none_else met one_at one_at-holds h u (not_w one_at refl u p)
            (elsewhere one_at refl u p));
        called = λ z u p q r.
            absurd (none_else met calls calls-holds h u (not_w calls refl u q)
            (elsewhere calls refl u q));
        dozed = λ z p q r.
            let zw : z ≢ w = (λ d. cc (ap post' d, q, moves.now)) in
            let c = ok.dozed z p (sym (moves.others z zw) ∙ q) r in
            absurd (let s = only c.0 w (calls-holds (post c.0) c.1) h in
            cc (ap post s, c.1, moves.was));
        slept = λ z p q. inl refl;
        napped = λ z p q. inl refl;
      }
    where
      not_w : (P : Post → Bool) → P (Signing y) ≡ false → (u : Waiter) → P (post' u) ≡ true → u ≢ w
      not_w P f u p e = cc (ap post' e, moves.now, p, f, ap (λ z. P (post' z)) e, ap P moves.now)

      elsewhere : (P : Post → Bool) → P (Signing y) ≡ false → (u : Waiter) → P (post' u) ≡ true
          → P (post u) ≡ true
      elsewhere P f u p = ap P (sym (moves.others u (not_w P f u p))) ∙ p

      elsewhere-raw : (z : Waiter) → raw (post' z) (state z) ≡ true → raw (post z) (state z) ≡ true
      elsewhere-raw z q = let ne : z ≢ w =
          (λ e. cc (ap (λ v. raw (post' v) (state z)) e, ap (λ p. raw p (state z)) moves.now, q)) in
          ap (λ p. raw p (state z)) (sym (moves.others z ne)) ∙ q

      empty : (e : Option NodeName) → entry ≡ e → locked ≡ Held → touches (post w) ≡ true → e ≡ None
      empty None q l t = refl
      empty (Some n) q l t =
          let f = ok.full_some n q (λ s. cc (s, l)) in absurd (no_full met f.0 w t f.1)

  -- K3: it enters the one that leads
  pub k3_sign : (y : NodeName) → Moves post post' w (Signing y) Off
      → PostsAgree locked (Some y) front post' state own owed
  k3_sign y moves =
      let t : touches (post w) ≡ true = rw moves.was refl in
      let h : post_holds (post w) ≡ true = rw moves.was refl in
      let l : locked ≡ Slow = ok.bare_slow w (rw moves.was refl) in
      let n = ok.named w y (rw moves.was refl) in
      record {
        fit = λ u f p q. grind (arith, waiter_cases u w, moves.others u, moves.now, ok.fit u f p q);
        bare_entry =
            λ u p. absurd
            (none_else met bare (λ q z. touches-holds q (bare-touches q z)) h u
            (not_w bare refl u p)
            (elsewhere bare refl u p));
        bare_slow = λ u p. l;
        bare_some = λ p. cc p;
        full_entry = λ u p. absurd (no_full met u w t (elsewhere post_full refl u p));
        full_slow = λ u p q. no_full met u w t (elsewhere post_full refl u p);
        full_some = λ m p q. absurd (q l);
        entered = λ m p. (n.0, n.1, (let e : y ≡ m = cc p in n.2 ∙ e));
        named = λ u m p. let ne : u ≢ w =
            (λ e. cc (ap (λ v. names (post' v)) e, ap names moves.now, p)) in
            ok.named u m (ap names (sym (moves.others u ne)) ∙ p);
        raw_slow = λ z p q r. not_raw met z w t p (elsewhere-raw z q);
        raw_free = λ z u p q. absurd (not_raw met z w t p (elsewhere-raw z q));
        slow = λ u p. l;
        one = λ u p.
            absurd (none_else met one_at one_at-holds h u (not_w one_at refl u p)
            (elsewhere one_at refl u p));
        called = λ z u p q r.
            absurd (none_else met calls calls-holds h u (not_w calls refl u q)
            (elsewhere calls refl u q));
        dozed = λ z p q r.
            let zw : z ≢ w = (λ d. cc (ap post' d, q, moves.now)) in
            let c = ok.dozed z p (sym (moves.others z zw) ∙ q) r in
            absurd (let s = only c.0 w (calls-holds (post c.0) c.1) h in
            cc (ap post s, c.1, moves.was));
        slept = λ z p q. inl l;
        napped = λ z p q. inl l;
      }
    where
      not_w : (P : Post → Bool) → P Off ≡ false → (u : Waiter) → P (post' u) ≡ true → u ≢ w
      not_w P f u p e = cc (ap post' e, moves.now, p, f, ap (λ z. P (post' z)) e, ap P moves.now)

      elsewhere : (P : Post → Bool) → P Off ≡ false → (u : Waiter) → P (post' u) ≡ true
          → P (post u) ≡ true
      elsewhere P f u p = ap P (sym (moves.others u (not_w P f u p))) ∙ p

      elsewhere-raw : (z : Waiter) → raw (post' z) (state z) ≡ true → raw (post z) (state z) ≡ true
      elsewhere-raw z q = let ne : z ≢ w =
          (λ e. cc (ap (λ v. raw (post' v) (state z)) e, ap (λ p. raw p (state z)) moves.now, q)) in
          ap (λ p. raw p (state z)) (sym (moves.others z ne)) ∙ q

  -- U3: the releaser seeks the entry out, and knows whom to kick
  pub u3_find : (t : NodeName) → Moves post post' w Finds (Drops t) → entry ≡ Some t
      → PostsAgree locked None front post' state own owed
  u3_find y moves is =
      let t : touches (post w) ≡ true = rw moves.was refl in
      let h : post_holds (post w) ≡ true = rw moves.was refl in
      let l : locked ≡ Slow = ok.slow w (rw moves.was refl) in
      let n = ok.entered y is in
      record {
        fit = λ u f p q. grind (arith, waiter_cases u w, moves.others u, moves.now, ok.fit u f p q);
        bare_entry = λ u p. refl;
        bare_slow = λ u p. l;
        bare_some = λ p q. (w, rw moves.now refl);
        full_entry = λ u p. absurd (no_full met u w t (elsewhere post_full refl u p));
        full_slow = λ u p q. no_full met u w t (elsewhere post_full refl u p);
        full_some = λ m p. cc p;
        entered = λ m p. cc p;
        named = λ u m p. elim (waiter_cases u w) [
          | inl e ↦ let q : Some y ≡ Some m = sym (ap (λ v. names (post' v)) e ∙ ap names moves.now)
              ∙ p in (n.0, n.1, (let r : y ≡ m = cc q in n.2 ∙ r))
          | inr ne ↦ ok.named u m (ap names (sym (moves.others u ne)) ∙ p)
        ];
        raw_slow = λ z p q r. not_raw met z w t p (elsewhere-raw z q);
        raw_free = λ z u p q. absurd (not_raw met z w t p (elsewhere-raw z q));
        slow = λ u p. l;
        one = λ u p.
            absurd (none_else met one_at one_at-holds h u (not_w one_at refl u p)
            (elsewhere one_at refl u p));
        called = λ z u p q r.
            absurd (none_else met calls calls-holds h u (not_w calls refl u q)
            (elsewhere calls refl u q));
        dozed = λ z p q r.
            let zw : z ≢ w = (λ d. cc (ap post' d, q, moves.now)) in
            let c = ok.dozed z p (sym (moves.others z zw) ∙ q) r in
            absurd (let s = only c.0 w (calls-holds (post c.0) c.1) h in
            cc (ap post s, c.1, moves.was));
        slept = λ z p q. inl l;
        napped = λ z p q. inl l;
      }
    where
      not_w : (P : Post → Bool) → P (Drops y) ≡ false → (u : Waiter) → P (post' u) ≡ true → u ≢ w
      not_w P f u p e = cc (ap post' e, moves.now, p, f, ap (λ z. P (post' z)) e, ap P moves.now)

      elsewhere : (P : Post → Bool) → P (Drops y) ≡ false → (u : Waiter) → P (post' u) ≡ true
          → P (post u) ≡ true
      elsewhere P f u p = ap P (sym (moves.others u (not_w P f u p))) ∙ p

      elsewhere-raw : (z : Waiter) → raw (post' z) (state z) ≡ true → raw (post z) (state z) ≡ true
      elsewhere-raw z q = let ne : z ≢ w =
          (λ e. cc (ap (λ v. raw (post' v) (state z)) e, ap (λ p. raw p (state z)) moves.now, q)) in
          ap (λ p. raw p (state z)) (sym (moves.others z ne)) ∙ q

  module _ {owed' : Waiter → Type 0} where
    -- U4: the releaser frees the lock, and owes a kick to the processor of the one that leads
    pub u4_drop : (t : NodeName) → Moves post post' w (Drops t) (Kicks t)
        → ((z : Waiter) → owed z → owed' z) → ((z : Waiter) → front ≡ Some z → own z ≡ t → owed' z)
        → PostsAgree Free entry front post' state own owed'
    u4_drop y moves more debt =
        let t : touches (post w) ≡ true = rw moves.was refl in
        let h : post_holds (post w) ≡ true = rw moves.was refl in
        let e : entry ≡ None = ok.bare_entry w (rw moves.was refl) in
        let n = ok.named w y (rw moves.was refl) in
        record {
          fit =
              λ u f p q. grind (arith, waiter_cases u w, moves.others u, moves.now, ok.fit u f p q);
          bare_entry = λ u p. e;
          bare_slow = λ u p.
              absurd (none_else met bare (λ q z. touches-holds q (bare-touches q z)) h u
              (not_w bare refl u p) (elsewhere bare refl u p));
          bare_some = λ p q. cc q;
          full_entry = λ u p. absurd (no_full met u w t (elsewhere post_full refl u p));
          full_slow = λ u p q. cc q;
          full_some = λ m p q. absurd (cc (p, e));
          entered = λ m p. cc (p, e);
          named = λ u m p. let ne : u ≢ w =
              (λ e. cc (ap (λ v. names (post' v)) e, ap names moves.now, p)) in
              ok.named u m (ap names (sym (moves.others u ne)) ∙ p);
          raw_slow = λ z p q r. cc r;
          raw_free = λ z u p q. absurd (not_raw met z w t p (elsewhere-raw z q));
          slow = λ u p.
              absurd (none_else met slow_at slow_at-holds h u (not_w slow_at refl u p)
              (elsewhere slow_at refl u p));
          one = λ u p.
              absurd (none_else met one_at one_at-holds h u (not_w one_at refl u p)
              (elsewhere one_at refl u p));
          called = λ z u p q r.
              absurd (none_else met calls calls-holds h u (not_w calls refl u q)
              (elsewhere calls refl u q));
          dozed = λ z p q r.
              let zw : z ≢ w = (λ d. cc (ap post' d, q, moves.now)) in
              let c = ok.dozed z p (sym (moves.others z zw) ∙ q) r in
              absurd (let s = only c.0 w (calls-holds (post c.0) c.1) h in
              cc (ap post s, c.1, moves.was));
          slept = λ z p q.
              inr (inr (inr (debt z p (let s : n.0 ≡ z = cc (n.1, p) in ap own (sym s) ∙ n.2))));
          napped =
              λ z p q. inr (inr (debt z p (let s : n.0 ≡ z = cc (n.1, p) in ap own (sym s) ∙ n.2)));
        }
      where
        not_w : (P : Post → Bool) → P (Kicks y) ≡ false → (u : Waiter) → P (post' u) ≡ true → u ≢ w
        not_w P f u p e = cc (ap post' e, moves.now, p, f, ap (λ z. P (post' z)) e, ap P moves.now)

        elsewhere : (P : Post → Bool) → P (Kicks y) ≡ false → (u : Waiter) → P (post' u) ≡ true
            → P (post u) ≡ true
        elsewhere P f u p = ap P (sym (moves.others u (not_w P f u p))) ∙ p

        elsewhere-raw : (z : Waiter) → raw (post' z) (state z) ≡ true
            → raw (post z) (state z) ≡ true
        elsewhere-raw z q = let ne : z ≢ w =
            (λ e. cc (
              ap (λ v. raw (post' v) (state z)) e,
              ap (λ p. raw p (state z)) moves.now,
              q,
            )) in ap (λ p. raw p (state z)) (sym (moves.others z ne)) ∙ q

  module _ {owed' : Waiter → Type 0} where
    -- U5: the kick is remembered
    pub u5_kick : (t : NodeName) → Moves post post' w (Kicks t) Off
        → ((z : Waiter) → owed z → owed' z) → PostsAgree locked entry front post' state own owed'
    u5_kick y moves more =
        record {
          fit =
              λ u f p q. grind (arith, waiter_cases u w, moves.others u, moves.now, ok.fit u f p q);
          bare_entry = λ u p. ok.bare_entry u (elsewhere bare refl u p);
          bare_slow = λ u p. ok.bare_slow u (elsewhere bare refl u p);
          bare_some = λ p q. let s = ok.bare_some p q in (s.0, stays bare refl s.0 s.1);
          full_entry = λ u p. ok.full_entry u (elsewhere post_full refl u p);
          full_slow = λ u p. ok.full_slow u (elsewhere post_full refl u p);
          full_some = λ n p q. let s = ok.full_some n p q in (s.0, stays post_full refl s.0 s.1);
          entered = ok.entered;
          named = λ u m p. let ne : u ≢ w =
              (λ e. cc (ap (λ v. names (post' v)) e, ap names moves.now, p)) in
              ok.named u m (ap names (sym (moves.others u ne)) ∙ p);
          raw_slow = λ z p q. ok.raw_slow z p (elsewhere-raw z q);
          raw_free = λ z u p q. free z u (ok.raw_free z u p (elsewhere-raw z q));
          slow = λ u p. ok.slow u (elsewhere slow_at refl u p);
          one = λ u p. ok.one u (elsewhere one_at refl u p);
          called =
              λ z u p q r. ok.called z u p (elsewhere calls refl u q) (elsewhere dozes refl z r);
          dozed = λ z p q r. let zw : z ≢ w = (λ d. cc (ap post' d, q, moves.now)) in
              let s = ok.dozed z p (sym (moves.others z zw) ∙ q) r in
              (s.0, stays calls refl s.0 s.1);
          slept = λ z p q. let zw : z ≢ w = (λ d. cc (ap post' d, q, moves.now)) in
              elim (ok.slept z p (sym (moves.others z zw) ∙ q)) [
                | inl a ↦ inl a
                | inr b ↦ elim
                    b [
                      | inl c ↦ inr (inl (c.0, stays calls refl c.0 c.1))
                      | inr d ↦ elim
                          d [
                            | inl e ↦ inr (inr (inl (e.0, stays slowing refl e.0 e.1)))
                            | inr f ↦ inr (inr (inr (more z f)))
                          ]
                    ]
              ];
          napped = λ z p q. let zw : z ≢ w = (λ d. cc (ap post' d, q, moves.now)) in
              elim (ok.napped z p (sym (moves.others z zw) ∙ q)) [
                | inl a ↦ inl a
                | inr d ↦ elim d [
                  | inl e ↦ inr (inl (e.0, stays slowing refl e.0 e.1))
                  | inr f ↦ inr (inr (more z f))
                ]
              ];
        }
      where
        not_w : (P : Post → Bool) → P Off ≡ false → (u : Waiter) → P (post' u) ≡ true → u ≢ w
        not_w P f u p e = cc (ap post' e, moves.now, p, f, ap (λ z. P (post' z)) e, ap P moves.now)

        elsewhere : (P : Post → Bool) → P Off ≡ false → (u : Waiter) → P (post' u) ≡ true
            → P (post u) ≡ true
        elsewhere P f u p = ap P (sym (moves.others u (not_w P f u p))) ∙ p

        stays : (P : Post → Bool) → P (Kicks y) ≡ false → (u : Waiter) → P (post u) ≡ true
            → P (post' u) ≡ true
        stays P f u p = let ne : u ≢ w = (λ e. cc (ap (λ z. P (post z)) e, ap P moves.was, p, f)) in
            ap P (moves.others u ne) ∙ p

        elsewhere-raw : (z : Waiter) → raw (post' z) (state z) ≡ true
            → raw (post z) (state z) ≡ true
        elsewhere-raw z q = let ne : z ≢ w =
            (λ e. cc (
              ap (λ v. raw (post' v) (state z)) e,
              ap (λ p. raw p (state z)) moves.now,
              q,
            )) in ap (λ p. raw p (state z)) (sym (moves.others z ne)) ∙ q

        free : (z u : Waiter) → touches (post u) ≡ false → touches (post' u) ≡ false
        free z u f =
            elim (waiter_cases u w) [
              | inl e ↦ ap (λ v. touches (post' v)) e ∙ ap touches moves.now
              | inr ne ↦ ap touches (moves.others u ne) ∙ f
            ]
