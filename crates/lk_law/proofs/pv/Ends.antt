use Rattle.std.proofs.Common.{◌≡◌, ◌≢◌, Option, Some, None, true, ◌⊎◌, inl, inr, ap, refl, sym, ◌∙◌}
use Rattle.lk_law.proofs.Names.{cases_Bool, Locked, Slow, NodeName, Waiter, State, Running, Post}
use Rattle.lk_law.proofs.Names.{PostsAgree, bare, calls, dozes, fronts, names, one_at, post_full}
use Rattle.lk_law.proofs.Names.{post_holds, slow_at, slowing, touches, Drops, Finds, Has, Joins}
use Rattle.lk_law.proofs.Names.{Off, Rises, Signing, Slowing, Moves}
use Rattle.lk_law.proofs.{common.Cases.waiter_cases, pv.Calls.has-none, pv.Met.Met}
use Rattle.lk_law.proofs.pv.Turn.{pv_step, was_true, still_true, as_before, some-cases, full-fronts}
use Rattle.lk_law.proofs.pv.Turn.{names-holds}
use Rattle.lk_law.specs.Pv.Post.{Spins}

module _ {locked : Locked} {entry : Option NodeName} {front : Option Waiter}
    {post : Waiter → Post} {state : Waiter → State} {own : Waiter → NodeName}
    {owed : Waiter → Type 0} (met : Met locked entry front post state own owed) where
  open met use {posts as ok, leads}

  -- without a queue nobody touches the slow byte
  calm-lock : front ≡ None
      → (entry ≡ None) × (locked ≢ Slow) × ((u : Waiter) → touches (post u) ≡ true → ⊥)
  calm-lock none =
      let e : entry ≡ None = elim (some-cases entry) [
        | inl e ↦ e
        | inr n ↦ absurd (let q = ok.entered n.0 n.1 in cc (q.1, none))
      ] in
      let l : locked ≢ Slow =
      (λ s. let b = ok.bare_some e s in let n = bare-named (post b.0) b.1 in
      let q = ok.named b.0 n.0 n.1 in cc (q.1, none)) in (
        e,
        l,
        λ u t.
            elim (touch-cases (post u) t) [
              | inl n ↦ let q = ok.named u n.0 n.1 in cc (q.1, none)
              | inr s ↦ l (ok.slow u s)
            ],
      )
    where
      bare-named : (p : Post) → bare p ≡ true → (n : NodeName) × (names p ≡ Some n)
      bare-named (Signing y) h = (y, refl)
      bare-named (Drops y) h = (y, refl)
      bare-named _ h = cc h

      touch-cases : (p : Post) → touches p ≡ true
          → ((n : NodeName) × (names p ≡ Some n)) ⊎ (slow_at p ≡ true)
      touch-cases (Slowing y) h = inl (y, refl)
      touch-cases (Signing y) h = inl (y, refl)
      touch-cases (Drops y) h = inl (y, refl)
      touch-cases Finds h = inr refl
      touch-cases _ h = cc h

module _ {locked : Locked} {entry : Option NodeName} {front : Option Waiter}
    {post post' : Waiter → Post} {state : Waiter → State} {own : Waiter → NodeName}
    {owed : Waiter → Type 0} {w : Waiter} (met : Met locked entry front post state own owed) where
  open met use {posts as ok, only, leads}

  module _ {state' : Waiter → State} where
    -- G4 behind a queue, and G5
    pub g4_behind : Moves post post' w Off Joins → Moves state state' w Running Running
        → PostsAgree locked entry front post' state' own owed
    g4_behind moves puts =
        pv_step met {owed' = owed} Off Joins Running Running moves puts
        (refl, refl, refl, refl, refl, refl, refl, refl)
        (λ r. cc r) (λ f a b. refl) (λ u f c d. cc d) (λ f e. cc e) (λ f e. cc e) (λ f e. cc e)
        (λ z n sl o. o) (λ e. cc e) (λ e. cc e)

    -- G5: it links, and begins to spin; the one that leads cannot be one that links
    pub g5_link : Moves post post' w Joins Spins → Moves state state' w Running Running
        → front ≢ Some w → PostsAgree locked entry front post' state' own owed
    g5_link moves puts behind =
        record {
          fit = λ u f a b. elim (waiter_cases u w) [
            | inl e ↦ rw (e, moves.now, puts.now) refl
            | inr ne ↦ rw (moves.others u ne, puts.others u ne) (ok.fit u f a b)
          ];
          bare_entry =
              λ u h. ok.bare_entry u (was_true post post' w Joins Spins moves bare refl u h).1;
          bare_slow =
              λ u h. ok.bare_slow u (was_true post post' w Joins Spins moves bare refl u h).1;
          bare_some = λ a b. let r = ok.bare_some a b in
              (r.0, still_true post post' w Joins Spins moves bare refl r.0 r.1);
          full_entry =
              λ u h. ok.full_entry u (was_true post post' w Joins Spins moves post_full refl u h).1;
          full_slow =
              λ u h. ok.full_slow u (was_true post post' w Joins Spins moves post_full refl u h).1;
          full_some = λ n a b. let r = ok.full_some n a b in
              (r.0, still_true post post' w Joins Spins moves post_full refl r.0 r.1);
          entered = ok.entered;
          named = λ u n h.
              ok.named u n (sym (as_before post post' w Joins Spins moves names refl u) ∙ h);
          raw_slow = λ z f h. let ne = not_first z f in
              ok.raw_slow z f (rw (moves.others z ne, puts.others z ne) at h);
          raw_free = λ z u f h. let ne = not_first z f in
              as_before post post' w Joins Spins moves touches refl u
              ∙ ok.raw_free z u f (rw (moves.others z ne, puts.others z ne) at h);
          slow = λ u h. ok.slow u (was_true post post' w Joins Spins moves slow_at refl u h).1;
          one = λ u h. ok.one u (was_true post post' w Joins Spins moves one_at refl u h).1;
          called = λ z u f c d. let ne = not_first z f in
              puts.others z ne
              ∙ ok.called z u f (was_true post post' w Joins Spins moves calls refl u c).1
              (ap dozes (sym (moves.others z ne)) ∙ d);
          dozed = λ z f d h. let ne = not_first z f in
              let r = ok.dozed z f (sym (moves.others z ne) ∙ d) (sym (puts.others z ne) ∙ h) in
              (r.0, still_true post post' w Joins Spins moves calls refl r.0 r.1);
          slept = λ z f d.
              let ne = not_first z f in elim (ok.slept z f (sym (moves.others z ne) ∙ d)) [
                | inl a ↦ inl a
                | inr b ↦ elim
                    b [
                      | inl c ↦ inr
                          (inl (c.0, still_true post post' w Joins Spins moves calls refl c.0 c.1))
                      | inr e ↦ elim
                          e [
                            | inl g ↦ inr
                                (inr (inl (
                                  g.0,
                                  still_true post post' w Joins Spins moves slowing refl g.0 g.1,
                                )))
                            | inr o ↦ inr (inr (inr o))
                          ]
                    ]
              ];
          napped = λ z f d.
              let ne = not_first z f in elim (ok.napped z f (sym (moves.others z ne) ∙ d)) [
                | inl a ↦ inl a
                | inr e ↦ elim
                    e [
                      | inl g ↦ inr
                          (inl (
                            g.0,
                            still_true post post' w Joins Spins moves slowing refl g.0 g.1,
                          ))
                      | inr o ↦ inr (inr o)
                    ]
              ];
        }
      where
        not_first : (z : Waiter) → front ≡ Some z → z ≢ w
        not_first z f e = behind (f ∙ ap (λ q. Some q) e)

  -- G4 on an empty queue: it leads
  pub g4_first : Moves post post' w Off Rises → state w ≡ Running → front ≡ None
      → PostsAgree locked entry (Some w) post' state own owed
  g4_first moves run none =
      let c = calm-lock met none in
      record {
        fit = λ u f a b. elim (waiter_cases u w) [
          | inl e ↦ rw (e, moves.now, run) refl
          | inr ne ↦ rw (moves.others u ne)
              (ok.fit u f (λ q r. cc (r, none))
              (λ q. absurd (ne (let z = b q in let y : w ≡ u = cc z in sym y))))
        ];
        bare_entry = λ u h. c.0;
        bare_slow = λ u h. ok.bare_slow u (was_true post post' w Off Rises moves bare refl u h).1;
        bare_some = λ a b. absurd (c.1 b);
        full_entry = λ u h. let q = was_true post post' w Off Rises moves post_full refl u h in
            absurd (let f = leads u (full-fronts (post u) q.1) in cc (f, none));
        full_slow = λ u h. c.1;
        full_some = λ n a b. absurd (cc (a, c.0));
        entered = λ n a. absurd (cc (a, c.0));
        named = λ u n h. let q =
            ok.named u n (sym (as_before post post' w Off Rises moves names refl u) ∙ h) in
            absurd (cc (q.1, none));
        raw_slow = λ z f h. c.1;
        raw_free = λ z u f h.
            elim (cases_Bool (touches (post' u))) [
              | inl t ↦ absurd
                  (c.2 u (was_true post post' w Off Rises moves touches refl u t).1)
              | inr q ↦ q
            ];
        slow = λ u h. ok.slow u (was_true post post' w Off Rises moves slow_at refl u h).1;
        one = λ u h. ok.one u (was_true post post' w Off Rises moves one_at refl u h).1;
        called = λ z u f d e. let q : w ≡ z = cc f in
            absurd (cc (ap (λ r. dozes (post' r)) q, ap dozes moves.now, e));
        dozed = λ z f d h. let q : w ≡ z = cc f in absurd (cc (ap post' q, moves.now, d));
        slept = λ z f d. let q : w ≡ z = cc f in absurd (cc (ap post' q, moves.now, d));
        napped = λ z f d. let q : w ≡ z = cc f in absurd (cc (ap post' q, moves.now, d));
      }

  -- E13: the only waiter leaves
  pub e13_leave : Moves post post' w Has Off → PostsAgree locked entry None post' state own owed
  e13_leave moves =
      let f = leads w (ap fronts moves.was) in
      let h = ap post_holds moves.was in
      let e = has-none met moves.was in
      record {
        fit = λ u g a b. elim (waiter_cases u w) [
          | inl j ↦ rw (j, moves.now) refl
          | inr ne ↦ rw (moves.others u ne)
              (ok.fit u g (λ q r.
              ne (let z : Some w ≡ Some u = sym f ∙ r in let y : w ≡ u = cc z in sym y))
              (λ q. absurd (let z = b q in cc z)))
        ];
        bare_entry = λ u p. e;
        bare_slow = λ u p. ok.bare_slow u (was_true post post' w Has Off moves bare refl u p).1;
        bare_some = λ a b. absurd (let o = ok.one w (ap one_at moves.was) in cc (o, b));
        full_entry = λ u p. let q = was_true post post' w Has Off moves post_full refl u p in
            absurd (q.0 (let a = leads u (full-fronts (post u) q.1) in cc (a, f)));
        full_slow = λ u p.
            let q = was_true post post' w Has Off moves post_full refl u p in ok.full_slow u q.1;
        full_some = λ n a b. absurd (cc (a, e));
        entered = λ n a. absurd (cc (a, e));
        named = λ u n p. elim (waiter_cases u w) [
          | inl j ↦ absurd (cc (ap (λ r. names (post' r)) j, ap names moves.now, p))
          | inr ne ↦
              absurd
              (ne (only u w (names-holds (post u) n (ap names (sym (moves.others u ne)) ∙ p)) h))
        ];
        raw_slow = λ z p. cc p;
        raw_free = λ z u p. cc p;
        slow = λ u p. ok.slow u (was_true post post' w Has Off moves slow_at refl u p).1;
        one = λ u p. ok.one u (was_true post post' w Has Off moves one_at refl u p).1;
        called = λ z u p. cc p;
        dozed = λ z p. cc p;
        slept = λ z p. cc p;
        napped = λ z p. cc p;
      }
