use Rattle.std.proofs.Common.{◌≡◌, ◌≢◌, Option, Some, None, Bool, true, false, ◌⊎◌, inl, inr, arith}
use Rattle.std.proofs.Common.{ap, refl, sym, ◌∙◌, subst}
use Rattle.lk_law.proofs.Names.{cases_Bool, Locked, Free, Held, Slow, NodeName, Waiter, State}
use Rattle.lk_law.proofs.Names.{Halted, Hashed, Post, PostsAgree, bare, calls, dozes, fits, fronts}
use Rattle.lk_law.proofs.Names.{names, one_at, post_full, post_holds, raw, slow_at, slowing}
use Rattle.lk_law.proofs.Names.{touches, Calls, Has, Naps, Off, Sleeps, Slowing, Tries, Moves}
use Rattle.lk_law.proofs.{common.Cases.waiter_cases, pv.Met.Met}
use Rattle.lk_law.proofs.pv.Slow.{touches-holds, calls-holds, slowing-holds, slow_at-holds}
use Rattle.lk_law.proofs.pv.Slow.{one_at-holds}
use Rattle.lk_law.proofs.pv.Turn.{was_true, still_true, as_before, follows_post, not_slow}
use Rattle.lk_law.proofs.pv.Turn.{some-cases, full-fronts, names-holds, bare-holds, halted-follows}
use Rattle.lk_law.proofs.pv.Turn.{follows-fit, follows-doze}

module _ {locked : Locked} {entry : Option NodeName} {front : Option Waiter}
    {post : Waiter → Post} {state : Waiter → State} {own : Waiter → NodeName}
    {owed : Waiter → Type 0} {w : Waiter} (met : Met locked entry front post state own owed) where
  open met use {only}

  alone : (P : Post → Bool) → ((p : Post) → P p ≡ true → post_holds p ≡ true)
      → post_holds (post w) ≡ true
      → (u : Waiter) → u ≢ w → P (post u) ≡ true → ⊥
  alone P sub h u ne q = ne (only u w (sub (post u) q) h)

module _ {locked : Locked} {entry : Option NodeName} {front : Option Waiter}
    {post : Waiter → Post} {state : Waiter → State} {own : Waiter → NodeName}
    {owed : Waiter → Type 0} (met : Met locked entry front post state own owed) where
  open met use {posts as ok, only, leads, taken}

  -- the one that leads has the lock and nobody is entered
  pub has-none : {w : Waiter} → post w ≡ Has → entry ≡ None
  has-none {w = w} was =
      let l = ok.one w (rw was refl) in
      let f = leads w (rw was refl) in
      elim (some-cases entry) [
        | inl e ↦ e
        | inr n ↦ let s = ok.full_some n.0 n.1 (λ e. cc (e, l)) in
            let g = leads s.0 (full-fronts (post s.0) s.1) in
            let i : s.0 ≡ w = cc (g, f) in
            absurd (cc (ap (λ v. post_full (post v)) i, ap post_full was, s.1))
      ]

  -- the byte changes between 0 and 1, by one that has no post: rows F1, T2, H2 and U2
  pub pv_byte : (locked' : Locked) → locked ≢ Slow → locked' ≢ Slow
      → ((u : Waiter) → post_holds (post u) ≡ false)
      → PostsAgree locked' entry front post state own owed
  pv_byte locked' plain plain' nobody =
      record {
        fit = ok.fit;
        bare_entry = ok.bare_entry;
        bare_slow = λ u p. absurd (cc (nobody u, bare-holds (post u) p));
        bare_some = λ p q. absurd (plain' q);
        full_entry = ok.full_entry;
        full_slow = λ u p. plain';
        full_some = λ n p q. ok.full_some n p plain;
        entered = ok.entered;
        named = ok.named;
        raw_slow = λ z p q. plain';
        raw_free = ok.raw_free;
        slow = λ u p. absurd (cc (nobody u, slow_at-holds (post u) p));
        one = λ u p. absurd (cc (nobody u, one_at-holds (post u) p));
        called = ok.called;
        dozed = ok.dozed;
        slept = λ z p q. elim (ok.slept z p q) [ inl s ↦ absurd (plain s) | inr r ↦ inr r ];
        napped = λ z p q. elim (ok.napped z p q) [ inl s ↦ absurd (plain s) | inr r ↦ inr r ];
      }

  -- a halted waiter that leads the queue of a free lock is owed a kick
  pub kicked : locked ≡ Free → (z : Waiter) → front ≡ Some z → (post z ≡ Sleeps) ⊎ (post z ≡ Naps)
      → owed z
  kicked free z f (inl s) =
      elim (ok.slept z f s) [
        | inl a ↦ absurd (cc (a, free))
        | inr b ↦ elim
            b [
              | inl c ↦ absurd (taken c.0 (calls-holds (post c.0) c.1) free)
              | inr d ↦ elim
                  d [ inl e ↦ absurd (taken e.0 (slowing-holds (post e.0) e.1) free) | inr g ↦ g ]
            ]
      ]
  kicked free z f (inr s) =
      elim (ok.napped z f s) [
        | inl a ↦ absurd (cc (a, free))
        | inr d ↦ elim d [
          | inl e ↦ absurd (taken e.0 (slowing-holds (post e.0) e.1) free)
          | inr g ↦ g
        ]
      ]

module _ {locked : Locked} {entry : Option NodeName} {front : Option Waiter}
    {post post' : Waiter → Post} {state : Waiter → State} {own : Waiter → NodeName}
    {owed : Waiter → Type 0} {w : Waiter} (met : Met locked entry front post state own owed) where
  open met use {posts as ok, only, leads, taken}

  module _ {state' : Waiter → State} where
    -- K1: the one that leads now had halted: its entry is left to this one
    pub k1_hash : (y : NodeName) (z : Waiter) → Moves post post' w (Calls y) (Slowing y)
        → front ≡ Some z → Moves state state' z Halted Hashed
        → (follows_post (post z) ≡ true) ⊎ (fronts (post z) ≡ true)
        → PostsAgree locked entry front post' state' own owed
    k1_hash y z moves f puts way =
        let h : post_holds (post w) ≡ true = rw moves.was refl in
        let ft : fits (post z) true Halted ≡ true =
        rw puts.was at (ok.fit z true (λ e. cc e) (λ e. f)) in
        let q = halted-follows (post z) way ft in
        let zw : z ≢ w =
        (λ e. cc (ap (λ v. follows_post (post v)) e, ap follows_post moves.was, q.0)) in
        let pz : post' z ≡ post z = moves.others z zw in
        let l : locked ≢ Slow = ok.raw_slow z f (rw puts.was q.1) in
        let one = not_slow locked l (taken w h) in
        let e : entry ≡ None = elim (some-cases entry) [
          | inl e ↦ e
          | inr n ↦ let s = ok.full_some n.0 n.1 l in
              let g = leads s.0 (full-fronts (post s.0) s.1) in
              let i : s.0 ≡ z = cc (g, f) in
              absurd (let b : post_full (post z) ≡ true =
              subst (λ (v : Waiter). post_full (post v) ≡ true) i s.1 in
              full-follows (post z) b q.0)
        ] in
        let low : raw (post' z) (state' z) ≡ false = rw (pz, puts.now) q.2 in
        record {
          fit = λ u g a b. elim (waiter_cases u z) [
            | inl i ↦ elim (bool-cases g) [
              | inl t ↦ rw (i, t, pz, puts.now) q.3
              | inr n ↦ absurd (a n (f ∙ ap (λ v. Some v) (sym i)))
            ]
            | inr ne ↦ elim (waiter_cases u w) [
              | inl j ↦ rw (j, moves.now) refl
              | inr nw ↦ rw (moves.others u nw, puts.others u ne) (ok.fit u g a b)
            ]
          ];
          bare_entry = λ u p. e;
          bare_slow = λ u p. let q =
              was_true post post' w (Calls y) (Slowing y) moves bare refl u p in
              absurd (alone met bare bare-holds h u q.0 q.1);
          bare_some = λ p q. absurd (l q);
          full_entry = λ u p.
              ok.full_entry u (was_true post post' w (Calls y)
              (Slowing y) moves post_full refl u p).1;
          full_slow = λ u p. l;
          full_some = λ n p q. absurd (cc (p, e));
          entered = ok.entered;
          named = λ u n p.
              ok.named u n (sym (as_before post post' w (Calls y) (Slowing y) moves names refl u)
              ∙ p);
          raw_slow = λ u p q. l;
          raw_free = λ u v p q. let i : u ≡ z = cc (p, f) in
              absurd (cc (ap (λ x. raw (post' x) (state' x)) i, low, q));
          slow = λ u p. let q =
              was_true post post' w (Calls y) (Slowing y) moves slow_at refl u p in
              absurd (alone met slow_at slow_at-holds h u q.0 q.1);
          one = λ u p. one;
          called = λ u v p q d. let r =
              was_true post post' w (Calls y) (Slowing y) moves calls refl v q in
              absurd (alone met calls calls-holds h v r.0 r.1);
          dozed = λ u p q d. let i : u ≡ z = cc (p, f) in absurd (cc (ap state' i, puts.now, d));
          slept = λ u p q. inr (inr (inl (w, rw moves.now refl)));
          napped = λ u p q. inr (inl (w, rw moves.now refl));
        }
      where
        full-follows : (p : Post) → post_full p ≡ true → follows_post p ≡ true → ⊥
        full-follows p h k = grind arith

        bool-cases : (b : Bool) → (b ≡ true) ⊎ (b ≡ false)
        bool-cases true = inl refl
        bool-cases false = inr refl

  -- K1: it had not halted
  pub k1_done : (y : NodeName) → Moves post post' w (Calls y) Off
      → ((z : Waiter) → front ≡ Some z → state z ≢ Halted)
      → PostsAgree locked entry front post' state own owed
  k1_done y moves awake =
      let h : post_holds (post w) ≡ true = rw moves.was refl in
      record {
        fit = λ u f p q. grind (arith, waiter_cases u w, moves.others u, moves.now, ok.fit u f p q);
        bare_entry =
            λ u p. ok.bare_entry u (was_true post post' w (Calls y) Off moves bare refl u p).1;
        bare_slow =
            λ u p. ok.bare_slow u (was_true post post' w (Calls y) Off moves bare refl u p).1;
        bare_some = λ p q. let s = ok.bare_some p q in
            (s.0, still_true post post' w (Calls y) Off moves bare refl s.0 s.1);
        full_entry =
            λ u p. ok.full_entry u (was_true post post' w (Calls y) Off moves post_full refl u p).1;
        full_slow =
            λ u p. ok.full_slow u (was_true post post' w (Calls y) Off moves post_full refl u p).1;
        full_some = λ n p q. let s = ok.full_some n p q in
            (s.0, still_true post post' w (Calls y) Off moves post_full refl s.0 s.1);
        entered = ok.entered;
        named = λ u m p. let ne : u ≢ w =
            (λ e. cc (ap (λ v. names (post' v)) e, ap names moves.now, p)) in
            ok.named u m (ap names (sym (moves.others u ne)) ∙ p);
        raw_slow = λ z p q. ok.raw_slow z p (raw-was z q);
        raw_free = λ z u p q. as_before post post' w (Calls y) Off moves touches refl u
            ∙ ok.raw_free z u p (raw-was z q);
        slow = λ u p. ok.slow u (was_true post post' w (Calls y) Off moves slow_at refl u p).1;
        one = λ u p. ok.one u (was_true post post' w (Calls y) Off moves one_at refl u p).1;
        called = λ z u p q d. let r = was_true post post' w (Calls y) Off moves calls refl u q in
            absurd (alone met calls calls-holds h u r.0 r.1);
        dozed = λ z p q d. absurd (awake z p d);
        slept = λ z p q. let zw : z ≢ w = (λ e. cc (ap post' e, moves.now, q)) in
            absurd
            (awake z p (ok.called z w p (rw moves.was refl)
            (rw (sym (moves.others z zw) ∙ q) refl)));
        napped = λ z p q. let zw : z ≢ w = (λ e. cc (ap post' e, moves.now, q)) in
            elim (ok.napped z p (sym (moves.others z zw) ∙ q)) [
              | inl x ↦ inl x
              | inr d ↦ elim
                  d [
                    | inl g ↦ inr
                        (inl (
                          g.0,
                          still_true post post' w (Calls y) Off moves slowing refl g.0 g.1,
                        ))
                    | inr f ↦ inr (inr f)
                  ]
            ];
      }
    where
      raw-was : (z : Waiter) → raw (post' z) (state z) ≡ true → raw (post z) (state z) ≡ true
      raw-was z q = let ne : z ≢ w =
          (λ e. cc (ap (λ v. raw (post' v) (state z)) e, ap (λ p. raw p (state z)) moves.now, q)) in
          ap (λ p. raw p (state z)) (sym (moves.others z ne)) ∙ q

  -- E15: it hands the lead to v
  pub e15_pass : (v : Waiter) → Moves post post' w Has (Calls (own v)) → v ≢ w
      → follows_post (post v) ≡ true → PostsAgree locked entry (Some v) post' state own owed
  e15_pass v moves vw way =
      let h : post_holds (post w) ≡ true = rw moves.was refl in
      let f = leads w (rw moves.was refl) in
      let l = ok.one w (rw moves.was refl) in
      let e = has-none met moves.was in
      let pv : post' v ≡ post v = moves.others v vw in
      let old : fits (post v) false (state v) ≡ true =
      ok.fit v false (λ e q. vw (let r : Some w ≡ Some v = sym f ∙ q in cc r)) (λ e. cc e) in
      record {
        fit = λ u g a b. elim (waiter_cases u w) [
          | inl j ↦ rw (j, moves.now) refl
          | inr nw ↦ elim (waiter_cases u v) [
            | inl i ↦ elim (bool-cases g) [
              | inl t ↦ rw (i, t, pv) (follows-fit (post v) (state v) way old)
              | inr n ↦ absurd (a n (ap (λ z. Some z) (sym i)))
            ]
            | inr nv ↦ rw (moves.others u nw)
                (ok.fit u g (λ n q. nw (let r : Some w ≡ Some u = sym f ∙ q in cc r))
                (λ t. absurd (nv (let q = b t in cc q))))
          ]
        ];
        bare_entry = λ u p. e;
        bare_slow = λ u p. let q = was_true post post' w Has (Calls (own v)) moves bare refl u p in
            absurd (alone met bare bare-holds h u q.0 q.1);
        bare_some = λ p q. cc (l, q);
        full_entry = λ u p.
            let q = was_true post post' w Has (Calls (own v)) moves post_full refl u p in
            absurd (q.0 (let a = leads u (full-fronts (post u) q.1) in cc (a, f)));
        full_slow = λ u p q. cc (q, l);
        full_some = λ n p q. absurd (cc (p, e));
        entered = λ n p. absurd (cc (p, e));
        named = λ u m p. elim (waiter_cases u w) [
          | inl j ↦ (
            v,
            refl,
            (let q : Some (own v) ≡ Some m =
                sym (ap (λ z. names (post' z)) j ∙ ap names moves.now) ∙ p in cc q),
          )
          | inr ne ↦
              absurd
              (ne (only u w (names-holds (post u) m (ap names (sym (moves.others u ne)) ∙ p)) h))
        ];
        raw_slow = λ z p q r. cc (r, l);
        raw_free = λ z u p q. elim (cases_Bool (touches (post' u))) [
          | inl t ↦ let q = was_true post post' w Has (Calls (own v)) moves touches refl u t in
              absurd (alone met touches touches-holds h u q.0 q.1)
          | inr f ↦ f
        ];
        slow = λ u p. let q = was_true post post' w Has (Calls (own v)) moves slow_at refl u p in
            absurd (alone met slow_at slow_at-holds h u q.0 q.1);
        one = λ u p. l;
        called = λ z u p q d. let i : v ≡ z = cc p in
            let d' : dozes (post v) ≡ true = ap dozes (sym pv) ∙ ap (λ x. dozes (post' x)) i ∙ d in
            ap state (sym i) ∙ follows-doze (post v) (state v) d' old;
        dozed = λ z p q d. (w, rw moves.now refl);
        slept = λ z p q. inr (inl (w, rw moves.now refl));
        napped = λ z p q. let i : v ≡ z = cc p in
            absurd (cc (ap post' i, pv, q, ap follows_post (sym pv ∙ ap post' i ∙ q), way));
      }
    where
      bool-cases : (b : Bool) → (b ≡ true) ⊎ (b ≡ false)
      bool-cases true = inl refl
      bool-cases false = inr refl

  -- E4: it seeks the free lock
  pub e4_take : (g : Bool) → Moves post post' w (Tries g) Has → locked ≡ Free
      → PostsAgree Held entry front post' state own owed
  e4_take g moves free =
      let f = leads w (rw moves.was refl) in
      let nobody : (P : Post → Bool) → ((p : Post) → P p ≡ true → post_holds p ≡ true)
      → P Has ≡ false
      → (u : Waiter) → P (post' u) ≡ true → ⊥ =
      λ P sub no u p. let q = was_true post post' w (Tries g) Has moves P no u p in
      taken u (sub (post u) q.1) free in
      let nofull : (u : Waiter) → post_full (post' u) ≡ true → ⊥ =
      λ u p. let q = was_true post post' w (Tries g) Has moves post_full refl u p in
      q.0 (let a = leads u (full-fronts (post u) q.1) in cc (a, f)) in
      let e : entry ≡ None = elim (some-cases entry) [
        | inl e ↦ e
        | inr n ↦ let s = ok.full_some n.0 n.1 (λ q. cc (q, free)) in
            absurd (nofull s.0 (still_true post post' w (Tries g) Has moves post_full refl s.0 s.1))
      ] in
      record {
        fit = λ u f p q.
            grind (arith, waiter_cases u w, moves.others u, moves.now, moves.was, ok.fit u f p q);
        bare_entry = λ u p. e;
        bare_slow = λ u p. absurd (nobody bare bare-holds refl u p);
        bare_some = λ p q. cc q;
        full_entry = λ u p. absurd (nofull u p);
        full_slow = λ u p q. cc q;
        full_some = λ n p q. absurd (cc (p, e));
        entered = ok.entered;
        named = λ u m p.
            ok.named u m (sym (as_before post post' w (Tries g) Has moves names refl u) ∙ p);
        raw_slow = λ z p q r. cc r;
        raw_free = λ z u p q.
            elim (cases_Bool (touches (post' u))) [
              | inl t ↦ absurd
                  (nobody touches touches-holds refl u t)
              | inr f ↦ f
            ];
        slow = λ u p. absurd (nobody slow_at slow_at-holds refl u p);
        one = λ u p. refl;
        called = λ z u p q d. absurd (nobody calls calls-holds refl u q);
        dozed = λ z p q d. let i : z ≡ w = cc (p, f) in absurd (cc (ap post' i, moves.now, q));
        slept = λ z p q. let i : z ≡ w = cc (p, f) in absurd (cc (ap post' i, moves.now, q));
        napped = λ z p q. let i : z ≡ w = cc (p, f) in absurd (cc (ap post' i, moves.now, q));
      }
