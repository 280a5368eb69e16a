use Rattle.std.proofs.Common.{◌≡◌, ◌≢◌, Option, Some, None, Bool, true, false, ◌⊎◌, inl, inr, arith}
use Rattle.std.proofs.Common.{ap, refl, sym, ◌∙◌, subst}
use Rattle.lk_law.proofs.Names.{Locked, Free, Held, Slow, NodeName, Waiter, State, Halted, Hashed}
use Rattle.lk_law.proofs.Names.{Post, PostsAgree, at_halt, bare, calls, dozes, fits, fronts, names}
use Rattle.lk_law.proofs.Names.{one_at, post_full, post_holds, raw, slow_at, slowing, touches}
use Rattle.lk_law.proofs.Names.{Dozes, Erases, Has, Marks, Naps, Peers, Signs, Sleeps, Slows, Stirs}
use Rattle.lk_law.proofs.Names.{Stopped, Stops, Wins, Moves}
use Rattle.lk_law.proofs.{common.Cases.waiter_cases, pv.Met.Met}
use Rattle.lk_law.proofs.pv.Slow.{bare-touches, slow_at-holds}
use Rattle.lk_law.specs.Pv.Post.{Spins}

pub full-fronts : (p : Post) → post_full p ≡ true → fronts p ≡ true
full-fronts p h = grind arith

pub names-holds : (p : Post) (n : NodeName) → names p ≡ Some n → post_holds p ≡ true
names-holds p n h = grind arith

pub bare-holds : (p : Post) → bare p ≡ true → post_holds p ≡ true
bare-holds p h = grind arith

one_at-cases : (p : Post) → one_at p ≡ true → (fronts p ≡ true) ⊎ (touches p ≡ true)
one_at-cases p h = grind arith

pub not_slow : (x : Locked) → x ≢ Slow → x ≢ Free → x ≡ Held
not_slow Free a b = absurd (b refl)
not_slow Held a b = refl
not_slow Slow a b = absurd (a refl)

pub some-cases : (o : Option NodeName) → (o ≡ None) ⊎ ((n : NodeName) × (o ≡ Some n))
some-cases None = inl refl
some-cases (Some n) = inr (n, refl)

-- a post that waits for its flag
abbrev pub follows_post : Post → Bool
follows_post Spins = true
follows_post Peers = true
follows_post Stops = true
follows_post Stopped = true
follows_post Dozes = true
follows_post Sleeps = true
follows_post Stirs = true
follows_post _ = false

pub follows-fit : (p : Post) (s : State) → follows_post p ≡ true → fits p false s ≡ true
    → fits p true s ≡ true
follows-fit p s h k = grind arith

pub follows-doze : (p : Post) (s : State) → dozes p ≡ true → fits p false s ≡ true → s ≡ Halted
follows-doze p s h k = grind arith

-- a post with its state halted, which leads, waits for its flag, or its flag is set
pub halted-follows : (p : Post) → (follows_post p ≡ true) ⊎ (fronts p ≡ true)
    → fits p true Halted ≡ true
    → (follows_post p ≡ true) × (raw p Halted ≡ true) × (raw p Hashed ≡ false)
    × (fits p true Hashed ≡ true)
halted-follows p (inl h) k = grind arith
halted-follows p (inr h) k = grind arith

module _ (post post' : Waiter → Post) (w : Waiter) (p p' : Post)
    (moves : Moves post post' w p p') where
  -- what is false of the new post was true before
  pub was_true : (P : Post → Bool) → P p' ≡ false → (u : Waiter) → P (post' u) ≡ true
      → (u ≢ w) × (P (post u) ≡ true)
  was_true P f u h =
      let ne : u ≢ w = (λ e. cc (ap (λ z. P (post' z)) e, ap P moves.now, h, f)) in
      (ne, ap P (sym (moves.others u ne)) ∙ h)

  pub still_true : (P : Post → Bool) → P p ≡ false → (u : Waiter) → P (post u) ≡ true
      → P (post' u) ≡ true
  still_true P f u h = let ne : u ≢ w = (λ e. cc (ap (λ z. P (post z)) e, ap P moves.was, h, f)) in
      ap P (moves.others u ne) ∙ h

  pub as_before : {A : Type 0} (P : Post → A) → P p' ≡ P p → (u : Waiter) → P (post' u) ≡ P (post u)
  as_before P e u =
      elim (waiter_cases u w) [
        | inl q ↦ ap (λ z. P (post' z)) q ∙ ap P moves.now ∙ e
            ∙ sym (ap (λ z. P (post z)) q ∙ ap P moves.was)
        | inr ne ↦ ap P (moves.others u ne)
      ]

  pub other : (P : Post → Bool) (z : Waiter) → P p' ≡ false → P (post' z) ≡ true → post' z ≡ post z
  other P z f h = moves.others z (was_true P f z h).0

module _ {locked : Locked} {entry : Option NodeName} {front : Option Waiter}
    {post : Waiter → Post} {state : Waiter → State} {own : Waiter → NodeName}
    {owed : Waiter → Type 0} {w : Waiter} (met : Met locked entry front post state own owed) where
  open met use {only, leads}

  lone : (P : Post → Bool) → ((p : Post) → P p ≡ true → post_holds p ≡ true)
      → post_holds (post w) ≡ true
      → (u : Waiter) → u ≢ w → P (post u) ≡ true → ⊥
  lone P sub h u ne q = ne (only u w (sub (post u) q) h)

  first : (u : Waiter) → fronts (post w) ≡ true → fronts (post u) ≡ true → u ≡ w
  first u h k = let a = leads u k in let b = leads w h in cc (a, b)

module _ {locked : Locked} {entry : Option NodeName} {front : Option Waiter}
    {post post' : Waiter → Post} {state : Waiter → State} {own : Waiter → NodeName}
    {owed : Waiter → Type 0} {w : Waiter} (met : Met locked entry front post state own owed) where
  open met use {posts as ok, only, leads, taken}

  module _ {state' : Waiter → State} {owed' : Waiter → Type 0} where
    -- a row that changes nothing of the hash, and the state of the own node at most
    pub pv_step : (p p' : Post) (s s' : State) → Moves post post' w p p' → Moves state state' w s s'
        → (bare p' ≡ bare p) × (post_full p' ≡ post_full p) × (touches p' ≡ touches p)
        × (calls p' ≡ calls p)
        × (slowing p' ≡ slowing p) × (slow_at p' ≡ slow_at p) × (names p' ≡ names p)
        × (one_at p' ≡ one_at p)
        → (raw p' s' ≡ true → raw p s ≡ true)
        → ((f : Bool) → (f ≡ false → front ≢ Some w) → (f ≡ true → front ≡ Some w)
        → fits p' f s' ≡ true)
        → ((u : Waiter) → front ≡ Some w → calls (post u) ≡ true → dozes p' ≡ true → s' ≡ Halted)
        → (front ≡ Some w → p' ≡ Dozes → s' ≡ Halted → (u : Waiter) × (calls (post u) ≡ true))
        → (front ≡ Some w → p' ≡ Sleeps
        → (locked ≡ Slow) ⊎ ((u : Waiter) × (calls (post u) ≡ true))
        ⊎ ((u : Waiter) × (slowing (post u) ≡ true)) ⊎ owed w)
        → (front ≡ Some w → p' ≡ Naps
        → (locked ≡ Slow) ⊎ ((u : Waiter) × (slowing (post u) ≡ true)) ⊎ owed w)
        → ((z : Waiter) → z ≢ w → at_halt (post z) ≡ true → owed z → owed' z)
        → (p' ≡ Sleeps → owed w → owed' w) → (p' ≡ Naps → owed w → owed' w)
        → PostsAgree locked entry front post' state' own owed'
    pv_step p p' s s' moves puts same raws fit' called' dozed' slept' napped' more moreS moreN =
        record {
          fit = λ u f a b. elim (waiter_cases u w) [
            | inl e ↦ let g =
                fit' f (λ q r. a q (r ∙ ap (λ z. Some z) (sym e)))
                (λ q. b q ∙ ap (λ z. Some z) e) in
                rw (e, moves.now, puts.now) g
            | inr ne ↦ rw (moves.others u ne, puts.others u ne) (ok.fit u f a b)
          ];
          bare_entry = λ u h. ok.bare_entry u (sym (eq bare same.0 u) ∙ h);
          bare_slow = λ u h. ok.bare_slow u (sym (eq bare same.0 u) ∙ h);
          bare_some = λ a b. let r = ok.bare_some a b in (r.0, eq bare same.0 r.0 ∙ r.1);
          full_entry = λ u h. ok.full_entry u (sym (eq post_full same.1 u) ∙ h);
          full_slow = λ u h. ok.full_slow u (sym (eq post_full same.1 u) ∙ h);
          full_some = λ n a b. let r = ok.full_some n a b in (r.0, eq post_full same.1 r.0 ∙ r.1);
          entered = ok.entered;
          named =
              λ u n h. ok.named u n (sym (as_before post post' w p p' moves names same.6 u) ∙ h);
          raw_slow = λ z a b. ok.raw_slow z a (raw-was z b);
          raw_free = λ z u a b. eq touches same.2 u ∙ ok.raw_free z u a (raw-was z b);
          slow = λ u h. ok.slow u (sym (eq slow_at same.5 u) ∙ h);
          one = λ u h. ok.one u (sym (eq one_at same.7 u) ∙ h);
          called = λ z u a b c. elim (waiter_cases z w) [
            | inl e ↦ rw (e, puts.now)
                (called' u (a ∙ ap (λ v. Some v) e) (sym (eq calls same.3 u) ∙ b)
                (sym (ap dozes moves.now) ∙ ap (λ v. dozes (post' v)) (sym e) ∙ c))
            | inr ne ↦ puts.others z ne
                ∙ ok.called z u a (sym (eq calls same.3 u) ∙ b)
                (ap dozes (sym (moves.others z ne)) ∙ c)
          ];
          dozed = λ z a b c.
              let r : (u : Waiter) × (calls (post u) ≡ true) = elim (waiter_cases z w) [
                | inl e ↦ dozed' (a ∙ ap (λ v. Some v) e) (sym moves.now ∙ ap post' (sym e) ∙ b)
                    (sym puts.now ∙ ap state' (sym e) ∙ c)
                | inr ne ↦ ok.dozed z a (sym (moves.others z ne) ∙ b) (sym (puts.others z ne) ∙ c)
              ] in (r.0, eq calls same.3 r.0 ∙ r.1);
          slept = λ z a b. elim (waiter_cases z w) [
            | inl e ↦ let q : p' ≡ Sleeps = sym moves.now ∙ ap post' (sym e) ∙ b in
                elim (slept' (a ∙ ap (λ v. Some v) e) q) [
                  | inl x ↦ inl x
                  | inr y ↦ elim
                      y [
                        | inl c ↦ inr (inl (c.0, eq calls same.3 c.0 ∙ c.1))
                        | inr d ↦ elim
                            d [
                              | inl g ↦ inr (inr (inl (g.0, eq slowing same.4 g.0 ∙ g.1)))
                              | inr f ↦ inr (inr (inr (subst owed' (sym e) (moreS q f))))
                            ]
                      ]
                ]
            | inr ne ↦ elim (ok.slept z a (sym (moves.others z ne) ∙ b)) [
              | inl x ↦ inl x
              | inr y ↦ elim
                  y [
                    | inl c ↦ inr (inl (c.0, eq calls same.3 c.0 ∙ c.1))
                    | inr d ↦ elim
                        d [
                          | inl g ↦ inr (inr (inl (g.0, eq slowing same.4 g.0 ∙ g.1)))
                          | inr f ↦ inr
                              (inr (inr (more z ne (ap at_halt (sym (moves.others z ne) ∙ b)) f)))
                        ]
                  ]
            ]
          ];
          napped = λ z a b. elim (waiter_cases z w) [
            | inl e ↦ let q : p' ≡ Naps = sym moves.now ∙ ap post' (sym e) ∙ b in
                elim (napped' (a ∙ ap (λ v. Some v) e) q) [
                  | inl x ↦ inl x
                  | inr d ↦ elim
                      d [
                        | inl g ↦ inr (inl (g.0, eq slowing same.4 g.0 ∙ g.1))
                        | inr f ↦ inr (inr (subst owed' (sym e) (moreN q f)))
                      ]
                ]
            | inr ne ↦ elim (ok.napped z a (sym (moves.others z ne) ∙ b)) [
              | inl x ↦ inl x
              | inr d ↦ elim
                  d [
                    | inl g ↦ inr (inl (g.0, eq slowing same.4 g.0 ∙ g.1))
                    | inr f ↦ inr (inr (more z ne (ap at_halt (sym (moves.others z ne) ∙ b)) f))
                  ]
            ]
          ];
        }
      where
        eq : (P : Post → Bool) → P p' ≡ P p → (u : Waiter) → P (post' u) ≡ P (post u)
        eq P e u = as_before post post' w p p' moves P e u

        raw-was : (z : Waiter) → raw (post' z) (state' z) ≡ true → raw (post z) (state z) ≡ true
        raw-was z h =
            elim (waiter_cases z w) [
              | inl e ↦ let g : raw p' s' ≡ true = let a : raw (post' w) (state' w) ≡ true =
                  subst (λ (v : Waiter). raw (post' v) (state' v) ≡ true) e h in
                  rw (moves.now, puts.now) at a in
                  rw (e, moves.was, puts.was) (raws g)
              | inr ne ↦ rw (moves.others z ne, puts.others z ne) at h
            ]

  -- E6: the one that leads enters itself into the hash
  pub e6_sign : Moves post post' w Signs Slows
      → PostsAgree locked (Some (own w)) front post' state own owed × (entry ≡ None)
  e6_sign moves =
      let h : fronts (post w) ≡ true = rw moves.was refl in
      let f = leads w h in
      let r : raw (post w) (state w) ≡ true = rw moves.was refl in
      let l = ok.raw_slow w f r in
      let e : entry ≡ None = elim (some-cases entry) [
        | inl e ↦ e
        | inr n ↦ let q = ok.full_some n.0 n.1 l in
            let s = first met q.0 h (full-fronts (post q.0) q.1) in
            absurd (cc (ap (λ z. post_full (post z)) s, ap post_full moves.was, q.1))
      ] in (
        record {
          fit = λ u f p q.
              grind (arith, waiter_cases u w, moves.others u, moves.now, moves.was, ok.fit u f p q);
          bare_entry = λ u p. let q = was_true post post' w Signs Slows moves bare refl u p in
              absurd (cc (ok.raw_free w u f r, bare-touches (post u) q.1));
          bare_slow = λ u p. let q = was_true post post' w Signs Slows moves bare refl u p in
              absurd (cc (ok.raw_free w u f r, bare-touches (post u) q.1));
          bare_some = λ p. cc p;
          full_entry =
              λ u p. elim (waiter_cases u w) [
                | inl q ↦ ap (λ z. Some (own z)) (sym q)
                | inr ne ↦ absurd
                    (ne
                    (first met u h (full-fronts (post u)
                    (ap post_full (sym (moves.others u ne)) ∙ p))))
              ];
          full_slow = λ u p. l;
          full_some = λ n p q. (w, rw moves.now refl);
          entered = λ n p. (w, f, (let q : own w ≡ n = cc p in q));
          named = λ u n p.
              ok.named u n (sym (as_before post post' w Signs Slows moves names refl u) ∙ p);
          raw_slow = λ z p q. l;
          raw_free = λ z u p q. as_before post post' w Signs Slows moves touches refl u
              ∙ ok.raw_free w u f r;
          slow = λ u p. ok.slow u (was_true post post' w Signs Slows moves slow_at refl u p).1;
          one = λ u p. ok.one u (was_true post post' w Signs Slows moves one_at refl u p).1;
          called = λ z u p q d. let e : z ≡ w = cc (p, f) in
              absurd (cc (ap (λ v. dozes (post' v)) e, ap dozes moves.now, d));
          dozed = λ z p q d. let e : z ≡ w = cc (p, f) in absurd (cc (ap post' e, moves.now, q));
          slept = λ z p q. let e : z ≡ w = cc (p, f) in absurd (cc (ap post' e, moves.now, q));
          napped = λ z p q. let e : z ≡ w = cc (p, f) in absurd (cc (ap post' e, moves.now, q));
        },
        e,
      )

  -- E7: it tells the holder, or seeks the free lock
  pub e7_slow : (p' : Post) → Moves post post' w Slows p'
      → (locked ≡ Free) × (p' ≡ Wins) ⊎ (locked ≢ Free) × (p' ≡ Marks)
      → PostsAgree Slow entry front post' state own owed
  e7_slow p' moves way =
      let h : fronts (post w) ≡ true = rw moves.was refl in
      let f = leads w h in
      let r : raw (post w) (state w) ≡ true = rw moves.was refl in
      let e = ok.full_entry w (rw moves.was refl) in
      let n : (post_full p' ≡ false) × (bare p' ≡ false) × (touches p' ≡ false) × (one_at p'
      ≡ false) × (names p' ≡ None) × (dozes p' ≡ false) × (raw p' (state w) ≡ false) × (p'
      ≢ Dozes) × (p' ≢ Sleeps) × (p' ≢ Naps) × (calls p' ≡ false) = grind (arith, way) in
      record {
        fit = λ u f p q.
            grind
            (arith, waiter_cases u w, moves.others u, moves.now, moves.was, way, ok.fit u f p q);
        bare_entry = λ u p. let q = was_true post post' w Slows p' moves bare n.1 u p in
            absurd (cc (ok.raw_free w u f r, bare-touches (post u) q.1));
        bare_slow = λ u p. refl;
        bare_some = λ p q. absurd (cc (p, e));
        full_entry = λ u p. let q = was_true post post' w Slows p' moves post_full n.0 u p in
            absurd (q.0 (first met u h (full-fronts (post u) q.1)));
        full_slow = λ u p. let q = was_true post post' w Slows p' moves post_full n.0 u p in
            absurd (q.0 (first met u h (full-fronts (post u) q.1)));
        full_some = λ m p q. absurd (q refl);
        entered = ok.entered;
        named = λ u m p. ok.named u m (sym (as_before post post' w Slows p' moves names n.4 u) ∙ p);
        raw_slow = λ z p q. let e : z ≡ w = cc (p, f) in
            absurd (cc (
              ap (λ v. raw (post' v) (state v)) e,
              ap (λ d. raw d (state w)) moves.now,
              n.6,
              q,
            ));
        raw_free = λ z u p q. let e : z ≡ w = cc (p, f) in
            absurd (cc (
              ap (λ v. raw (post' v) (state v)) e,
              ap (λ d. raw d (state w)) moves.now,
              n.6,
              q,
            ));
        slow = λ u p. refl;
        one = λ u p. let q = was_true post post' w Slows p' moves one_at n.3 u p in
            elim (one_at-cases (post u) q.1) [
              | inl a ↦ absurd (q.0 (first met u h a))
              | inr b ↦ absurd (cc (ok.raw_free w u f r, b))
            ];
        called = λ z u p q d. let e : z ≡ w = cc (p, f) in
            absurd (cc (ap (λ v. dozes (post' v)) e, ap dozes moves.now, n.5, d));
        dozed = λ z p q d.
            let e : z ≡ w = cc (p, f) in absurd (n.7 (sym moves.now ∙ ap post' (sym e) ∙ q));
        slept = λ z p q. inl refl;
        napped = λ z p q. inl refl;
      }

  -- E8: it took the lock as slow, and makes it plain
  pub e8_plain : Moves post post' w Wins Erases → PostsAgree Held entry front post' state own owed
  e8_plain moves =
      let h : fronts (post w) ≡ true = rw moves.was refl in
      let g : post_holds (post w) ≡ true = rw moves.was refl in
      let f = leads w h in
      let l = ok.slow w (rw moves.was refl) in
      let e : entry ≡ Some (own w) = elim (some-cases entry) [
        | inl none ↦ let q = ok.bare_some none l in
            let s = only q.0 w (bare-holds (post q.0) q.1) g in
            absurd (cc (ap (λ z. bare (post z)) s, ap bare moves.was, q.1))
        | inr n ↦ let q = ok.entered n.0 n.1 in let s : q.0 ≡ w = cc (q.1, f) in
            n.1 ∙ ap (λ z. Some z) (sym q.2 ∙ ap own s)
      ] in
      record {
        fit = λ u f p q.
            grind (arith, waiter_cases u w, moves.others u, moves.now, moves.was, ok.fit u f p q);
        bare_entry = λ u p. let q = was_true post post' w Wins Erases moves bare refl u p in
            absurd (lone met bare bare-holds g u q.0 q.1);
        bare_slow = λ u p. let q = was_true post post' w Wins Erases moves bare refl u p in
            absurd (lone met bare bare-holds g u q.0 q.1);
        bare_some = λ p q. cc q;
        full_entry =
            λ u p. elim (waiter_cases u w) [
              | inl q ↦ e ∙ ap (λ z. Some (own z)) (sym q)
              | inr ne ↦ absurd
                  (ne
                  (first met u h (full-fronts (post u)
                  (ap post_full (sym (moves.others u ne)) ∙ p))))
            ];
        full_slow = λ u p q. cc q;
        full_some = λ n p q. (w, rw moves.now refl);
        entered = ok.entered;
        named =
            λ u m p. ok.named u m (sym (as_before post post' w Wins Erases moves names refl u) ∙ p);
        raw_slow = λ z p q r. cc r;
        raw_free = λ z u p q. let e : z ≡ w = cc (p, f) in
            absurd (cc (
              ap (λ v. raw (post' v) (state v)) e,
              ap (λ d. raw d (state w)) moves.now,
              q,
            ));
        slow = λ u p. let q = was_true post post' w Wins Erases moves slow_at refl u p in
            absurd (lone met slow_at slow_at-holds g u q.0 q.1);
        one = λ u p. refl;
        called = λ z u p q d. let e : z ≡ w = cc (p, f) in
            absurd (cc (ap (λ v. dozes (post' v)) e, ap dozes moves.now, d));
        dozed = λ z p q d. let e : z ≡ w = cc (p, f) in absurd (cc (ap post' e, moves.now, q));
        slept = λ z p q. let e : z ≡ w = cc (p, f) in absurd (cc (ap post' e, moves.now, q));
        napped = λ z p q. let e : z ≡ w = cc (p, f) in absurd (cc (ap post' e, moves.now, q));
      }

  -- E9: it seeks itself out of the hash
  pub e9_erase : Moves post post' w Erases Has
      → PostsAgree locked None front post' state own owed × (entry ≡ Some (own w))
  e9_erase moves =
      let h : fronts (post w) ≡ true = rw moves.was refl in
      let g : post_holds (post w) ≡ true = rw moves.was refl in
      let f = leads w h in
      let l = ok.full_slow w (rw moves.was refl) in (
        record {
          fit = λ u f p q.
              grind (arith, waiter_cases u w, moves.others u, moves.now, moves.was, ok.fit u f p q);
          bare_entry = λ u p. refl;
          bare_slow = λ u p. let q = was_true post post' w Erases Has moves bare refl u p in
              absurd (lone met bare bare-holds g u q.0 q.1);
          bare_some = λ p q. absurd (l q);
          full_entry = λ u p. let q = was_true post post' w Erases Has moves post_full refl u p in
              absurd (q.0 (first met u h (full-fronts (post u) q.1)));
          full_slow = λ u p. l;
          full_some = λ m p. cc p;
          entered = λ m p. cc p;
          named = λ u m p.
              ok.named u m (sym (as_before post post' w Erases Has moves names refl u) ∙ p);
          raw_slow = λ z p q. l;
          raw_free = λ z u p q. let e : z ≡ w = cc (p, f) in
              absurd (cc (
                ap (λ v. raw (post' v) (state v)) e,
                ap (λ d. raw d (state w)) moves.now,
                q,
              ));
          slow = λ u p.
              let q = was_true post post' w Erases Has moves slow_at refl u p in ok.slow u q.1;
          one = λ u p. not_slow locked l (taken w g);
          called = λ z u p q d. let e : z ≡ w = cc (p, f) in
              absurd (cc (ap (λ v. dozes (post' v)) e, ap dozes moves.now, d));
          dozed = λ z p q d. let e : z ≡ w = cc (p, f) in absurd (cc (ap post' e, moves.now, q));
          slept = λ z p q. let e : z ≡ w = cc (p, f) in absurd (cc (ap post' e, moves.now, q));
          napped = λ z p q. let e : z ≡ w = cc (p, f) in absurd (cc (ap post' e, moves.now, q));
        },
        ok.full_entry w (rw moves.was refl),
      )
