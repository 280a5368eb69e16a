-- A place at which an operation begins shows nothing: what is true of heads that wait for a successor stays
-- where a frame comes to such a place, or goes from one.
use Rattle.std.proofs.Common.{◌≡◌, ◌≢◌, ◌⊎◌, inl, inr, ℕ, Some, None, true, false, refl, sym, ap}
use Rattle.std.proofs.Common.{◌∙◌, arith, Bool}
use Rattle.lk_waits.proofs.Names.{Fields, NodeName, LockName, Mode, Cna, Native, Pv, Virt, Waiter}
use Rattle.lk_waits.proofs.Names.{first_place, is_node, node_of, Flag, Frame, Pc, E12, E14, G7, K1}
use Rattle.lk_waits.proofs.Names.{K2, N1, N2, U5, W6, Why, Unlock, is_set, waiter_cases, World}
use Rattle.lk_waits.proofs.Names.{is_alone_row, IsAwaited, IsHeadServed, halts_as_head, looks_after}
use Rattle.lk_waits.proofs.Names.{IsFollowedBy, SomebodyComesBy, comes_by, is_led_on}
use Rattle.lk_rows.specs.declared.setup.Verb.{Verb}
use Rattle.lk_rows.specs.declared.setup.Verb.TheVariants.{Lock, Try, Read, TryRead, RUnlock, Write}
use Rattle.lk_rows.specs.declared.setup.Verb.TheVariants.{TryWrite, WUnlock}
use Rattle.lk_waits.proofs.HaltingLeads.{tells}
use Rattle.lk_waits.specs.{Aside.{IsFollowedAside, IsFollowedAsideBy}, Attended.is_bare}
use Rattle.lk_waits.specs.Followed.{IsHeadFollowed, IsHeadLed, IsUnaware}

-- the row is one of a holder that looks after the head, or of a release that kicks
abbrev pub is_tending : Pc → Bool
is_tending K1 = true
is_tending K2 = true
is_tending U5 = true
is_tending _ = false

looks_loud : (k d : Pc) → looks_after k d ≡ true → is_tending d ≡ false → ⊥
looks_loud k d h t = grind (arith, h, t)

halts_tells : (k : Pc) (x : Flag) → halts_as_head k x ≡ true → tells (Some k) ≡ true
halts_tells k x h = grind (arith, h)

halts_before : (k : Pc) (x y : Flag) → (is_set x ≡ true → is_set y ≡ true) → halts_as_head k x ≡ true → halts_as_head k y ≡ true
halts_before W6 x y set h = set h
halts_before E12 x y set h = refl
halts_before k x y set h = cc h

-- the row is none of a head that waits for its successor, nor one of a waiter that comes, has no node, or
-- halts, or looks after one that does
pub record IsQuietRow (c : Pc) : Type 0 where
  pub led_on : is_led_on c ≡ false
  pub coming : (bare : Bool) → comes_by bare c ≡ false
  pub alone : (y : Why) → is_alone_row c y ≡ false
  pub unaware : c ≢ G7
  pub noded : (c ≢ N1) × (c ≢ N2)
  pub served : tells (Some c) ≡ false
  pub tends : is_tending c ≡ false

-- no operation begins at such a row
pub first_quiet : (mode : Mode) (v : Verb) → IsQuietRow (first_place mode v)
first_quiet Virt Unlock =
    record { led_on = refl; coming = λ b. refl; alone = λ y. refl; unaware = λ e. cc e; noded = (λ e. cc e, λ e. cc e); served = refl; tends = refl }
first_quiet Native Unlock =
    record { led_on = refl; coming = λ b. refl; alone = λ y. refl; unaware = λ e. cc e; noded = (λ e. cc e, λ e. cc e); served = refl; tends = refl }
first_quiet Cna Unlock =
    record { led_on = refl; coming = λ b. refl; alone = λ y. refl; unaware = λ e. cc e; noded = (λ e. cc e, λ e. cc e); served = refl; tends = refl }
first_quiet Pv Unlock =
    record { led_on = refl; coming = λ b. refl; alone = λ y. refl; unaware = λ e. cc e; noded = (λ e. cc e, λ e. cc e); served = refl; tends = refl }
first_quiet mode Lock =
    record { led_on = refl; coming = λ b. refl; alone = λ y. refl; unaware = λ e. cc e; noded = (λ e. cc e, λ e. cc e); served = refl; tends = refl }
first_quiet mode Try =
    record { led_on = refl; coming = λ b. refl; alone = λ y. refl; unaware = λ e. cc e; noded = (λ e. cc e, λ e. cc e); served = refl; tends = refl }
first_quiet mode Read =
    record { led_on = refl; coming = λ b. refl; alone = λ y. refl; unaware = λ e. cc e; noded = (λ e. cc e, λ e. cc e); served = refl; tends = refl }
first_quiet mode Write =
    record { led_on = refl; coming = λ b. refl; alone = λ y. refl; unaware = λ e. cc e; noded = (λ e. cc e, λ e. cc e); served = refl; tends = refl }
first_quiet mode TryRead =
    record { led_on = refl; coming = λ b. refl; alone = λ y. refl; unaware = λ e. cc e; noded = (λ e. cc e, λ e. cc e); served = refl; tends = refl }
first_quiet mode TryWrite =
    record { led_on = refl; coming = λ b. refl; alone = λ y. refl; unaware = λ e. cc e; noded = (λ e. cc e, λ e. cc e); served = refl; tends = refl }
first_quiet mode RUnlock =
    record { led_on = refl; coming = λ b. refl; alone = λ y. refl; unaware = λ e. cc e; noded = (λ e. cc e, λ e. cc e); served = refl; tends = refl }
first_quiet mode WUnlock =
    record { led_on = refl; coming = λ b. refl; alone = λ y. refl; unaware = λ e. cc e; noded = (λ e. cc e, λ e. cc e); served = refl; tends = refl }

-- a place that shows nothing: none, or that of an operation which begins
abbrev pub IsQuietFrame : Frame → Type 0
IsQuietFrame g = (c : Pc) → g.place ≡ Some c → IsQuietRow c

pub placeless_quiet : (g : Frame) → g.place ≡ None → IsQuietFrame g
placeless_quiet g e c p = absurd (let z : None ≡ Some c = sym e ∙ p in cc z)

-- One frame changes from a to b, which shows something or does not, to what shows no more.
pub record ChangesQuietly (a b : World) (w : Waiter) : Type 0 where
  pub words : (l : LockName) → b.word l ≡ a.word l
  pub others : (u : Waiter) → u ≢ w → b.frame u ≡ a.frame u
  pub either : (b.frame w ≡ a.frame w)
      ⊎ (((g : Frame) → b.frame w ≡ Some g → IsQuietFrame g) × ((g : Frame) → a.frame w ≡ Some g → IsQuietFrame g))

-- A frame comes so, and no flag is set and no kick made.
pub record Comes (a b : World) (w : Waiter) : Type 0 where
  pub quietly : ChangesQuietly a b w
  pub flags : (n : NodeName) → is_set (b.node n).flag ≡ true → is_set (a.node n).flag ≡ true
  pub kicked : (p : ℕ) → b.kicked p ≡ a.kicked p

module _ (a b : World) (w : Waiter) (quietly : ChangesQuietly a b w) where
  -- a frame that shows something was there
  was : (u : Waiter) (d : Frame) (c : Pc) → b.frame u ≡ Some d → d.place ≡ Some c → (IsQuietRow c → ⊥) → a.frame u ≡ Some d
  was u d c lu pc loud = elim (waiter_cases u w) [
    | inl e ↦ elim quietly.either [
      | inl same ↦ ap a.frame e ∙ sym same ∙ ap b.frame (sym e) ∙ lu
      | inr q ↦ absurd (loud (q.0 d (ap b.frame (sym e) ∙ lu) c pc))
    ]
    | inr ne ↦ sym (quietly.others u ne) ∙ lu
  ]

  comes_still : (bare : Bool) (l : LockName) → SomebodyComesBy bare a l → SomebodyComesBy bare b l
  comes_still bare l s =
      let on : b.frame s.by ≡ a.frame s.by =
      elim (waiter_cases s.by w) [
        | inl e ↦ elim quietly.either [
          | inl same ↦ ap b.frame e ∙ same ∙ ap a.frame (sym e)
          | inr q ↦ absurd (let z = (q.1 s.frame (ap a.frame (sym e) ∙ s.live) s.place s.at).coming bare in let y = s.comes in cc (z, y))
        ]
        | inr ne ↦ quietly.others s.by ne
      ] in
      record { by = s.by; frame = s.frame; place = s.place; live = on ∙ s.live; at = s.at; lock = s.lock; comes = s.comes }

  same_last : (d : Frame) → is_node (b.word d.lock).tail (node_of d.me) ≡ true → is_node (a.word d.lock).tail (node_of d.me) ≡ true
  same_last d last = ap (λ (x : Fields). is_node x.tail (node_of d.me)) (sym (quietly.words d.lock)) ∙ last

  followed_stay : (bare : Bool) → IsFollowedBy bare a → IsFollowedBy bare b
  followed_stay bare inv u d k lu pk lk last =
      comes_still bare d.lock
      (inv u d k (was u d k lu pk (λ q. let z = q.led_on in cc (z, lk))) pk lk (same_last d last))

  unaware_stay : IsUnaware a → IsUnaware b
  unaware_stay inv u d lu pk = inv u d (was u d G7 lu pk (λ q. q.unaware refl)) pk

  pub heads_stay : IsHeadFollowed a → IsHeadFollowed b
  heads_stay inv =
      record {
        followed = followed_stay false inv.followed;
        unaware = unaware_stay inv.unaware;
        noded = λ u d lu. (
          λ pk. (inv.noded u d (was u d N1 lu pk (λ q. q.noded.0 refl))).0 pk,
          λ pk. (inv.noded u d (was u d N2 lu pk (λ q. q.noded.1 refl))).1 pk,
        );
      }

  pub heads_stay_led : IsHeadLed a → IsHeadLed b
  heads_stay_led inv = record { followed = followed_stay true inv.followed; unaware = unaware_stay inv.unaware }

  -- who stands without a node did before
  pub bare_was : (u : Waiter) (d : Frame) (c : Pc) → b.frame u ≡ Some d → d.place ≡ Some c → is_bare c ≡ true → a.frame u ≡ Some d
  bare_was u d c lu pc on = was u d c lu pc (λ q. loud c q on)
    where
      loud : (c : Pc) → IsQuietRow c → is_bare c ≡ true → ⊥
      loud N1 q h = q.noded.0 refl
      loud N2 q h = q.noded.1 refl
      loud _ q h = cc h

  -- where flags and kicks are as they were, heads that halt are awaited still
  pub heads_stay_served : ((n : NodeName) → is_set (b.node n).flag ≡ true → is_set (a.node n).flag ≡ true)
      → ((p : ℕ) → b.kicked p ≡ a.kicked p) → IsHeadServed a → IsHeadServed b
  heads_stay_served flags kicked inv =
      record {
        followed = λ u d lu pk.
            ap (λ (x : Fields). is_node x.tail (node_of d.me)) (quietly.words d.lock)
            ∙ inv.followed u d (was u d E14 lu pk (λ q. let z = q.served in cc z)) pk;
        awaited = λ u d k lu pk h.
            awaited_on d.lock k u.cpu (inv.awaited u d k
            (was u d k lu pk (λ q. let z = q.served in let y = halts_tells k (b.node (node_of d.me)).flag h in cc (z, y))) pk
            (halts_before k (b.node (node_of d.me)).flag (a.node (node_of d.me)).flag (flags (node_of d.me)) h));
      }
    where
      -- who shows something stays
      stays : (u : Waiter) (d : Frame) (c : Pc) → a.frame u ≡ Some d → d.place ≡ Some c → (IsQuietRow c → ⊥) → b.frame u ≡ Some d
      stays u d c lu pc loud = elim (waiter_cases u w) [
        | inl e ↦ elim quietly.either [
          | inl same ↦ ap b.frame e ∙ same ∙ ap a.frame (sym e) ∙ lu
          | inr q ↦ absurd (loud (q.1 d (ap a.frame (sym e) ∙ lu) c pc))
        ]
        | inr ne ↦ quietly.others u ne ∙ lu
      ]

      awaited_on : (l : LockName) (k : Pc) (p : ℕ) → IsAwaited a l k p → IsAwaited b l k p
      awaited_on l k p (inl e) = inl (ap (λ (x : Fields). x.locked) (quietly.words l) ∙ e)
      awaited_on l k p (inr (inl z)) =
          inr (inl (record {
            by = z.by;
            frame = z.frame;
            place = z.place;
            live = stays z.by z.frame z.place z.live z.at (λ q. looks_loud k z.place z.looks q.tends);
            at = z.at;
            lock = z.lock;
            looks = z.looks;
          }))
      awaited_on l k p (inr (inr (inl e))) = inr (inr (inl (kicked p ∙ e)))
      awaited_on l k p (inr (inr (inr z))) =
          inr (inr (inr (record {
            by = z.by;
            frame = z.frame;
            live = stays z.by z.frame U5 z.live z.at (λ q. let y = q.tends in cc y);
            at = z.at;
            lock = z.lock;
            target = z.target;
          })))

  pub aside_stay : (bare : Bool) → IsFollowedAsideBy bare a → IsFollowedAsideBy bare b
  aside_stay bare inv u d k lu pk lk last =
      elim (inv u d k (was u d k lu pk (λ q. let z = q.alone d.why in cc (z, lk))) pk lk (same_last d last)) [
        | inl z ↦ inl (z.0, ap (λ (x : Fields). x.pending) (quietly.words d.lock) ∙ z.1)
        | inr s ↦ inr (comes_still bare d.lock s)
      ]

  pub heads_stay_aside : IsFollowedAside a → IsFollowedAside b
  heads_stay_aside inv = aside_stay false inv

-- where no frame shows anything, nobody waits for a successor
module _ (m : World) (quiet : (u : Waiter) (f : Frame) → m.frame u ≡ Some f → IsQuietFrame f) where
  pub rests_followed : IsHeadFollowed m
  rests_followed =
      record {
        followed = λ w f c live place on last. absurd (let z = (quiet w f live c place).led_on in cc (z, on));
        unaware = λ w f live place. absurd ((quiet w f live G7 place).unaware refl);
        noded = λ w f live. (
          λ place. (quiet w f live N1 place).noded.0 refl,
          λ place. (quiet w f live N2 place).noded.1 refl,
        );
      }

  pub rests_led : IsHeadLed m
  rests_led =
      record {
        followed = λ w f c live place on last. absurd (let z = (quiet w f live c place).led_on in cc (z, on));
        unaware = rests_followed.unaware;
      }

  pub rests_served : IsHeadServed m
  rests_served =
      record {
        followed = λ w f live place. absurd (let z = (quiet w f live E14 place).served in cc z);
        awaited = λ w f c live place h.
            absurd (let z = (quiet w f live c place).served in let y = halts_tells c (m.node (node_of f.me)).flag h in cc (z, y));
      }

  pub rests_aside_by : (bare : Bool) → IsFollowedAsideBy bare m
  rests_aside_by bare w f c live place on last = absurd (let z = (quiet w f live c place).alone f.why in cc (z, on))

  pub rests_aside : IsFollowedAside m
  rests_aside = rests_aside_by false
