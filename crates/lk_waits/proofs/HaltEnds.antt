-- The end of a halt keeps it that heads are served.
use Rattle.std.proofs.Common.{◌≡◌, ◌≢◌, ◌⊎◌, inl, inr, ℕ, Option, Some, true, false, refl, sym, ap}
use Rattle.std.proofs.Common.{◌∙◌, arith, ◌==◌}
use Rattle.std.proofs.lemmas.Bool.{eqb-true}
use Rattle.lk_waits.proofs.Names.{Fields, LockHistory, same_waiter, LockName, Waiter, node_of, Flag}
use Rattle.lk_waits.proofs.Names.{Frame, Pc, E12, E14, U5, W6, is_set, waiter_cases, if-false}
use Rattle.lk_waits.proofs.Names.{if-true, not-true, same_waiter-else, same_waiter-self, halts}
use Rattle.lk_waits.proofs.Names.{post_at, snapshot, IsNewest, IsSoundSpinWorld, World, IsAwaited}
use Rattle.lk_waits.proofs.Names.{IsHeadServed, halts_as_head, looks_after}
use Rattle.lk_rows.specs.Acts.{after_halt}
use Rattle.lk_law.proofs.{common.Worlds.post_on-here, pv.HaltsEnd.{halted_sleeps, sleeping_row}}
use Rattle.lk_law.specs.{Places.{post_if, post_of, post_on}, Premises.roused, Pv.at_halt}
use Rattle.lk_law.specs.Steps.{put_kicked}
use Rattle.lk_waits.proofs.{Changed.Roused, HaltingLeads.tells}
use Rattle.lk_waits.specs.Halting.{EndsKeepServed}

-- the frame of a waiter that was about to halt, or has halted, stands behind the halt
behind_tells : (o : Option Pc) → (o ≡ Some W6) ⊎ (o ≡ Some E12) → tells (after_halt o) ≡ false
behind_tells o (inl e) = ap (λ (x : Option Pc). tells (after_halt x)) e
behind_tells o (inr e) = ap (λ (x : Option Pc). tells (after_halt x)) e

head_asleep : (k : Pc) (x : Flag) (g : Frame) → halts_as_head k x ≡ true → (at_halt (post_at k g) ≡ true) × (tells (Some k) ≡ true)
head_asleep W6 x g h = (refl, refl)
head_asleep E12 x g h = (refl, refl)
head_asleep k x g h = cc h

head_before : (k : Pc) (x y : Flag) → (is_set x ≡ true → is_set y ≡ true) → halts_as_head k x ≡ true → halts_as_head k y ≡ true
head_before W6 x y set h = set h
head_before E12 x y set h = refl
head_before k x y set h = cc h

awake_at : (o : Option Pc) (d : Pc) → (o ≡ Some W6) ⊎ (o ≡ Some E12) → o ≡ Some d → (d ≡ W6) ⊎ (d ≡ E12)
awake_at o d (inl e) q = inl (let z : Some d ≡ Some W6 = sym q ∙ e in cc z)
awake_at o d (inr e) q = inr (let z : Some d ≡ Some E12 = sym q ∙ e in cc z)

looks_not : (k d : Pc) → looks_after k d ≡ true → (d ≡ W6) ⊎ (d ≡ E12) → ⊥
looks_not k d h (inl e) = grind (arith, h, e)
looks_not k d h (inr e) = grind (arith, h, e)

module _ (a b : World) (hs : LockName → LockHistory) (w : Waiter) (f : Frame) (ok : IsSoundSpinWorld a hs)
    (newest : IsNewest a w) (live : a.frame w ≡ Some f) (halted : a.halted w.cpu ≡ true) (inv : IsHeadServed a)
    (r : Roused a b w f) where
  asleep : at_halt (post_of f) ≡ true
  asleep = halted_sleeps ok newest live halted

  row : (f.place ≡ Some W6) ⊎ (f.place ≡ Some E12)
  row = sleeping_row f.place f asleep

  on : halts a.mode ≡ true
  on = elim row [
    | inl e ↦ (ok.registers w f live).choice.halting W6 e refl
    | inr e ↦ (ok.registers w f live).choice.halting E12 e refl
  ]

  -- a frame that tells is another's, and was there
  was : (u : Waiter) (g : Frame) (k : Pc) → b.frame u ≡ Some g → g.place ≡ Some k → tells (Some k) ≡ true
      → (u ≢ w) × (a.frame u ≡ Some g)
  was u g k lu pk t = elim (waiter_cases u w) [
    | inl e ↦
        let z : Some (record f { place = after_halt f.place }) ≡ Some g = sym r.here ∙ ap b.frame (sym e) ∙ lu in
        let y : record f { place = after_halt f.place } ≡ g = cc z in
        let x : tells (Some k) ≡ false = ap tells (sym pk ∙ ap (λ (h : Frame). h.place) (sym y)) ∙ behind_tells f.place row in
        absurd (cc (x, t))
    | inr ne ↦ (ne, sym (r.others u ne) ∙ lu)
  ]

  -- who stands at a row that does not halt is another, and is there still
  apart : (u : Waiter) (g : Frame) (d : Pc) → a.frame u ≡ Some g → g.place ≡ Some d → ((d ≡ W6) ⊎ (d ≡ E12) → ⊥)
      → b.frame u ≡ Some g
  apart u g d lu pd off = elim (waiter_cases u w) [
    | inl e ↦
        let z : Some f ≡ Some g = sym live ∙ ap a.frame (sym e) ∙ lu in
        let y : f ≡ g = cc z in
        absurd (off (awake_at f.place d row (ap (λ (h : Frame). h.place) y ∙ pd)))
    | inr ne ↦ r.others u ne ∙ lu
  ]

  -- another that halts does so on another processor
  elsewhere : (u : Waiter) (g : Frame) (k : Pc) → u ≢ w → a.frame u ≡ Some g → g.place ≡ Some k → at_halt (post_at k g) ≡ true
      → u.cpu ≢ w.cpu
  elsewhere u g k ne lu pk h e =
      let s = snapshot a in
      let mine : at_halt (s.post f.lock w) ≡ true =
      ap at_halt (ap (post_on f.lock) live ∙ post_on-here f.lock f refl) ∙ asleep in
      let its : at_halt (s.post g.lock u) ≡ true =
      ap at_halt (ap (post_on g.lock) lu ∙ post_on-here g.lock g refl ∙ ap (λ (o : Option Pc). post_if o g) pk) ∙ h in
      ne (ok.agrees.sleeper on g.lock f.lock u w its mine e)

  awaited_on : (l : LockName) (k : Pc) (p : ℕ) → p ≢ w.cpu → IsAwaited a l k p → IsAwaited b l k p
  awaited_on l k p ne (inl e) = inl (ap (λ (x : Fields). x.locked) (r.words l) ∙ e)
  awaited_on l k p ne (inr (inl z)) =
      inr (inl (record {
        by = z.by;
        frame = z.frame;
        place = z.place;
        live = apart z.by z.frame z.place z.live z.at (looks_not k z.place z.looks);
        at = z.at;
        lock = z.lock;
        looks = z.looks;
      }))
  awaited_on l k p ne (inr (inr (inl e))) = inr (inr (inl (r.kicked p ne ∙ e)))
  awaited_on l k p ne (inr (inr (inr z))) =
      inr (inr (inr (record {
        by = z.by;
        frame = z.frame;
        live = apart z.by z.frame U5 z.live z.at (λ q. elim q [ inl x ↦ cc x | inr x ↦ cc x ]);
        at = z.at;
        lock = z.lock;
        target = z.target;
      })))

  pub roused_served : IsHeadServed b
  roused_served =
      record {
        followed = λ u g lu pk.
            let q = was u g E14 lu pk refl in
            ap (λ (x : Fields). Rattle.lk_rows.specs.Moves.is_node x.tail (node_of g.me)) (r.words g.lock) ∙ inv.followed u g q.1 pk;
        awaited = λ u g k lu pk h.
            let z = head_asleep k (b.node (node_of g.me)).flag g h in
            let q = was u g k lu pk z.1 in
            awaited_on g.lock k u.cpu (elsewhere u g k q.0 q.1 pk z.0)
            (inv.awaited u g k q.1 pk
            (head_before k (b.node (node_of g.me)).flag (a.node (node_of g.me)).flag (r.flags (node_of g.me)) h));
      }

pub ends_keep_served : EndsKeepServed
ends_keep_served m hs w f ok newest live halted inv = (
  roused_served m (roused m w f) hs w f ok newest live halted inv (record {
    words = λ l. refl;
    kicked = λ p ne. refl;
    flags = λ n h. h;
    others = there;
    here = here;
  }),
  roused_served m (put_kicked (roused m w f) w.cpu false) hs w f ok newest live halted inv (record {
    words = λ l. refl;
    kicked = λ p ne. if-false (p == w.cpu) false (m.kicked p) (not-true (p == w.cpu) (λ h. ne (eqb-true p w.cpu h)));
    flags = λ n h. h;
    others = there;
    here = here;
  }),
)
  where
    there : (u : Waiter) → u ≢ w → (roused m w f).frame u ≡ m.frame u
    there u ne = if-false (same_waiter u w) (Some (record f { place = after_halt f.place })) (m.frame u) (same_waiter-else u w ne)

    here : (roused m w f).frame w ≡ Some (record f { place = after_halt f.place })
    here = if-true (same_waiter w w) (Some (record f { place = after_halt f.place })) (m.frame w) (same_waiter-self w)
