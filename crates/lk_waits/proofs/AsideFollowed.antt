-- Every row keeps it that a head of the family that moves waiters aside has one behind it, or a secondary
-- queue that may return, or one is coming.
use Rattle.std.proofs.Common.{◌≡◌, ◌≢◌, ◌⊎◌, ◌<◌, inl, inr, Option, Some, None, Bool, true, false}
use Rattle.std.proofs.Common.{refl, sym, ap, ◌∙◌, subst, [], arith, if◌then◌else◌, is_some, ◌&&◌}
use Rattle.std.proofs.Common.{not, ◌∷◌, ◌+◌, slice_get}
use Rattle.lk_waits.proofs.Names.{cases_Bool, Fields, Free, Held, NodeName, LockHistory, same_lock}
use Rattle.lk_waits.proofs.Names.{same_waiter, LockName, Waiter, is_node, node_of, Effect, Goes}
use Rattle.lk_waits.proofs.Names.{target, Flag, Frame, Pc, C1, C2, C3, C4, C5, C7, C9, C10, G1, G4}
use Rattle.lk_waits.proofs.Names.{G7, G8, G9, P1, P2, P3, P4, Why, after_tail, is_last, may_stay}
use Rattle.lk_waits.proofs.Names.{promotion_row, search_first, search_on, search_row, is_sole}
use Rattle.lk_waits.proofs.Names.{queue_row, is_unlocked, lock_cases, waiter_cases, lists_front}
use Rattle.lk_waits.proofs.Names.{row_knows, if-false, if-true, not-true, same_waiter-else}
use Rattle.lk_waits.proofs.Names.{same_lock-self, same_waiter-self, is_node-own, node_is_ones}
use Rattle.lk_waits.proofs.Names.{phase_on-here, row_is_done, halts, moves_aside, may_halt}
use Rattle.lk_waits.proofs.Names.{stored_in, Phase, leads, pends, Idle, phase_at, phase_if}
use Rattle.lk_waits.proofs.Names.{phase_on, snapshot, IsThen, Uses, IsSoundSpinWorld, led, row_in}
use Rattle.lk_waits.proofs.Names.{sight_in, stores_next, stores_word, World, is_alone_row}
use Rattle.lk_waits.proofs.Names.{SomebodyComesBy, comes_by}
use Rattle.lk_rows.specs.Row.{learns_all, K, Y, A, B, Reason, Second, gone}
use Rattle.lk_rows.specs.rows.Spin.{after_pending}
use Rattle.lk_law.specs.Phase.{watches, stakes, claims}
use Rattle.lk_waits.proofs.AsideMute.{tells, Mute, mute, after}
use Rattle.lk_waits.proofs.AsideWords.{words_kept, elsewhere_any}
use Rattle.lk_waits.proofs.{Tails.{tails, arrived, next_frame, comes_on}, Tops.busy_at}
use Rattle.lk_waits.specs.Aside.{IsFollowedAsideBy, RowKeepsAside, RowKeepsLedAside}
use Rattle.lk_rows.specs.declared.parts.Why.TheVariants as why

mute_not : (o : Option Pc) (d : Pc) → Mute o → o ≡ Some d → tells (Some d) ≡ true → ⊥
mute_not o d h e t = let z = ap tells e in cc (z, h, t)

alone_tells : (d : Pc) (y : Why) → is_alone_row d y ≡ true → tells (Some d) ≡ true
alone_tells G9 y h = refl
alone_tells C1 y h = refl
alone_tells C3 y h = refl
alone_tells C10 y h = refl
alone_tells d y h = cc h

-- such a head leads, and has a node
alone_leads : (d : Pc) (y : Why) (b : Bool) (p n : NodeName) (x : Flag) → is_alone_row d y ≡ true → leads (phase_at d b p n) x ≡ true
alone_leads G9 y b p n x h = refl
alone_leads C1 y b p n x h = refl
alone_leads C3 y b p n x h = refl
alone_leads C10 y b p n x h = refl
alone_leads d y b p n x h = cc h

alone_noded : (d : Pc) (y : Why) (b : Bool) (p n : NodeName) → is_alone_row d y ≡ true
    → Rattle.lk_law.specs.Phase.has_node (phase_at d b p n) ≡ true
alone_noded G9 y b p n h = refl
alone_noded C1 y b p n h = refl
alone_noded C3 y b p n h = refl
alone_noded C10 y b p n h = refl
alone_noded d y b p n h = cc h

pends_rows : (d : Pc) (b : Bool) (x y : NodeName) → pends (phase_at d b x y) ≡ true
    → (d ≡ P2) ⊎ (Rattle.lk_law.specs.Phase.watches (phase_at d b x y) ≡ true) ⊎ (may_halt d ≡ true)
pends_rows P2 b x y h = inl refl
pends_rows P3 b x y h = inr (inl refl)
pends_rows P4 b x y h = inr (inl refl)
pends_rows d b x y h = grind (arith, h, cases_Bool (may_halt d))

pends_busy : (r : Phase) → pends r ≡ true → r ≢ Idle
pends_busy r h e = grind (arith, h, e)

unsole : (f : Frame) (x : Fields) → is_sole f x ≡ false → is_unlocked x.locked ≡ true
    → is_node x.tail (node_of f.me) ≡ true → x.pending ≡ true
unsole f x h a t = by x.pending refl
  where
    by : (b : Bool) → x.pending ≡ b → x.pending ≡ true
    by true e = e
    by false e = absurd (let z : is_sole f x ≡ true = rw (a, e, t) refl in cc (z, h))

last_is : (g : Frame) (x : Fields) → x.locked ≡ Held → x.pending ≡ false → is_node x.tail (node_of g.me) ≡ true
    → is_last g x ≡ true
last_is g x a b c = rw (a, b, c) refl

-- P1 where pending was not set, and there is a queue
to_clear : (x : Fields) → x.pending ≡ false → (x.tail ≡ None → ⊥) → after_pending x ≡ P2
to_clear x p t = by x.tail refl
  where
    by : (o : Option NodeName) → x.tail ≡ o → after_pending x ≡ P2
    by None e = absurd (t e)
    by (Some n) e = rw (p, e) refl

module _ (m : World) (hs : LockName → LockHistory) (w : Waiter) (f : Frame) (ok : IsSoundSpinWorld m hs)
    (awake : halts m.mode ≡ false) (aside : moves_aside m.mode ≡ true) (live : m.frame w ≡ Some f)
    (inner : f.lock.wait ≡ true → IsThen f.then) (bare : Bool) (inv : IsFollowedAsideBy bare m) where
  abbrev x : Fields
  x = m.word f.lock

  abbrev made : Pc → World
  made c = (row_in m w f c).0

  abbrev g : Pc → Frame
  g c = next_frame m w f c

  unhalting : (c : Pc) → f.place ≡ Some c → may_halt c ≡ false
  unhalting c at =
      not-true (may_halt c) (λ e. let z = (ok.registers w f live).choice.halting c at e in cc (z, awake))

  shown : (u : Waiter) (d : Frame) (c : Pc) → m.frame u ≡ Some d → d.place ≡ Some c
      → (snapshot m).phase d.lock u ≡ phase_at c (is_some d.me) (node_of d.prev) (node_of d.y)
  shown u d c lu at = ap (phase_on d.lock) lu ∙ phase_on-here d.lock d refl
      ∙ ap (λ (o : Option Pc). phase_if o (is_some d.me) (node_of d.prev) (node_of d.y)) at

  here : (c : Pc) → (made c).frame w ≡ Some (g c)
  here c = (row_is_done m w f c (target c f)).frame w
      ∙ if-true (same_waiter w w) (Some (g c)) (m.frame w) (same_waiter-self w)

  there : (c : Pc) (u : Waiter) → u ≢ w → (made c).frame u ≡ m.frame u
  there c u ne = (row_is_done m w f c (target c f)).frame u
      ∙ if-false (same_waiter u w) (Some (g c)) (m.frame u) (same_waiter-else u w ne)

  words : (c : Pc) (l : LockName) → (made c).word l ≡ (stored_in m w f c (target c f)).word l
  words c l = ap (λ (v : LockName → Fields). v l) (row_is_done m w f c (target c f)).word

  still_comes : (c : Pc) (l : LockName) → (s : SomebodyComesBy bare m l) → s.by ≢ w → SomebodyComesBy bare (made c) l
  still_comes c l s ne =
      record {
        by = s.by;
        frame = s.frame;
        place = s.place;
        live = there c s.by ne ∙ s.live;
        at = s.at;
        lock = s.lock;
        comes = s.comes;
      }

  -- the frame of the one that comes, where it is the acting one
  mine : (c : Pc) → f.place ≡ Some c → (l : LockName) → (s : SomebodyComesBy bare m l) → s.by ≡ w → (comes_by bare c ≡ true) × (f.lock ≡ l)
  mine c at l s e =
      let ff : Some s.frame ≡ Some f = sym s.live ∙ ap m.frame e ∙ live in
      let q : s.frame ≡ f = cc ff in
      let p : Some s.place ≡ Some c = sym s.at ∙ ap (λ (h : Frame). h.place) q ∙ at in
      let r : s.place ≡ c = cc p in
      (ap (comes_by bare) (sym r) ∙ s.comes, ap (λ (h : Frame). h.lock) (sym q) ∙ s.lock)

  coming_beside : (c : Pc) → f.place ≡ Some c → comes_by bare c ≡ false → (l : LockName) → SomebodyComesBy bare m l → SomebodyComesBy bare (made c) l
  coming_beside c at off l s = still_comes c l s (λ e. let z = (mine c at l s e).0 in cc (z, off))

  abbrev Kept : Pc → Frame → Type 0
  Kept c d = ((is_some d.second ≡ true) × (((made c).word d.lock).pending ≡ false)) ⊎ SomebodyComesBy bare (made c) d.lock

  -- another waiter
  module _ (c : Pc) (at : f.place ≡ Some c) (room : bare ≡ false → c ≡ G1 → m.queued w.cpu < 4) (u : Waiter) (d : Frame) (k : Pc) (ne : u ≢ w)
      (lu : m.frame u ≡ Some d) (pk : d.place ≡ Some k) (lk : is_alone_row k d.why ≡ true)
      (last : is_node ((made c).word d.lock).tail (node_of d.me) ≡ true) where
    nodes_apart : is_node f.me (node_of d.me) ≡ true → ⊥
    nodes_apart mine =
        let noded : Rattle.lk_law.specs.Phase.has_node (Rattle.lk_law.specs.Places.phase_of d) ≡ true =
        ap (λ (o : Option Pc). Rattle.lk_law.specs.Phase.has_node (phase_if o (is_some d.me) (node_of d.prev) (node_of d.y))) pk
        ∙ alone_noded k d.why (is_some d.me) (node_of d.prev) (node_of d.y) lk in
        let some : is_some d.me ≡ true = (ok.registers u d lu).me noded in
        let mine_u : Uses m u (node_of d.me) = (d, lu, is_node-own d.me some) in
        let mine_w : Uses m w (node_of d.me) = (f, live, mine) in
        ne (node_is_ones m hs u w (node_of d.me) ok mine_u mine_w).0

    front : slice_get (hs d.lock).main 0 ≡ Some u
    front =
        lists_front (ok.agrees.locks d.lock).lists u
        (ap (λ (r : Phase). leads r ((m.node ((snapshot m).own u)).flag)) (shown u d k lu pk)
        ∙ alone_leads k d.why (is_some d.me) (node_of d.prev) (node_of d.y) ((m.node ((snapshot m).own u)).flag) lk)

    -- the tail that it has still is some waiter's
    some_tail : (m.word d.lock).tail ≡ ((made c).word d.lock).tail → (m.word d.lock).tail ≡ None → ⊥
    some_tail same none =
        let z : ((made c).word d.lock).tail ≡ None = sym same ∙ none in
        let y = ap (λ (t : Option NodeName). is_node t (node_of d.me)) z in cc (y, last)

    -- who comes goes on so
    go_on : (c ≢ G4) ⊎ (d.lock ≢ f.lock) → (m.word d.lock).tail ≡ ((made c).word d.lock).tail → SomebodyComesBy bare m d.lock → Kept c d
    go_on off same s = elim (waiter_cases s.by w) [
      | inr other ↦ inr (still_comes c d.lock s other)
      | inl e ↦ keep off (mine c at d.lock s e)
    ]
      where
        keep : (c ≢ G4) ⊎ (d.lock ≢ f.lock) → (comes_by bare c ≡ true) × (f.lock ≡ d.lock) → Kept c d
        keep (inr far) z = absurd (far (sym z.1))
        keep (inl off) z =
            let on = comes_on m w f bare c z.0 off awake room
            (λ none. some_tail same (ap (λ (l : LockName). (m.word l).tail) (sym z.1) ∙ none)) in
            inr (record {
              by = w;
              frame = g c;
              place = on.place;
              live = here c;
              at = on.at;
              lock = on.lock ∙ z.1;
              comes = on.comes;
            })

    -- where the tail of its lock is what it was, and pending is that, or not set
    like_word : (c ≢ G4) ⊎ (d.lock ≢ f.lock) → ((made c).word d.lock).tail ≡ (m.word d.lock).tail
        → ((((made c).word d.lock).pending ≡ (m.word d.lock).pending) ⊎ (((made c).word d.lock).pending ≡ false)) → Kept c d
    like_word off same pend =
        elim (inv u d k lu pk lk (ap (λ (t : Option NodeName). is_node t (node_of d.me)) (sym same) ∙ last)) [
          | inl z ↦ inl (z.0, elim pend [ inl e ↦ e ∙ z.1 | inr e ↦ e ])
          | inr s ↦ go_on off (sym same) s
        ]

    same_word : (c ≢ G4) ⊎ (d.lock ≢ f.lock) → (made c).word d.lock ≡ m.word d.lock → Kept c d
    same_word off same =
        like_word off (ap (λ (y : Fields). y.tail) same) (inl (ap (λ (y : Fields). y.pending) same))

    none_tail : ((made c).word d.lock).tail ≡ None → Kept c d
    none_tail z = absurd (let y = ap (λ (t : Option NodeName). is_node t (node_of d.me)) z in cc (y, last))

  by_row : (c : Pc) (at : f.place ≡ Some c) (room : bare ≡ false → c ≡ G1 → m.queued w.cpu < 4) (u : Waiter) (d : Frame) (k : Pc) (ne : u ≢ w)
      (lu : m.frame u ≡ Some d) (pk : d.place ≡ Some k) (lk : is_alone_row k d.why ≡ true)
      (last : is_node ((made c).word d.lock).tail (node_of d.me) ≡ true) → Kept c d
  by_row G4 at room u d k ne lu pk lk last = elim (lock_cases d.lock f.lock) [
    | inl same ↦
        let t : ((made G4).word d.lock).tail ≡ f.me =
        ap (λ (y : Fields). y.tail) (words G4 d.lock)
        ∙ ap (λ (l : LockName). ((stored_in m w f G4 (target G4 f)).word l).tail) same ∙ arrived m w f in
        absurd (nodes_apart G4 at room u d k ne lu pk lk last (ap (λ (o : Option NodeName). is_node o (node_of d.me)) (sym t) ∙ last))
    | inr far ↦ same_word G4 at room u d k ne lu pk lk last (inr far)
        (words G4 d.lock ∙ elsewhere_any m w f (Rattle.lk_rows.specs.rows.Queue.queue_row m.mode G4 f x).stores d.lock far)
  ]
  by_row C10 at room u d k ne lu pk lk last = elim (lock_cases d.lock f.lock) [
    | inl same ↦
        let mine : slice_get (hs f.lock).main 0 ≡ Some w =
        lists_front (ok.agrees.locks f.lock).lists w
        (ap (λ (r : Phase). leads r ((m.node ((snapshot m).own w)).flag)) (shown w f C10 live at)) in
        let other = front C10 at room u d k ne lu pk lk last in
        let z : Some u ≡ Some w = sym other ∙ ap (λ (l : LockName). slice_get (hs l).main 0) same ∙ mine in
        absurd (ne (cc z))
    | inr far ↦ same_word C10 at room u d k ne lu pk lk last (inr far)
        (words C10 d.lock ∙ elsewhere_any m w f (promotion_row C10 f x).stores d.lock far)
  ]
  by_row P1 at room u d k ne lu pk lk last = elim (lock_cases d.lock f.lock) [
    | inr far ↦ same_word P1 at room u d k ne lu pk lk last (inr far)
        (words P1 d.lock ∙ elsewhere_any m w f (Rattle.lk_rows.specs.rows.Spin.spin_row m.mode P1 f x).stores d.lock far)
    | inl same ↦ elim (tails m w f P1 refl refl (λ e. cc e) d.lock) [
      | inr none ↦ none_tail P1 at room u d k ne lu pk lk last (ap (λ (y : Fields). y.tail) (words P1 d.lock) ∙ none)
      | inl t ↦
          let kept : ((made P1).word d.lock).tail ≡ (m.word d.lock).tail = ap (λ (y : Fields). y.tail) (words P1 d.lock) ∙ t in
          elim (inv u d k lu pk lk (ap (λ (t : Option NodeName). is_node t (node_of d.me)) (sym kept) ∙ last)) [
            | inr s ↦ inr (coming_beside P1 at refl d.lock s)
            | inl z ↦
                let clear : after_pending x ≡ P2 =
                to_clear x (ap (λ (l : LockName). (m.word l).pending) (sym same) ∙ z.1)
                (λ none. some_tail P1 at room u d k ne lu pk lk last (sym kept) (ap (λ (l : LockName). (m.word l).tail) same ∙ none)) in
                inr (record {
                  by = w;
                  frame = g P1;
                  place = P2;
                  live = here P1;
                  at = ap Some clear;
                  lock = sym same;
                  comes = refl;
                })
          ]
    ]
  ]
  by_row c at room u d k ne lu pk lk last =
      elim (words_kept m w f c (unhalting c at) (λ e. cc e) (λ e. cc e) (λ e. cc e) d.lock) [
        | inl z ↦ like_word c at room u d k ne lu pk lk last (inl (λ e. cc e)) (ap (λ (y : Fields). y.tail) (words c d.lock) ∙ z.0)
            (elim z.1 [
              | inl e ↦ inl (ap (λ (y : Fields). y.pending) (words c d.lock) ∙ e)
              | inr e ↦ inr (ap (λ (y : Fields). y.pending) (words c d.lock) ∙ e)
            ])
        | inr z ↦ none_tail c at room u d k ne lu pk lk last (ap (λ (y : Fields). y.tail) (words c d.lock) ∙ z)
      ]

  -- the acting head itself, as its row leaves it
  abbrev Ends : Pc → Frame → Type 0
  Ends c d = (k : Pc) → d.place ≡ Some k → is_alone_row k d.why ≡ true
      → is_node ((stored_in m w f c (target c f)).word d.lock).tail (node_of d.me) ≡ true → Kept c d

  -- it goes to a row at which it needs nobody
  no_row : (c d : Pc) (g : Frame) → g.place ≡ Some d → is_alone_row d g.why ≡ false → Ends c g
  no_row c d g at off k e a last =
      absurd (let q : Some d ≡ Some k = sym at ∙ e in let r : d ≡ k = cc q in
      let z = ap (λ (y : Pc). is_alone_row y g.why) r in cc (z, off, a))

  -- what is true at one such row is at the next, where its word and its secondary queue stay
  goes_on : (c : Pc) → f.place ≡ Some c → comes_by bare c ≡ false → is_alone_row c f.why ≡ true
      → (d : Frame) → d.second ≡ f.second → d.lock ≡ f.lock → d.me ≡ f.me
      → ((stored_in m w f c (target c f)).word f.lock).tail ≡ x.tail
      → ((stored_in m w f c (target c f)).word f.lock).pending ≡ x.pending → Ends c d
  goes_on c at off alone d second lock me tail pend k e a last =
      let before : is_node x.tail (node_of f.me) ≡ true =
      sym (ap (λ (l : LockName). is_node ((stored_in m w f c (target c f)).word l).tail (node_of d.me)) lock
      ∙ ap (λ (t : Option NodeName). is_node t (node_of d.me)) tail
      ∙ ap (λ (o : Option NodeName). is_node x.tail (node_of o)) me) ∙ last in
      elim (inv w f c live at alone before) [
        | inl z ↦ inl (
          ap is_some second ∙ z.0,
          ap (λ (l : LockName). ((made c).word l).pending) lock
              ∙ ap (λ (y : Fields). y.pending) (words c f.lock) ∙ pend ∙ z.1,
        )
        | inr s ↦ inr (subst (λ (l : LockName). SomebodyComesBy bare (made c) l) (sym lock) (coming_beside c at off f.lock s))
      ]

  own_G7 : f.place ≡ Some G7 → Ends G7 (g G7)
  own_G7 at k e a last = by (is_unlocked x.locked && not x.pending) refl (is_node x.tail (node_of f.me) && not (is_some f.second)) refl e a
    where
      open_word : (b : Fields) → is_unlocked b.locked && not b.pending ≡ true → b.pending ≡ false
      open_word b h = grind (arith, h, cases_Bool b.pending)

      some_second : (t o : Bool) → t && not o ≡ false → t ≡ true → o ≡ true
      some_second true true h e = refl
      some_second true false h e = cc h
      some_second false o h e = cc e

      by : (b : Bool) → is_unlocked x.locked && not x.pending ≡ b → (c : Bool)
          → is_node x.tail (node_of f.me) && not (is_some f.second) ≡ c
          → Some (if b then (if c then G8 else G9) else G7) ≡ Some k → is_alone_row k f.why ≡ true → Kept G7 (g G7)
      by false p c q e a = absurd (let r : G7 ≡ k = cc e in let z = ap (λ (y : Pc). is_alone_row y f.why) r in cc (z, a))
      by true p true q e a = absurd (let r : G8 ≡ k = cc e in let z = ap (λ (y : Pc). is_alone_row y f.why) r in cc (z, a))
      by true p false q e a =
          inl (
            some_second (is_node x.tail (node_of f.me)) (is_some f.second) q last,
            ap (λ (y : Fields). y.pending) (words G7 f.lock) ∙ open_word x p,
          )

  abbrev sole_effect : Bool → Effect Fields
  sole_effect b = if b then Rattle.lk_rows.specs.rows.Queue.takes_out f Rattle.lk_names.specs.declared.events.How.TheVariants.Sole else Rattle.lk_rows.specs.Row.looks G9

  own_G8 : f.place ≡ Some G8 → Ends G8 (g G8)
  own_G8 at k e a last = by (is_sole f x) refl e a last
    where
      by : (b : Bool) → is_sole f x ≡ b → (led f (sole_effect b).leads).place ≡ Some k
          → is_alone_row k (led f (sole_effect b).leads).why ≡ true
          → is_node ((stores_word m f.lock (sole_effect b).stores).word (led f (sole_effect b).leads).lock).tail (node_of (led f (sole_effect b).leads).me) ≡ true
          → Kept G8 (led f (sole_effect b).leads)
      by true q e a t = absurd (mute_not (if f.lock.wait then f.then else None) k (after f inner) e (alone_tells k f.why a))
      by false q e a t =
          let locks = ok.agrees.locks f.lock in
          let free : (m.word f.lock).locked ≡ Free = locks.pend.free w (ap claims (shown w f G8 live at)) in
          let u = locks.pend.someone (unsole f x q (ap is_unlocked free) t) in
          let z = busy_at m f.lock u.0 (pends_busy ((snapshot m).phase f.lock u.0) u.1) in
          elim (pends_rows z.place (is_some z.frame.me) (node_of z.frame.prev) (node_of z.frame.y) (ap pends (sym z.shows) ∙ u.1)) [
            | inl p2 ↦
                inr (coming_beside G8 at refl f.lock (record {
                  by = u.0;
                  frame = z.frame;
                  place = z.place;
                  live = z.live;
                  at = z.at;
                  lock = z.lock;
                  comes = ap (comes_by bare) p2;
                }))
            | inr r ↦ elim r [
              | inl wa ↦ absurd (locks.pend.apart u.0 w (ap watches z.shows ∙ wa) (ap stakes (shown w f G8 live at)))
              | inr ha ↦ absurd (let y = (ok.registers u.0 z.frame z.live).choice.halting z.place z.at ha in cc (y, awake))
            ]
          ]

  own_G9 : f.place ≡ Some G9 → Ends G9 (g G9)
  own_G9 at =
      let is = if-true (same_lock f.lock f.lock) (record x { locked = Held }) (m.word f.lock) (same_lock-self f.lock) in
      goes_on G9 at refl refl (g G9) refl refl refl (ap (λ (y : Fields). y.tail) is) (ap (λ (y : Fields). y.pending) is)

  own_C1 : f.place ≡ Some C1 → Ends C1 (g C1)
  own_C1 at = by (m.node (node_of f.me)).next f.second
    where
      -- its row stores nothing
      plain : (o : Option (Option NodeName)) → ((stores_next m (node_of f.me) o).word f.lock) ≡ x
      plain None = refl
      plain (Some z) = refl

      same : ((stored_in m w f C1 (target C1 f)).word f.lock) ≡ x
      same = plain (search_row (sight_in m w f) C1 f (m.node (node_of f.me)).next).stores

      by : (y : Option NodeName) (o : Option NodeName) → Ends C1 (led f (search_first (sight_in m w f) o y).leads)
      by None None =
          goes_on C1 at refl refl (led f (search_first (sight_in m w f) None None).leads) refl refl refl
          (ap (λ (y : Fields). y.tail) same) (ap (λ (y : Fields). y.pending) same)
      by None (Some n) =
          goes_on C1 at refl refl (led f (search_first (sight_in m w f) (Some n) None).leads) refl refl refl
          (ap (λ (y : Fields). y.tail) same) (ap (λ (y : Fields). y.pending) same)
      by (Some n) o = some (may_stay (sight_in m w f)) ((sight_in m w f).local n) (is_some o)
        where
          some : (a b c : Bool)
              → Ends C1 (led f (if a then (if b then learns_all {A = Option NodeName} C7 (K 0 ∷ Y (Some n) ∷ [])
              else learns_all {A = Option NodeName} C2 (K 1 ∷ A (Some n) ∷ B (Some n) ∷ []))
              else (if c then learns_all {A = Option NodeName} C3 (K 0 ∷ A (Some n) ∷ Reason why.Flush ∷ [])
              else learns_all {A = Option NodeName} C7 (K 0 ∷ Y (Some n) ∷ []))).leads)
          some true true c = no_row C1 C7 (gone f C7 (K 0 ∷ Y (Some n) ∷ [])) refl refl
          some true false c = no_row C1 C2 (gone f C2 (K 1 ∷ A (Some n) ∷ B (Some n) ∷ [])) refl refl
          some false b true = no_row C1 C3 (gone f C3 (K 0 ∷ A (Some n) ∷ Reason why.Flush ∷ [])) refl refl
          some false b false = no_row C1 C7 (gone f C7 (K 0 ∷ Y (Some n) ∷ [])) refl refl

  own_C2 : Ends C2 (g C2)
  own_C2 = by (m.node (node_of f.b)).next
    where
      by : (y : Option NodeName) → Ends C2 (led f (search_on (sight_in m w f) f y).leads)
      by None = none (is_some f.second)
        where
          none : (b : Bool) → Ends C2 (led f (if b then learns_all {A = Option NodeName} C3 (K 0 ∷ Reason why.Flush ∷ [])
              else learns_all {A = Option NodeName} C7 (K 0 ∷ Y f.a ∷ [])).leads)
          none true = no_row C2 C3 (gone f C3 (K 0 ∷ Reason why.Flush ∷ [])) refl refl
          none false = no_row C2 C7 (gone f C7 (K 0 ∷ Y f.a ∷ [])) refl refl
      by (Some n) = some ((sight_in m w f).local n) (is_some f.second)
        where
          some : (b c : Bool) → Ends C2 (led f (if b then (if c then learns_all {A = Option NodeName} C3 (Y (Some n) ∷ Reason why.Append ∷ [])
              else learns_all {A = Option NodeName} C5 (Y (Some n) ∷ Second f.a ∷ []))
              else learns_all {A = Option NodeName} C2 (B (Some n) ∷ K (f.k + 1) ∷ [])).leads)
          some true true = no_row C2 C3 (gone f C3 (Y (Some n) ∷ Reason why.Append ∷ [])) refl refl
          some true false = no_row C2 C5 (gone f C5 (Y (Some n) ∷ Second f.a ∷ [])) refl refl
          some false c = no_row C2 C2 (gone f C2 (B (Some n) ∷ K (f.k + 1) ∷ [])) refl refl

  own_C3 : f.place ≡ Some C3 → Ends C3 (g C3)
  own_C3 at = by f.why refl
    where
      by : (y : Why) → f.why ≡ y → Ends C3 (gone f (after_tail y) (Rattle.lk_rows.specs.Row.T (m.node (node_of f.second)).second_tail ∷ []))
      by why.Append e = no_row C3 C4 (gone f C4 (Rattle.lk_rows.specs.Row.T (m.node (node_of f.second)).second_tail ∷ [])) refl refl
      by why.Flush e = no_row C3 C9 (gone f C9 (Rattle.lk_rows.specs.Row.T (m.node (node_of f.second)).second_tail ∷ [])) refl refl
      by why.Promotion e =
          goes_on C3 at refl (ap (is_alone_row C3) e)
          (gone f C10 (Rattle.lk_rows.specs.Row.T (m.node (node_of f.second)).second_tail ∷ [])) refl refl refl refl refl

  abbrev promotion : Bool → Effect Fields
  promotion b = if b then record {
    stores = Some (record x { tail = f.t });
    leads = Rattle.lk_rows.specs.Row.Goes C7 (Y f.second ∷ Second None ∷ []);
    tells = Rattle.lk_rows.specs.Row.Says (Rattle.lk_names.specs.declared.events.What.TheVariants.Promote f.lock);
    counts = [];
  } else Rattle.lk_rows.specs.Row.looks C1

  own_C10 : f.place ≡ Some C10 → Ends C10 (g C10)
  own_C10 at k e a last = by (is_last f x) refl e a last
    where
      by : (b : Bool) → is_last f x ≡ b → (led f (promotion b).leads).place ≡ Some k
          → is_alone_row k (led f (promotion b).leads).why ≡ true
          → is_node ((stores_word m f.lock (promotion b).stores).word (led f (promotion b).leads).lock).tail (node_of (led f (promotion b).leads).me) ≡ true
          → Kept C10 (led f (promotion b).leads)
      by true q e a t = absurd (let r : C7 ≡ k = cc e in let z = ap (λ (y : Pc). is_alone_row y f.why) r in cc (z, a))
      by false q e a t =
          let held : x.locked ≡ Held = ((row_knows C10 m hs w f ok live at).0 awake).0 in
          elim (inv w f C10 live at refl t) [
            | inl z ↦ absurd (let y = last_is f x held z.1 t in cc (y, q))
            | inr s ↦ inr (coming_beside C10 at refl f.lock s)
          ]

  own_keeps : (c : Pc) → f.place ≡ Some c → Ends c (g c)
  own_keeps G7 at = own_G7 at
  own_keeps G8 at = own_G8 at
  own_keeps G9 at = own_G9 at
  own_keeps C1 at = own_C1 at
  own_keeps C2 at = own_C2
  own_keeps C3 at = own_C3 at
  own_keeps C10 at = own_C10 at
  own_keeps c at = λ k e a last. absurd (mute_not (g c).place k (mute m w f inner c (unhalting c at) refl) e (alone_tells k (g c).why a))

  aside_keeps : (c : Pc) → f.place ≡ Some c → (bare ≡ false → c ≡ G1 → m.queued w.cpu < 4) → IsFollowedAsideBy bare (made c)
  aside_keeps c at room u d k lu pk lk last = elim (waiter_cases u w) [
    | inl e ↦
        let q : Some d ≡ Some (g c) = sym lu ∙ ap (made c).frame e ∙ here c in
        let is : g c ≡ d = cc q in
        subst (λ (y : Frame). ((is_some y.second ≡ true) × (((made c).word y.lock).pending ≡ false)) ⊎ SomebodyComesBy bare (made c) y.lock) is
        (own_keeps c at k (ap (λ (y : Frame). y.place) is ∙ pk) (ap (λ (y : Frame). is_alone_row k y.why) is ∙ lk)
        (ap (λ (v : LockName → Fields). is_node (v (g c).lock).tail (node_of (g c).me)) (sym (row_is_done m w f c (target c f)).word)
        ∙ ap (λ (y : Frame). is_node ((made c).word y.lock).tail (node_of y.me)) is ∙ last))
    | inr ne ↦ by_row c at room u d k ne (sym (there c u ne) ∙ lu) pk lk last
  ]

pub row_keeps_aside : (c : Pc) → RowKeepsAside c
row_keeps_aside c m hs w f ok awake aside live at inner room inv =
    aside_keeps m hs w f ok awake aside live inner false inv c at (λ e. room)

-- and so it is, without a premise on nodes, where who polls beside the queue counts as coming
pub row_keeps_led_aside : (c : Pc) → RowKeepsLedAside c
row_keeps_led_aside c m hs w f ok awake aside live at inner inv =
    aside_keeps m hs w f ok awake aside live inner true inv c at (λ e. absurd (let z : true ≡ false = e in cc z))
