-- Where processors halt, every row keeps it that each head which looks for its successor has one.
use Rattle.std.proofs.Common.{◌≡◌, ◌≢◌, ◌⊎◌, inl, inr, Option, Some, None, Bool, true, false, refl}
use Rattle.std.proofs.Common.{sym, ap, ◌∙◌, subst, arith, slice_get, [], if◌then◌else◌, is_some}
use Rattle.lk_waits.proofs.Names.{cases_Bool, Fields, Locked, Held, Slow, NodeName, LockHistory}
use Rattle.lk_waits.proofs.Names.{same_lock, LockName, Waiter, is_node, node_of, Effect, target}
use Rattle.lk_waits.proofs.Names.{Flag, Frame, Pc, E2, E8, E11, E12, E13, E14, E15, G4, K1, K2, R4}
use Rattle.lk_waits.proofs.Names.{U4, W5, W6, W7, Wr2, State, is_last, is_halted, is_set}
use Rattle.lk_waits.proofs.Names.{is_slow_byte, pv_after_next, lock_cases, waiter_cases}
use Rattle.lk_waits.proofs.Names.{lists_front, row_knows, not-true, is_node-own, node_is_ones}
use Rattle.lk_waits.proofs.Names.{phase_on-here, LockAgrees, halts, stays_awake, stored_in, Phase}
use Rattle.lk_waits.proofs.Names.{leads, pends, Holds, Idle, own_in, phase_at, phase_if, phase_on}
use Rattle.lk_waits.proofs.Names.{post_at, snapshot, IsThen, Uses, Snapshot, IsSoundSpinWorld, led}
use Rattle.lk_waits.proofs.Names.{stores_next, stores_word, World, IsHeadServed, halts_as_head}
use Rattle.lk_waits.proofs.Names.{looks_after}
use Rattle.lk_names.specs.declared.events.What.TheVariants.{Leave}
use Rattle.lk_rows.specs.Row.{Leaves, Says, looks}
use Rattle.lk_law.proofs.{common.Sames.same_lock-true, common.Worlds.post_on-here}
use Rattle.lk_law.specs.{Agree.ParaAgrees, Phase.{follows, has_node}, Phase.Phase.Waits}
use Rattle.lk_law.specs.{Places.{post_if, post_of, post_on}, Pv.{Post, calls}, Pv.Post.Off}
use Rattle.lk_waits.proofs.{Changed.{Changed, next_frame}, HaltingLeads.{tells, Mute, mute}}
use Rattle.lk_waits.proofs.{HaltingRows.tails_kept, Tails.{arrived, elsewhere}, Tops.busy_at}
use Rattle.lk_rows.specs.declared.parts.State.TheVariants as state

pub mute_not : (o : Option Pc) (d : Pc) → Mute o → o ≡ Some d → tells (Some d) ≡ true → ⊥
mute_not o d h e t = let z = ap tells e in cc (z, h, t)

-- a head that halts is at a row that tells
pub halts_tells : (d : Pc) (x : Flag) → halts_as_head d x ≡ true → tells (Some d) ≡ true
halts_tells W6 x h = refl
halts_tells E12 x h = refl
halts_tells d x h = cc h

-- and leads, at such a row
halts_leads : (d : Pc) (x : Flag) (b : Bool) (p n : NodeName) → halts_as_head d x ≡ true → leads (phase_at d b p n) x ≡ true
halts_leads d x b p n h = grind (arith, h)

-- who has set pending leads the queue, where processors halt
pends_leads : (d : Pc) (b : Bool) (p n : NodeName) (x : Flag) → pends (phase_at d b p n) ≡ true → stays_awake d ≡ false
    → leads (phase_at d b p n) x ≡ true
pends_leads d b p n x h a = grind (arith, h, a)

pends_busy : (r : Phase) → pends r ≡ true → r ≢ Idle
pends_busy r h e = grind (arith, h, e)

pub follows_busy : (r : Phase) → follows r ≡ true → r ≢ Idle
follows_busy r h e = grind (arith, h, e)

unlast : (g : Frame) (x : Fields) → is_last g x ≡ false → x.locked ≡ Held → x.pending ≡ false
    → is_node x.tail (node_of g.me) ≡ false
unlast g x h a p = not-true (is_node x.tail (node_of g.me)) (λ t. let z : is_last g x ≡ true = rw (a, p, t) refl in cc (z, h))

pub halted_is : (x : State) → is_halted x ≡ true → x ≡ state.Halted
halted_is state.Halted e = refl
halted_is state.Running e = cc e
halted_is state.Hashed e = cc e

pub slow_is : (x : Locked) → is_slow_byte x ≡ true → x ≡ Slow
slow_is x e = grind (arith, e)

-- which rows looks_after names
pub looks_cases : (c d : Pc) → looks_after c d ≡ true → (c ≡ W6) × ((d ≡ K1) ⊎ (d ≡ K2))
looks_cases W6 K1 e = (refl, inl refl)
looks_cases W6 K2 e = (refl, inr refl)
looks_cases c d e = grind (arith, e)

arrival : (c : Pc) → (c ≡ G4) ⊎ (c ≢ G4)
arrival G4 = inl refl
arrival _ = inr (λ e. cc e)

pub handoff : (c : Pc) → (c ≡ E15) ⊎ (c ≢ E15)
handoff E15 = inl refl
handoff _ = inr (λ e. cc e)

pub slow_rows : (c : Pc) → (c ≡ E8) ⊎ (c ≡ U4) ⊎ ((c ≢ E8) × (c ≢ U4))
slow_rows E8 = inl refl
slow_rows U4 = inr (inl refl)
slow_rows _ = inr (inr (λ e. cc e, λ e. cc e))

-- a waiter halts at the place
abbrev pub at_halting : Option Pc → Bool
at_halting (Some W6) = true
at_halting (Some E12) = true
at_halting _ = false

pub halts_no : (o : Option Pc) (k : Pc) → o ≡ Some k → (x : Flag) → halts_as_head k x ≡ true → at_halting o ≡ false → ⊥
halts_no o W6 e x h n = let z = ap at_halting e in cc (z, n)
halts_no o E12 e x h n = let z = ap at_halting e in cc (z, n)
halts_no o k e x h n = cc h

pub after_out : (f : Frame) → (f.lock.wait ≡ true → IsThen f.then) → at_halting (if f.lock.wait then f.then else None) ≡ false
after_out f inner =
    elim (cases_Bool f.lock.wait) [
      | inl e ↦ rw e (elim (inner e) [ inl q ↦ ap at_halting q | inr q ↦ ap at_halting q ])
      | inr e ↦ rw e refl
    ]

pub set_leads : (x : Flag) → is_set x ≡ true → leads Waits x ≡ true
set_leads x h = grind (arith, h)

-- what a head does that has the lock and looks whether it is alone
abbrev pub out : Frame → Fields → Bool → Effect Fields
out f x t =
    if t
    then record { stores = Some (record x { tail = None }); leads = Leaves; tells = Says (Leave f.lock); counts = [] }
    else looks E14

-- the frame of a waiter that has this post at a lock
pub record IsPosted (m : World) (l : LockName) (u : Waiter) : Type 0 where
  pub frame : Frame
  pub place : Pc
  pub live : m.frame u ≡ Some frame
  pub lock : frame.lock ≡ l
  pub at : frame.place ≡ Some place
  pub shows : (snapshot m).post l u ≡ post_at place frame

pub posted_at : (m : World) (l : LockName) (u : Waiter) → (snapshot m).post l u ≢ Off → IsPosted m l u
posted_at m l u busy = by (m.frame u) refl
  where
    by : (o : Option Frame) → m.frame u ≡ o → IsPosted m l u
    by None e = absurd (busy (ap (post_on l) e))
    by (Some g) e = here (same_lock g.lock l) refl g.place refl
      where
        at_frame : (snapshot m).post l u ≡ (if same_lock g.lock l then post_of g else Off)
        at_frame = ap (post_on l) e

        here : (b : Bool) → same_lock g.lock l ≡ b → (o : Option Pc) → g.place ≡ o → IsPosted m l u
        here false s o p = absurd (busy (at_frame ∙ ap (λ (b : Bool). if b then post_of g else Off) s))
        here true s None p =
            absurd (busy (at_frame ∙ ap (λ (b : Bool). if b then post_of g else Off) s ∙ ap (λ (o : Option Pc). post_if o g) p))
        here true s (Some d) p =
            record {
              frame = g;
              place = d;
              live = e;
              lock = same_lock-true g.lock l s;
              at = p;
              shows = at_frame ∙ ap (λ (b : Bool). if b then post_of g else Off) s ∙ ap (λ (o : Option Pc). post_if o g) p;
            }

pub calls_busy : (r : Post) → calls r ≡ true → r ≢ Off
calls_busy r h e = grind (arith, h, e)

pub calls_row : (d : Pc) (g : Frame) → calls (post_at d g) ≡ true → d ≡ K1
calls_row K1 g h = refl
calls_row d g h = grind (arith, h)

module _ (a : World) (hs : LockName → LockHistory) (ok : IsSoundSpinWorld a hs) (on : halts a.mode ≡ true) where
  abbrev s : Snapshot
  s = snapshot a

  agrees : (l : LockName) → LockAgrees s (hs l) l
  agrees l = ok.agrees.locks l

  para : (l : LockName) → ParaAgrees s (hs l) l
  para l = (agrees l).posts on

  shown : (u : Waiter) (g : Frame) (k : Pc) → a.frame u ≡ Some g → g.place ≡ Some k
      → s.phase g.lock u ≡ phase_at k (is_some g.me) (node_of g.prev) (node_of g.y)
  shown u g k live at = ap (phase_on g.lock) live ∙ phase_on-here g.lock g refl
      ∙ ap (λ (d : Option Pc). phase_if d (is_some g.me) (node_of g.prev) (node_of g.y)) at

  pub posted : (u : Waiter) (g : Frame) (k : Pc) → a.frame u ≡ Some g → g.place ≡ Some k → s.post g.lock u ≡ post_at k g
  posted u g k live at = ap (post_on g.lock) live ∙ post_on-here g.lock g refl ∙ ap (λ (d : Option Pc). post_if d g) at

  -- who leads by its row is the first of the queue
  pub front : (u : Waiter) (g : Frame) (k : Pc) → a.frame u ≡ Some g → g.place ≡ Some k
      → leads (phase_at k (is_some g.me) (node_of g.prev) (node_of g.y)) (a.node (node_of g.me)).flag ≡ true
      → slice_get (hs g.lock).main 0 ≡ Some u
  front u g k live at h =
      lists_front (agrees g.lock).lists u
      (ap (λ (r : Phase). leads r (a.node (own_in (a.frame u))).flag) (shown u g k live at)
      ∙ ap (λ (n : NodeName). leads (phase_at k (is_some g.me) (node_of g.prev) (node_of g.y)) (a.node n).flag) (ap own_in live) ∙ h)

  pub front_halts : (u : Waiter) (g : Frame) (k : Pc) → a.frame u ≡ Some g → g.place ≡ Some k
      → halts_as_head k (a.node (node_of g.me)).flag ≡ true → slice_get (hs g.lock).main 0 ≡ Some u
  front_halts u g k live at h =
      front u g k live at (halts_leads k (a.node (node_of g.me)).flag (is_some g.me) (node_of g.prev) (node_of g.y) h)

  pub one_first : (l : LockName) (u v : Waiter) → slice_get (hs l).main 0 ≡ Some u → slice_get (hs l).main 0 ≡ Some v → u ≡ v
  one_first l u v p q = let z : Some u ≡ Some v = sym p ∙ q in cc z

  pub waking : (u : Waiter) (g : Frame) (k : Pc) → a.frame u ≡ Some g → g.place ≡ Some k → stays_awake k ≡ false
  waking u g k live at =
      not-true (stays_awake k) (λ e. let z = (ok.registers u g live).choice.waking k at e in cc (z, on))

  pub same_frame : (u : Waiter) (g h : Frame) → a.frame u ≡ Some g → a.frame u ≡ Some h → g ≡ h
  same_frame u g h p q = let z : Some g ≡ Some h = sym p ∙ q in cc z

  same_place : (g h : Frame) (k d : Pc) → g ≡ h → g.place ≡ Some k → h.place ≡ Some d → k ≡ d
  same_place g h k d e p q = let z : Some k ≡ Some d = sym p ∙ ap (λ (x : Frame). x.place) e ∙ q in cc z

  -- while a head holds the lock nobody has set pending
  unpending : (u : Waiter) (g : Frame) (k : Pc) → a.frame u ≡ Some g → g.place ≡ Some k
      → phase_at k (is_some g.me) (node_of g.prev) (node_of g.y) ≡ Holds → (a.word g.lock).pending ≡ false
  unpending u g k live at h = not-true (a.word g.lock).pending (λ e.
      let v = (agrees g.lock).pend.someone e in
      let b = busy_at a g.lock v.0 (pends_busy (s.phase g.lock v.0) v.1) in
      let p : pends (phase_at b.place (is_some b.frame.me) (node_of b.frame.prev) (node_of b.frame.y)) ≡ true =
      ap pends (sym b.shows) ∙ v.1 in
      let lead = pends_leads b.place (is_some b.frame.me) (node_of b.frame.prev) (node_of b.frame.y)
      (a.node (node_of b.frame.me)).flag p (waking v.0 b.frame b.place b.live b.at) in
      let first : slice_get (hs g.lock).main 0 ≡ Some v.0 =
      subst (λ (l : LockName). slice_get (hs l).main 0 ≡ Some v.0) b.lock (front v.0 b.frame b.place b.live b.at lead) in
      let mine = front u g k live at (ap (λ (r : Phase). leads r (a.node (node_of g.me)).flag) h) in
      let same : v.0 ≡ u = one_first g.lock v.0 u first mine in
      let z : pends (s.phase g.lock u) ≡ true = ap (λ (x : Waiter). pends (s.phase g.lock x)) (sym same) ∙ v.1 in
      let y : pends (s.phase g.lock u) ≡ false = ap pends (shown u g k live at ∙ h) in
      cc (z, y))

  -- the acting frame
  module _ (b : World) (w : Waiter) (f : Frame) (live : a.frame w ≡ Some f) (inner : f.lock.wait ≡ true → IsThen f.then)
      (inv : IsHeadServed a) (c : Pc) (at : f.place ≡ Some c) (ch : Changed a b w f c) where
    abbrev d : Frame
    d = next_frame a w f c

    abbrev st : World
    st = stored_in a w f c (target c f)

    awake_not : stays_awake c ≡ false
    awake_not = waking w f c live at

    -- where the row leads on
    pub goes_at : (k : Pc) → d.place ≡ Some k → b.frame w ≡ Some d
    goes_at k e = elim ch.goes [
      | inl h ↦ h
      | inr q ↦ absurd (let z : None ≡ Some k = sym q.0 ∙ e in cc z)
    ]

    -- a frame that tells is where its row has led
    pub goes_told : (g : Frame) (k : Pc) → b.frame w ≡ Some g → g.place ≡ Some k → tells (Some k) ≡ true → d ≡ g
    goes_told g k e p t = elim ch.goes [
      | inl h ↦ (let z : Some d ≡ Some g = sym h ∙ e in cc z)
      | inr q ↦ absurd (let z = (q.1 g e k p).served in cc (z, t))
    ]

    -- who acted was at the row
    pub was_acting : (u : Waiter) (g : Frame) (k : Pc) → a.frame u ≡ Some g → g.place ≡ Some k → u ≡ w → (f ≡ g) × (c ≡ k)
    was_acting u g k lu pk e =
        let q = same_frame w f g live (ap a.frame (sym e) ∙ lu) in
        (q, same_place f g c k q at pk)

    -- heads that look for their successor

    abbrev Beside : Frame → Type 0
    Beside g = is_node (b.word g.lock).tail (node_of g.me) ≡ false

    own_followed : (c' : Pc) → c ≡ c' → (next_frame a w f c').place ≡ Some E14
        → is_node ((stored_in a w f c' (target c' f)).word (next_frame a w f c').lock).tail (node_of (next_frame a w f c').me) ≡ false
    own_followed E13 i e = by (is_last f (a.word f.lock)) refl e
      where
        by : (t : Bool) → is_last f (a.word f.lock) ≡ t → (led f (out f (a.word f.lock) t).leads).place ≡ Some E14
            → is_node ((stores_word a f.lock (out f (a.word f.lock) t).stores).word (led f (out f (a.word f.lock) t).leads).lock).tail (node_of (led f (out f (a.word f.lock) t).leads).me) ≡ false
        by true q e = absurd (left f.lock.wait refl e)
          where
            left : (t : Bool) → f.lock.wait ≡ t → (if f.lock.wait then f.then else None) ≡ Some E14 → ⊥
            left true r z = elim (inner r) [
              | inl y ↦ (let x : Some R4 ≡ Some E14 = sym y ∙ sym (ap (λ (t : Bool). if t then f.then else None) r) ∙ z in cc x)
              | inr y ↦ (let x : Some Wr2 ≡ Some E14 = sym y ∙ sym (ap (λ (t : Bool). if t then f.then else None) r) ∙ z in cc x)
            ]
            left false r z = (let x : None ≡ Some E14 = sym (ap (λ (t : Bool). if t then f.then else None) r) ∙ z in cc x)
        by false q e =
            unlast f (a.word f.lock) q ((row_knows E13 a hs w f ok live (at ∙ ap Some i)).2 on).0
            (unpending w f E13 live (at ∙ ap Some i) refl)
    own_followed E14 i e = by (a.node (node_of f.me)).next e
      where
        by : (o : Option NodeName)
            → (led f (pv_after_next o).leads).place ≡ Some E14
            → is_node ((stores_next a (node_of f.me) (pv_after_next o).stores).word (led f (pv_after_next o).leads).lock).tail
            (node_of (led f (pv_after_next o).leads).me) ≡ false
        by None e = inv.followed w f live (at ∙ ap Some i)
        by (Some n) e = cc e
    own_followed W5 i e = absurd (by (is_halted (a.node (node_of f.me)).state) e)
      where
        by : (t : Bool) → Some (if t then W6 else W7) ≡ Some E14 → ⊥
        by true e = cc e
        by false e = cc e
    own_followed W6 i e = absurd (let z : Some W6 ≡ Some E14 = e in cc z)
    own_followed E11 i e = absurd (by (is_slow_byte (a.word f.lock).locked) e)
      where
        by : (t : Bool) → Some (if t then E12 else E2) ≡ Some E14 → ⊥
        by true e = cc e
        by false e = cc e
    own_followed E12 i e = absurd (let z : Some E12 ≡ Some E14 = e in cc z)
    own_followed k i e =
        absurd (mute_not (next_frame a w f k).place E14
        (mute a w f inner k (waking w f k live (at ∙ ap Some i)) refl) e refl)

    others_followed : (u : Waiter) (g : Frame) → u ≢ w → a.frame u ≡ Some g → g.place ≡ Some E14 → Beside g
    others_followed u g ne lu pk = elim (arrival c) [
      | inl i ↦ elim (lock_cases g.lock f.lock) [
        | inl same ↦
            let t : (b.word g.lock).tail ≡ f.me =
            ap (λ (x : Fields). x.tail) (ch.words g.lock)
            ∙ ap (λ (k : Pc). ((stored_in a w f k (target k f)).word g.lock).tail) i
            ∙ ap (λ (l : LockName). ((stored_in a w f G4 (target G4 f)).word l).tail) same ∙ arrived a w f in
            ap (λ (o : Option NodeName). is_node o (node_of g.me)) t
            ∙ not-true (is_node f.me (node_of g.me)) (λ e.
            let some : is_some g.me ≡ true =
            (ok.registers u g lu).me (ap (λ (o : Option Pc). has_node (phase_if o (is_some g.me) (node_of g.prev) (node_of g.y))) pk) in
            let mine_u : Uses a u (node_of g.me) = (g, lu, is_node-own g.me some) in
            let mine_w : Uses a w (node_of g.me) = (f, live, e) in
            ne (node_is_ones a hs u w (node_of g.me) ok mine_u mine_w).0)
        | inr off ↦
            ap (λ (x : Fields). is_node x.tail (node_of g.me)) (ch.words g.lock)
            ∙ ap (λ (k : Pc). is_node ((stored_in a w f k (target k f)).word g.lock).tail (node_of g.me)) i
            ∙ ap (λ (o : Option NodeName). is_node o (node_of g.me)) (elsewhere a w f g.lock off)
            ∙ inv.followed u g lu pk
      ]
      | inr off ↦ elim (tails_kept a w f c awake_not off g.lock) [
        | inl same ↦
            ap (λ (x : Fields). is_node x.tail (node_of g.me)) (ch.words g.lock)
            ∙ ap (λ (o : Option NodeName). is_node o (node_of g.me)) same ∙ inv.followed u g lu pk
        | inr none ↦
            ap (λ (x : Fields). is_node x.tail (node_of g.me)) (ch.words g.lock)
            ∙ ap (λ (o : Option NodeName). is_node o (node_of g.me)) none
      ]
    ]

    pub still_followed : (u : Waiter) (g : Frame) → b.frame u ≡ Some g → g.place ≡ Some E14 → Beside g
    still_followed u g lu pk = elim (waiter_cases u w) [
      | inl e ↦
          let i = goes_told g E14 (ap b.frame (sym e) ∙ lu) pk refl in
          subst Beside i
          (ap (λ (x : Fields). is_node x.tail (node_of d.me)) (ch.words d.lock)
          ∙ own_followed c refl (ap (λ (h : Frame). h.place) i ∙ pk))
      | inr ne ↦ others_followed u g ne (sym (ch.others u ne) ∙ lu) pk
    ]
