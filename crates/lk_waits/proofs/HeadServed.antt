-- Where processors halt, every row keeps it that each head which halts is awaited; and so that heads are
-- served.
use Rattle.std.proofs.Common.{◌≡◌, ◌≢◌, inl, inr, ℕ, Option, Some, None, Bool, true, false, refl}
use Rattle.std.proofs.Common.{sym, ap, ◌∙◌, subst, slice_get, if◌then◌else◌, is_some}
use Rattle.lk_waits.proofs.Names.{Fields, Held, Slow, NodeName, LockHistory, LockName}
use Rattle.lk_waits.proofs.Names.{Waiter, is_node, node_of, target, Frame, Pc, E2, E8, E11, E12}
use Rattle.lk_waits.proofs.Names.{E13, E14, E15, K1, K2, U4, U5, W5, W6, W7, State, is_last}
use Rattle.lk_waits.proofs.Names.{is_halted, is_set, is_slow_byte, pv_after_next, lock_cases}
use Rattle.lk_waits.proofs.Names.{waiter_cases, is_node-own, node_is_ones, LockAgrees, halts}
use Rattle.lk_waits.proofs.Names.{stored_in, own_in, phase_if, post_at, snapshot, IsThen, Uses}
use Rattle.lk_waits.proofs.Names.{Snapshot, IsSoundSpinWorld, led, row_in, World, IsAwaited}
use Rattle.lk_waits.proofs.Names.{IsHeadServed, halts_as_head, looks_after}
use Rattle.lk_rows.specs.rows.Pv.{with_byte}
use Rattle.lk_law.proofs.common.Knows.{named_front_is_used, halting_next_is_used}
use Rattle.lk_law.specs.{Agree.ParaAgrees, Phase.has_node, Pv.{calls, dozes}, Pv.Post.Dozes}
use Rattle.lk_waits.proofs.Changed.{Changed, next_frame, row_changed}
use Rattle.lk_waits.proofs.HaltingLeads.{tells, mute, flags_stay, flags_handed}
use Rattle.lk_waits.proofs.HaltingRows.{bytes_kept, elsewhere_word, here_word, kicks_stay}
use Rattle.lk_waits.proofs.HaltingRows.{kick_made}
use Rattle.lk_waits.proofs.HeadLinked.{mute_not, halts_tells, looks_cases, handoff, slow_rows}
use Rattle.lk_waits.proofs.HeadLinked.{halted_is, slow_is, calls_busy, calls_row, follows_busy}
use Rattle.lk_waits.proofs.HeadLinked.{set_leads, at_halting, halts_no, after_out, out, posted_at}
use Rattle.lk_waits.proofs.HeadLinked.{posted, front, front_halts, one_first, waking, same_frame}
use Rattle.lk_waits.proofs.HeadLinked.{goes_at, goes_told, was_acting, still_followed}
use Rattle.lk_waits.proofs.Tops.{busy_at}
use Rattle.lk_waits.specs.Halting.{RowKeepsServed, IsLookedAfter, OwesKick}
use Rattle.lk_rows.specs.declared.parts.State.TheVariants as state

module _ (a : World) (hs : LockName → LockHistory) (ok : IsSoundSpinWorld a hs) (on : halts a.mode ≡ true) where
  abbrev s : Snapshot
  s = snapshot a

  agrees : (l : LockName) → LockAgrees s (hs l) l
  agrees l = ok.agrees.locks l

  para : (l : LockName) → ParaAgrees s (hs l) l
  para l = (agrees l).posts on

  -- the acting frame
  module _ (b : World) (w : Waiter) (f : Frame) (live : a.frame w ≡ Some f) (inner : f.lock.wait ≡ true → IsThen f.then)
      (inv : IsHeadServed a) (c : Pc) (at : f.place ≡ Some c) (ch : Changed a b w f c) where
    abbrev d : Frame
    d = next_frame a w f c

    abbrev st : World
    st = stored_in a w f c (target c f)

    -- who stands beside the acting frame stands still
    looked_after : (l : LockName) (k : Pc) (z : IsLookedAfter a l k) → z.by ≢ w → IsLookedAfter b l k
    looked_after l k z ne =
        record {
          by = z.by;
          frame = z.frame;
          place = z.place;
          live = ch.others z.by ne ∙ z.live;
          at = z.at;
          lock = z.lock;
          looks = z.looks;
        }

    owes_still : (l : LockName) (p : ℕ) (z : OwesKick a l p) → z.by ≢ w → OwesKick b l p
    owes_still l p z ne =
        record {
          by = z.by;
          frame = z.frame;
          live = ch.others z.by ne ∙ z.live;
          at = z.at;
          lock = z.lock;
          target = z.target;
        }

    -- of the first u of the queue of l, which halts at the row k with this frame
    module _ (u : Waiter) (g : Frame) (k : Pc) (lu : a.frame u ≡ Some g) (pk : g.place ≡ Some k)
        (halts_so : halts_as_head k (a.node (node_of g.me)).flag ≡ true) where
      abbrev l : LockName
      l = g.lock

      first : slice_get (hs g.lock).main 0 ≡ Some u
      first = front_halts a hs ok on u g k lu pk halts_so

      -- its row is none of those that change a byte from slow, nor of those who look after it or kick it
      rows_off : (d' : Pc) → c ≡ d' → tells (Some d') ≡ false → u ≢ w
      rows_off d' i t e =
          let q : c ≡ k = (was_acting a hs ok on b w f live inner inv c at ch u g k lu pk e).1 in
          let z = halts_tells k (a.node (node_of g.me)).flag halts_so in
          let y : tells (Some k) ≡ tells (Some d') = ap (λ (x : Pc). tells (Some x)) (sym q ∙ i) in
          cc (z, y, t)

      abbrev Awaited : Type 0
      Awaited = IsAwaited b g.lock k u.cpu

      slow_now : (st.word g.lock).locked ≡ Slow → Awaited
      slow_now e = inl (ap (λ (x : Fields). x.locked) (ch.words g.lock) ∙ e)

      -- a head that took the lock as slow is the first, too
      at_E8 : c ≡ E8 → (a.word g.lock).locked ≡ Slow → Awaited
      at_E8 i e = elim (lock_cases g.lock f.lock) [
        | inl same ↦
            let mine : slice_get (hs f.lock).main 0 ≡ Some w = front a hs ok on w f E8 live (at ∙ ap Some i) refl in
            let z : u ≡ w =
            one_first a hs ok on f.lock u w (subst (λ (n : LockName). slice_get (hs n).main 0 ≡ Some u) same first) mine in
            absurd (rows_off E8 i refl z)
        | inr off ↦
            slow_now (ap (λ (x : Pc). ((stored_in a w f x (target x f)).word g.lock).locked) i
            ∙ ap (λ (x : Fields). x.locked) (elsewhere_word a w f (Some (with_byte (a.word f.lock) Held)) g.lock off) ∙ e)
      ]

      -- a release that kicks
      at_U4 : c ≡ U4 → (a.word g.lock).locked ≡ Slow → Awaited
      at_U4 i e = elim (lock_cases g.lock f.lock) [
        | inl same ↦
            let n = named_front_is_used a hs w f U4 ok live (at ∙ ap Some i) refl in
            let z : n.0 ≡ u =
            one_first a hs ok on f.lock n.0 u n.3 (subst (λ (y : LockName). slice_get (hs y).main 0 ≡ Some u) same first) in
            let here : d ≡ next_frame a w f U4 = ap (next_frame a w f) i in
            inr (inr (inr (record {
              by = w;
              frame = d;
              live = goes_at a hs ok on b w f live inner inv c at ch U5 (ap (λ (h : Frame). h.place) here);
              at = ap (λ (h : Frame). h.place) here;
              lock = ap (λ (h : Frame). h.lock) here ∙ sym same;
              target = ap (λ (h : Frame). (node_of h.target).cpu) here ∙ n.2.cpu ∙ ap (λ (x : Waiter). x.cpu) z;
            })))
        | inr off ↦
            slow_now (ap (λ (x : Pc). ((stored_in a w f x (target x f)).word g.lock).locked) i
            ∙ ap (λ (x : Fields). x.locked)
            (elsewhere_word a w f (Some (with_byte (a.word f.lock) Rattle.lk_word.specs.declared.spin_word.Locked.TheVariants.Free)) g.lock off) ∙ e)
      ]

      -- a holder that looks after the head
      at_K : (z : IsLookedAfter a g.lock k) → f ≡ z.frame → c ≡ z.place → Awaited
      at_K z i j = elim (looks_cases k z.place z.looks).1 [
        | inl e ↦ by_K1 (j ∙ e)
        | inr e ↦ by_K2 (j ∙ e)
      ]
        where
          at_W6 : k ≡ W6
          at_W6 = (looks_cases k z.place z.looks).0

          same : f.lock ≡ g.lock
          same = ap (λ (h : Frame). h.lock) i ∙ z.lock

          by_K2 : c ≡ K2 → Awaited
          by_K2 e =
              slow_now (ap (λ (x : Pc). ((stored_in a w f x (target x f)).word g.lock).locked) e
              ∙ ap (λ (y : LockName). ((stored_in a w f K2 (target K2 f)).word y).locked) (sym same)
              ∙ ap (λ (x : Fields). x.locked) (here_word a w f (with_byte (a.word f.lock) Slow)))

          by_K1 : c ≡ K1 → Awaited
          by_K1 e =
              let n = named_front_is_used a hs w f K1 ok live (at ∙ ap Some e) refl in
              let y : n.0 ≡ u =
              one_first a hs ok on g.lock n.0 u (subst (λ (y : LockName). slice_get (hs y).main 0 ≡ Some n.0) same n.3) first in
              let own_y : s.own u ≡ node_of f.y =
              ap s.own (sym y) ∙ Rattle.lk_law.proofs.common.Users.used_own ok n.0 (node_of f.y) n.1 in
              let dozing : dozes (s.post g.lock u) ≡ true =
              ap dozes (posted a hs ok on u g k lu pk ∙ ap (λ (x : Pc). post_at x g) at_W6) in
              let calling : calls (s.post g.lock w) ≡ true =
              ap (λ (n : LockName). calls (s.post n w)) (sym same) ∙ ap calls (posted a hs ok on w f K1 live (at ∙ ap Some e)) in
              let asleep : (a.node (node_of f.y)).state ≡ state.Halted =
              ap (λ (n : NodeName). (a.node n).state) (sym own_y) ∙ (para g.lock).posts.called u w first calling dozing in
              let here : d.place ≡ Some K2 =
              ap (λ (x : Pc). (next_frame a w f x).place) e
              ∙ ap (λ (x : State). (led f (Rattle.lk_rows.specs.rows.Pv.state_row a.turns K1 f x).leads).place) asleep in
              let lock : d.lock ≡ f.lock =
              ap (λ (x : Pc). (next_frame a w f x).lock) e
              ∙ ap (λ (x : State). (led f (Rattle.lk_rows.specs.rows.Pv.state_row a.turns K1 f x).leads).lock) asleep in
              inr (inl (record {
                by = w;
                frame = d;
                place = K2;
                live = goes_at a hs ok on b w f live inner inv c at ch K2 here;
                at = here;
                lock = lock ∙ same;
                looks = ap (λ (x : Pc). looks_after x K2) at_W6;
              }))

      -- what ended its wait ends it still
      awaited_on : IsAwaited a g.lock k u.cpu → Awaited
      awaited_on (inl e) = elim (slow_rows c) [
        | inl i ↦ at_E8 i e
        | inr r ↦ elim r [
          | inl i ↦ at_U4 i e
          | inr n ↦ slow_now (bytes_kept a w f c (waking a hs ok on w f c live at) n.0 n.1 g.lock e)
        ]
      ]
      awaited_on (inr (inl z)) = elim (waiter_cases z.by w) [
        | inl e ↦
            let q = was_acting a hs ok on b w f live inner inv c at ch z.by z.frame z.place z.live z.at e in at_K z q.0 q.1
        | inr ne ↦ inr (inl (looked_after g.lock k z ne))
      ]
      awaited_on (inr (inr (inl e))) =
          inr (inr (inl (ch.kicked u.cpu ∙ kicks_stay a w f c (target c f) u.cpu e)))
      awaited_on (inr (inr (inr z))) = elim (waiter_cases z.by w) [
        | inl e ↦
            let q = was_acting a hs ok on b w f live inner inv c at ch z.by z.frame U5 z.live z.at e in
            let cpu : (node_of f.target).cpu ≡ u.cpu = ap (λ (h : Frame). (node_of h.target).cpu) q.0 ∙ z.target in
            inr (inr (inl (ch.kicked u.cpu
            ∙ ap (λ (x : Pc). (stored_in a w f x (target x f)).kicked u.cpu) q.1
            ∙ ap (λ (p : ℕ). (stored_in a w f U5 (target U5 f)).kicked p) (sym cpu) ∙ kick_made a w f)))
        | inr ne ↦ inr (inr (inr (owes_still g.lock u.cpu z ne)))
      ]

    -- the handoff to a waiter that halts: its holder looks after it
    handed : (u : Waiter) (g : Frame) → u ≢ w → a.frame u ≡ Some g → g.place ≡ Some W6 → c ≡ E15
        → node_of g.me ≡ node_of f.y → IsAwaited b g.lock W6 u.cpu
    handed u g ne lu pk i n =
        let t = halting_next_is_used a hs w f ok live (at ∙ ap Some i) in
        let some : is_some g.me ≡ true =
        (ok.registers u g lu).me (ap (λ (o : Option Pc). has_node (phase_if o (is_some g.me) (node_of g.prev) (node_of g.y))) pk) in
        let uses : Uses a u (node_of f.y) = (g, lu, subst (λ (x : NodeName). is_node g.me x ≡ true) n (is_node-own g.me some)) in
        let same : t.0 ≡ u = (node_is_ones a hs t.0 u (node_of f.y) ok t.1 uses).0 in
        let second : slice_get (hs f.lock).main 1 ≡ Some u = t.3 ∙ ap Some same in
        let lists = (agrees f.lock).lists in
        let behind = ((lists.flat (Rattle.lk_law.proofs.pv.Laws.halts_flat a.mode on)).queue.ends.behind 0 u second).0 in
        let p = busy_at a f.lock u (follows_busy (s.phase f.lock u) behind) in
        let q = same_frame a hs ok on u p.frame g p.live lu in
        let here : d ≡ next_frame a w f E15 = ap (next_frame a w f) i in
        inr (inl (record {
          by = w;
          frame = d;
          place = K1;
          live = goes_at a hs ok on b w f live inner inv c at ch K1 (ap (λ (h : Frame). h.place) here);
          at = ap (λ (h : Frame). h.place) here;
          lock = ap (λ (h : Frame). h.lock) here ∙ sym p.lock ∙ ap (λ (h : Frame). h.lock) q;
          looks = refl;
        }))

    -- another waiter
    others_awaited : (u : Waiter) (g : Frame) (k : Pc) → u ≢ w → a.frame u ≡ Some g → g.place ≡ Some k
        → halts_as_head k (b.node (node_of g.me)).flag ≡ true → IsAwaited b g.lock k u.cpu
    others_awaited u g k ne lu pk h = by k pk h
      where
        normal : (k : Pc) → g.place ≡ Some k → halts_as_head k (a.node (node_of g.me)).flag ≡ true
            → IsAwaited b g.lock k u.cpu
        normal k pk z = awaited_on u g k lu pk z (inv.awaited u g k lu pk z)

        by : (k : Pc) → g.place ≡ Some k → halts_as_head k (b.node (node_of g.me)).flag ≡ true
            → IsAwaited b g.lock k u.cpu
        by E12 pk h = normal E12 pk refl
        by W6 pk h = elim (handoff c) [
          | inl i ↦
              elim (flags_handed a w f (node_of g.me)
              (ap (λ (x : Pc). is_set ((stored_in a w f x (target x f)).node (node_of g.me)).flag) (sym i) ∙ ch.flags (node_of g.me) h)) [
                | inl z ↦ normal W6 pk z
                | inr n ↦ handed u g ne lu pk i n
              ]
          | inr off ↦
              normal W6 pk (ap is_set (sym (flags_stay a w f c (waking a hs ok on w f c live at) off (node_of g.me))) ∙ ch.flags (node_of g.me) h)
        ]
        by k pk h = cc h

    -- a head that looks for its successor does not halt
    to_E13 : (t : Bool) → at_halting (led f (out f (a.word f.lock) t).leads).place ≡ false
    to_E13 true = after_out f inner
    to_E13 false = refl

    to_E14 : (o : Option NodeName) → at_halting (led f (pv_after_next o).leads).place ≡ false
    to_E14 None = refl
    to_E14 (Some n) = refl

    own_awaited : (c' : Pc) → c ≡ c' → (k : Pc) → (next_frame a w f c').place ≡ Some k
        → halts_as_head k (b.node (node_of (next_frame a w f c').me)).flag ≡ true
        → IsAwaited b (next_frame a w f c').lock k w.cpu
    own_awaited W5 i k e h = by (is_halted (a.node (node_of f.me)).state) refl e
      where
        -- its flag was set before: a holder is about to look after it
        halted_here : is_halted (a.node (node_of f.me)).state ≡ true → is_set (a.node (node_of f.me)).flag ≡ true
            → IsAwaited b f.lock W6 w.cpu
        halted_here q z =
            let first = front a hs ok on w f W5 live (at ∙ ap Some i) (set_leads (a.node (node_of f.me)).flag z) in
            let dozing : s.post f.lock w ≡ Dozes = posted a hs ok on w f W5 live (at ∙ ap Some i) in
            let asleep : (a.node (own_in (a.frame w))).state ≡ state.Halted =
            ap (λ (n : NodeName). (a.node n).state) (ap own_in live) ∙ halted_is (a.node (node_of f.me)).state q in
            let u = (para f.lock).posts.dozed w first dozing asleep in
            let p = posted_at a f.lock u.0 (calls_busy (s.post f.lock u.0) u.1) in
            let row : p.place ≡ K1 = calls_row p.place p.frame (ap calls (sym p.shows) ∙ u.1) in
            let ne : u.0 ≢ w = (λ x. let y = (was_acting a hs ok on b w f live inner inv c at ch u.0 p.frame p.place p.live p.at x).1 in
            let z : W5 ≡ K1 = sym i ∙ y ∙ row in cc z) in
            inr (inl (record {
              by = u.0;
              frame = p.frame;
              place = p.place;
              live = ch.others u.0 ne ∙ p.live;
              at = p.at;
              lock = p.lock;
              looks = ap (looks_after W6) row;
            }))

        flag_was : is_set (b.node (node_of f.me)).flag ≡ true → is_set (a.node (node_of f.me)).flag ≡ true
        flag_was z = ap is_set (sym (flags_stay a w f W5 refl (λ x. cc x) (node_of f.me)))
            ∙ ap (λ (x : Pc). is_set ((stored_in a w f x (target x f)).node (node_of f.me)).flag) (sym i)
            ∙ ch.flags (node_of f.me) z

        by : (t : Bool) → is_halted (a.node (node_of f.me)).state ≡ t → Some (if t then W6 else W7) ≡ Some k
            → IsAwaited b f.lock k w.cpu
        by true q z =
            let y : W6 ≡ k = cc z in
            subst (λ (x : Pc). IsAwaited b f.lock x w.cpu) y
            (halted_here q (flag_was (ap (λ (x : Pc). halts_as_head x (b.node (node_of f.me)).flag) y ∙ h)))
        by false q z =
            let y : W7 ≡ k = cc z in
            absurd (let x : halts_as_head W7 (b.node (node_of f.me)).flag ≡ true =
            ap (λ (x : Pc). halts_as_head x (b.node (node_of f.me)).flag) y ∙ h in cc x)
    own_awaited W6 i k e h =
        let y : W6 ≡ k = (let z : Some W6 ≡ Some k = e in cc z) in
        let z : halts_as_head W6 (b.node (node_of f.me)).flag ≡ true =
        ap (λ (x : Pc). halts_as_head x (b.node (node_of f.me)).flag) y ∙ h in
        let was : is_set (a.node (node_of f.me)).flag ≡ true =
        ap (λ (x : Pc). is_set ((stored_in a w f x (target x f)).node (node_of f.me)).flag) (sym i) ∙ ch.flags (node_of f.me) z in
        subst (λ (x : Pc). IsAwaited b f.lock x w.cpu) y
        (awaited_on w f W6 live (at ∙ ap Some i) was (inv.awaited w f W6 live (at ∙ ap Some i) was))
    own_awaited E11 i k e h = by (is_slow_byte (a.word f.lock).locked) refl e
      where
        by : (t : Bool) → is_slow_byte (a.word f.lock).locked ≡ t → Some (if t then E12 else E2) ≡ Some k
            → IsAwaited b f.lock k w.cpu
        by true q z =
            inl (ap (λ (x : Fields). x.locked) (ch.words f.lock)
            ∙ ap (λ (x : Pc). ((stored_in a w f x (target x f)).word f.lock).locked) i
            ∙ slow_is (a.word f.lock).locked q)
        by false q z =
            let y : E2 ≡ k = cc z in
            absurd (let x : halts_as_head E2 (b.node (node_of f.me)).flag ≡ true =
            ap (λ (x : Pc). halts_as_head x (b.node (node_of f.me)).flag) y ∙ h in cc x)
    own_awaited E12 i k e h =
        let y : E12 ≡ k = (let z : Some E12 ≡ Some k = e in cc z) in
        subst (λ (x : Pc). IsAwaited b f.lock x w.cpu) y
        (awaited_on w f E12 live (at ∙ ap Some i) refl (inv.awaited w f E12 live (at ∙ ap Some i) refl))
    own_awaited E13 i k e h =
        absurd (halts_no (next_frame a w f E13).place k e (b.node (node_of (next_frame a w f E13).me)).flag h (to_E13 (is_last f (a.word f.lock))))
    own_awaited E14 i k e h =
        absurd (halts_no (next_frame a w f E14).place k e (b.node (node_of (next_frame a w f E14).me)).flag h
        (to_E14 (a.node (node_of f.me)).next))
    own_awaited c' i k e h =
        absurd (mute_not (next_frame a w f c').place k
        (mute a w f inner c' (waking a hs ok on w f c' live (at ∙ ap Some i)) refl) e
        (halts_tells k (b.node (node_of (next_frame a w f c').me)).flag h))

    pub still_awaited : (u : Waiter) (g : Frame) (k : Pc) → b.frame u ≡ Some g → g.place ≡ Some k
        → halts_as_head k (b.node (node_of g.me)).flag ≡ true → IsAwaited b g.lock k u.cpu
    still_awaited u g k lu pk h = elim (waiter_cases u w) [
      | inl e ↦
          let i = goes_told a hs ok on b w f live inner inv c at ch g k (ap b.frame (sym e) ∙ lu) pk (halts_tells k (b.node (node_of g.me)).flag h) in
          let z : IsAwaited b d.lock k w.cpu =
          own_awaited c refl k (ap (λ (x : Frame). x.place) i ∙ pk)
          (ap (λ (x : Frame). halts_as_head k (b.node (node_of x.me)).flag) i ∙ h) in
          subst (λ (x : Waiter). IsAwaited b g.lock k x.cpu) (sym e) (subst (λ (x : Frame). IsAwaited b x.lock k w.cpu) i z)
      | inr ne ↦ others_awaited u g k ne (sym (ch.others u ne) ∙ lu) pk h
    ]

    pub still_served : IsHeadServed b
    still_served = record { followed = still_followed a hs ok on b w f live inner inv c at ch; awaited = still_awaited }

-- so a row keeps it
pub row_keeps_served : (c : Pc) → RowKeepsServed c
row_keeps_served c m hs w f ok on live at inner inv =
    still_served m hs ok on (row_in m w f c).0 w f live inner inv c at (row_changed m w f c)
