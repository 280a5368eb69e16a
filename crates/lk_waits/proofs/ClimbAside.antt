-- The same where waiters are moved aside.
use Rattle.std.proofs.Common.{◌≡◌, ◌≢◌, ◌⊎◌, inl, inr, ℕ, zero, suc, ◌≤◌, ◌+◌, Option, Some, None}
use Rattle.std.proofs.Common.{Bool, true, false, refl, sym, ap, ◌∙◌, subst, arith, List, [], ◌∷◌}
use Rattle.std.proofs.Common.{slice_get, is_some, ◌&&◌, not}
use Rattle.lk_waits.proofs.Names.{cases_Bool, NodeName, get_cases, LockHistory, Spins, Rw, LockName}
use Rattle.lk_waits.proofs.Names.{Waiter, is_node, node_of, rw_name, Frame, Pc, C1, C3, C10, G6, G7}
use Rattle.lk_waits.proofs.Names.{N1, P3, R2, R5, V1, Wr5, Why, is_last, is_free, is_unlocked}
use Rattle.lk_waits.proofs.Names.{lists_front, row_knows, not-true, is_node-own, phase_on-here}
use Rattle.lk_waits.proofs.Names.{follows_cases, rw_row_knows, LockAgrees, halts, moves_aside}
use Rattle.lk_waits.proofs.Names.{chooses, may_halt, Phase, leads, pends, queues, Holds, Idle}
use Rattle.lk_waits.proofs.Names.{Links, own_in, phase_at, phase_if, phase_on, snapshot, Snapshot}
use Rattle.lk_waits.proofs.Names.{spins, IsSoundWorld, spin_part, IsSoundSpinWorld, World}
use Rattle.lk_waits.proofs.Names.{is_alone_row, HoldsOutside, IsRanked, IsTidy, IsTop, lock_at}
use Rattle.lk_waits.proofs.Names.{polls}
use Rattle.lk_law.proofs.{cna.Parts.{part_out, shown_flag}, common.Worlds.stage_on-here}
use Rattle.lk_law.specs.{Cna.{CnaAgrees, part, shown, front_cut}, Places.{stage_on, stage_if}}
use Rattle.lk_law.specs.{Registers.hands_plainly, Stage.cut_of}
use Rattle.lk_waits.proofs.Owning.{owns}
use Rattle.lk_waits.proofs.Polling.{has_cases, owns_busy, pends_busy, leads_busy, links_busy}
use Rattle.lk_waits.proofs.Polling.{pends_polls, links_polls, comes_polls, comes_spin, plain_lock}
use Rattle.lk_waits.proofs.Polling.{spins_is, unfree, locked_not, uncleared}
use Rattle.lk_waits.proofs.Stands.{still_polls, still_V1, still_N1, still_P3, still_G6, still_G7}
use Rattle.lk_waits.proofs.{Stands.{still_R2, still_R5, still_Wr5}, Tops.IsAt}
use Rattle.lk_waits.proofs.TurnRows.{IsTurn, owns_turn, leads_turn, barred_polls, stands}
use Rattle.lk_waits.proofs.TurnRows.{still_choice, turn_holds, last_is, Turning, still_C1}
use Rattle.lk_waits.proofs.Under.{Next, written, read, over, under, under_phase}
use Rattle.lk_waits.specs.{Aside.{IsFollowedAside, AtBayWaitForOutside}, Waits.IsAtBay}

module _ (level : LockName → ℕ) (bound : ℕ) (m : World) (hs : LockName → LockHistory)
    (ok : IsSoundWorld m hs) (awake : halts m.mode ≡ false) (plain : moves_aside m.mode ≡ true)
    (tidy : IsTidy m) (ranked : IsRanked level bound m) (followed : IsFollowedAside m) (bay : IsAtBay m) where
  abbrev spin : IsSoundSpinWorld m (spin_part m.kind hs)
  spin = ok.spins

  abbrev s : Snapshot
  s = snapshot m

  agrees : (l : LockName) → LockAgrees s (spin_part m.kind hs l) l
  agrees l = spin.agrees.locks l

  -- the newest frames: their rows neither halt nor choose, and they are polls
  unhalting : (u : Waiter) (g : Frame) (d : Pc) → IsTop m u g d → may_halt d ≡ false
  unhalting u g d top =
      not-true (may_halt d) (λ e. let z = (spin.registers u g top.live).choice.halting d top.place e in cc (z, awake))

  unplain : (u : Waiter) (g : Frame) (d : Pc) → IsTop m u g d → hands_plainly d ≡ false
  unplain u g d top =
      not-true (hands_plainly d) (λ e. let z = (spin.registers u g top.live).choice.plainly d top.place e in cc (z, plain))

  top_polls : (u : Waiter) (g : Frame) (d : Pc) → IsTop m u g d → polls d ≡ true
  top_polls u g d top = elim (bay u g d top) [
    | inr b ↦ barred_polls m g d b
    | inl s ↦ elim (cases_Bool (chooses d)) [
      | inl e ↦ ap polls (still_choice m u g (ok.fits u g top.live).after d e top.place s)
      | inr e ↦ still_polls m u g (ok.fits u g top.live).after d (unhalting u g d top) e top.place s
    ]
  ]

  meets_writer : (u : Waiter) (g : Frame) (d : Pc) → IsTop m u g d → (d ≡ R2) ⊎ (d ≡ R5) → (m.rw g.lock.index).writer ≡ true
  meets_writer u g d top (inl e) =
      let t = subst (IsTop m u g) e top in still_R2 m u g (ok.fits u g t.live).after t.place (stands (bay u g R2 t))
  meets_writer u g d top (inr e) =
      let t = subst (IsTop m u g) e top in still_R5 m u g (ok.fits u g t.live).after t.place (stands (bay u g R5 t))

  abbrev On : LockName → Type 0
  On l = Next level m (level l)

  works_on : (u : Waiter) (g : Frame) (d : Pc) (l : LockName) → m.frame u ≡ Some g → g.place ≡ Some d
      → lock_at d g ≡ l → (IsTop m u g d → On l) → On l
  works_on = under level bound m hs ok tidy ranked top_polls meets_writer

  works_in : (u : Waiter) (l : LockName) → s.phase l u ≢ Idle → ((a : IsAt m l u) → IsTop m u a.frame a.place → On l) → On l
  works_in = under_phase level bound m hs ok tidy ranked top_polls meets_writer

  writes : (i : ℕ) → m.kind i ≡ Rw → (m.rw i).writer ≡ true → On (rw_name i)
  writes = written level bound m hs ok tidy ranked top_polls meets_writer

  cna : (l : LockName) → CnaAgrees (m.word l).tail (s.phase l) s.own s.node s.local s.threshold (s.stage l) s.kept
      (spin_part m.kind hs l).main (spin_part m.kind hs l).second (spin_part m.kind hs l).passes
  cna l = (agrees l).lists.cna plain

  turns : (u : Waiter) (g : Frame) (d : Pc) → IsTop m u g d → IsTurn d → Turning m u g
  turns u g d top (inl e) = by (subst (IsTop m u g) e top)
    where
      by : IsTop m u g C1 → Turning m u g
      by t =
          let z : ((m.node (node_of g.me)).next ≡ None) × ((g.second ≡ None) ⊎ (is_last g (m.word g.lock) ≡ false)) =
          elim (bay u g C1 t) [
            | inl x ↦ (let y = still_C1 m u g (ok.fits u g t.live).after t.place x in (y.0, inl y.1))
            | inr x ↦ (x.0, x.1)
          ] in
          record {
            place = C1;
            at = t.place;
            bare = z.0;
            shut = z.1;
            alone = refl;
            held = ((row_knows C1 m (spin_part m.kind hs) u g spin t.live t.place).0 awake).0;
            cut = ap (λ (o : Option Pc). cut_of (s.own u) (stage_if o g)) t.place;
          }
  turns u g d top (inr (inl e)) = by (subst (IsTop m u g) e top)
    where
      by : IsTop m u g C3 → Turning m u g
      by t = elim (bay u g C3 t) [
        | inl x ↦ absurd (let z = still_choice m u g (ok.fits u g t.live).after C3 refl t.place x in cc z)
        | inr x ↦ record {
          place = C3;
          at = t.place;
          bare = x.0;
          shut = inr x.1;
          alone = ap (is_alone_row C3) x.2;
          held = ((row_knows C3 m (spin_part m.kind hs) u g spin t.live t.place).0 awake).0;
          cut = ap (λ (o : Option Pc). cut_of (s.own u) (stage_if o g)) t.place
              ∙ ap (λ (y : Why). cut_of (s.own u) (Rattle.lk_law.specs.Places.stage_why g y)) x.2;
        }
      ]
  turns u g d top (inr (inr e)) = by (subst (IsTop m u g) e top)
    where
      by : IsTop m u g C10 → Turning m u g
      by t = elim (bay u g C10 t) [
        | inl x ↦ absurd (let z = still_choice m u g (ok.fits u g t.live).after C10 refl t.place x in cc z)
        | inr x ↦ record {
          place = C10;
          at = t.place;
          bare = x.0;
          shut = inr x.1;
          alone = refl;
          held = ((row_knows C10 m (spin_part m.kind hs) u g spin t.live t.place).0 awake).0;
          cut = ap (λ (o : Option Pc). cut_of (s.own u) (stage_if o g)) t.place;
        }
      ]

  -- such a head has one that is about to link, or one that comes
  heads : (l : LockName) (u : Waiter) (g : Frame) → Turning m u g → m.frame u ≡ Some g → g.lock ≡ l
      → s.phase l u ≡ Holds → On l
  heads l u g t live lock holds =
      let c = cna l in
      let q = c.queue in
      let lead : leads (s.phase l u) ((m.node (s.own u)).flag) ≡ true = rw holds refl in
      let front = lists_front (agrees l).lists u lead in
      let own : s.own u ≡ node_of g.me = ap own_in live in
      let bare : (m.node (s.own u)).next ≡ None = ap (λ (n : NodeName). (m.node n).next) own ∙ t.bare in
      let whole : front_cut s.own (s.stage l) (slice_get (spin_part m.kind hs l).main 0) ≡ None =
      ap (front_cut s.own (s.stage l)) front
      ∙ ap (cut_of (s.own u)) (ap (stage_on l) live ∙ stage_on-here l g lock) ∙ t.cut in
      elim (get_cases (spin_part m.kind hs l).main 1) [
        | inl none ↦
            let tail : (m.word l).tail ≡ Some (s.own u) = q.ends.tail_is 0 u front none in
            let last : is_node (m.word g.lock).tail (node_of g.me) ≡ true =
            subst (λ (k : LockName). is_node (m.word k).tail (node_of g.me) ≡ true) (sym lock)
            (ap (λ (t : Option NodeName). is_node t (node_of g.me)) (tail ∙ ap Some own) ∙ is_node-own (Some (node_of g.me)) refl) in
            elim (followed u g t.place live t.at t.alone last) [
              | inl z ↦ absurd (unshut z.0 (last_is g (m.word g.lock) t.held z.1 last) t.shut)
              | inr c ↦
                  works_on c.by c.frame c.place l c.live c.at (plain_lock c.place c.frame (comes_spin c.place c.comes) ∙ c.lock ∙ lock)
                  (λ t. absurd (comes_polls c.place c.comes (top_polls c.by c.frame c.place t)))
            ]
        | inr v ↦ elim (follows_cases (part (spin_part m.kind hs l).second (s.phase l) v.0) (q.ends.behind 0 v.0 v.1).0) [
          | inl n ↦
              let o = part_out (spin_part m.kind hs l).second (s.phase l) v.0 (q.members.inside 1 v.0 v.1) in
              let r : s.phase l v.0 ≡ Links n.0 = sym o.0 ∙ n.1 in works_in v.0 l (links_busy (s.phase l v.0) n.0 r)
              (λ a t. absurd (links_polls a.place (is_some a.frame.me) (node_of a.frame.prev) (node_of a.frame.y) n.0
              (sym a.shows ∙ r) (top_polls v.0 a.frame a.place t)))
          | inr w ↦
              let z = q.links.linked 0 u v.0 front v.1 w in
              let y : (m.node (s.own u)).next ≡ Some (s.own v.0) =
              sym (ap (λ (c : Option (NodeName × NodeName)). (shown c s.node (s.own u)).next) whole) ∙ z in
              absurd (let k : None ≡ Some (s.own v.0) = sym bare ∙ y in cc k)
        ]
      ]
    where
      unshut : is_some g.second ≡ true → is_last g (m.word g.lock) ≡ true
          → ((g.second ≡ None) ⊎ (is_last g (m.word g.lock) ≡ false)) → ⊥
      unshut a b (inl e) = (let z = ap is_some e in cc (z, a))
      unshut a b (inr e) = cc (b, e)

  -- who has the lock by its phase
  owning : (l : LockName) (u : Waiter) → owns (s.phase l u) ≡ true → On l
  owning l u o =
      works_in u l (owns_busy (s.phase l u) o)
      (λ a t.
      let d = owns_turn a.place (is_some a.frame.me) (node_of a.frame.prev) (node_of a.frame.y)
      (ap owns (sym a.shows) ∙ o) (top_polls u a.frame a.place t) (unhalting u a.frame a.place t)
      (unplain u a.frame a.place t) in
      heads l u a.frame (turns u a.frame a.place t d) a.live a.lock
      (a.shows ∙ turn_holds a.place (is_some a.frame.me) (node_of a.frame.prev) (node_of a.frame.y) d))

  -- a byte that is taken
  taken : (l : LockName) → is_unlocked (m.word l).locked ≡ false → On l
  taken l h = by (agrees l).holder refl
    where
      by : (o : Option Waiter) → (agrees l).holder ≡ o → On l
      by None e = absurd (locked_not (m.word l).locked h ((agrees l).hold.taken e))
      by (Some u) e = elim (has_cases (s.phase l u) (spins (m.held u l)) ((agrees l).hold.had u e)) [
        | inl o ↦ owning l u o
        | inr has ↦ over level bound m hs ok tidy ranked top_polls meets_writer u l Spins (spins_is (m.held u l) has)
      ]

  -- pending that is set
  pending : (l : LockName) → (m.word l).pending ≡ true → On l
  pending l h =
      let u = (agrees l).pend.someone h in
      works_in u.0 l (pends_busy (s.phase l u.0) u.1)
      (λ a t.
      let d = pends_polls a.place (is_some a.frame.me) (node_of a.frame.prev) (node_of a.frame.y)
      (ap pends (sym a.shows) ∙ u.1) (top_polls u.0 a.frame a.place t) (unhalting u.0 a.frame a.place t) in
      let at : IsTop m u.0 a.frame P3 = subst (IsTop m u.0 a.frame) d t in
      taken l (subst (λ (k : LockName). is_unlocked (m.word k).locked ≡ false) a.lock
      (still_P3 m u.0 a.frame (ok.fits u.0 a.frame at.live).after at.place (stands (bay u.0 a.frame P3 at)))))

  closed : (l : LockName) → is_unlocked (m.word l).locked && not (m.word l).pending ≡ false → On l
  closed l h = by (is_unlocked (m.word l).locked) refl (m.word l).pending refl
    where
      by : (a : Bool) → is_unlocked (m.word l).locked ≡ a → (p : Bool) → (m.word l).pending ≡ p → On l
      by false e p q = taken l e
      by true e true q = pending l q
      by true e false q =
          absurd (let z : is_unlocked (m.word l).locked && not (m.word l).pending ≡ true = rw (e, q) refl in cc (z, h))

  -- the first of the queue
  front : (l : LockName) (u : Waiter) → slice_get (spin_part m.kind hs l).main 0 ≡ Some u → On l
  front l u at_front =
      let q = (cna l).queue in
      let o = part_out (spin_part m.kind hs l).second (s.phase l) u (q.members.inside 0 u at_front) in
      let f = shown_flag (front_cut s.own (s.stage l) (slice_get (spin_part m.kind hs l).main 0)) s.node (s.own u) in
      let lead : leads (s.phase l u) ((m.node (s.own u)).flag) ≡ true =
      (λ i. leads (sym o.0 i) (sym f i)) ∙ q.ends.first u at_front in
      works_in u l (leads_busy (s.phase l u) ((m.node (s.own u)).flag) lead)
      (λ a t.
      let own : s.own u ≡ node_of a.frame.me = ap own_in a.live in
      elim (leads_turn a.place (is_some a.frame.me) (node_of a.frame.prev) (node_of a.frame.y)
      ((m.node (s.own u)).flag) (ap (λ (r : Phase). leads r ((m.node (s.own u)).flag)) (sym a.shows) ∙ lead)
      (top_polls u a.frame a.place t) (unhalting u a.frame a.place t) (unplain u a.frame a.place t)) [
        | inl z ↦
            let top : IsTop m u a.frame G6 = subst (IsTop m u a.frame) z.0 t in
            absurd (z.1 (ap (λ (n : NodeName). (m.node n).flag) own
            ∙ still_G6 m u a.frame (ok.fits u a.frame top.live).after top.place (stands (bay u a.frame G6 top))))
        | inr r ↦ elim r [
          | inl z ↦
              let top : IsTop m u a.frame G7 = subst (IsTop m u a.frame) z t in
              closed l (subst (λ (k : LockName). is_unlocked (m.word k).locked && not (m.word k).pending ≡ false) a.lock
              (still_G7 m u a.frame (ok.fits u a.frame top.live).after top.place (stands (bay u a.frame G7 top))))
          | inr z ↦ heads l u a.frame (turns u a.frame a.place t z) a.live a.lock
              (a.shows ∙ turn_holds a.place (is_some a.frame.me) (node_of a.frame.prev) (node_of a.frame.y) z)
        ]
      ])

  -- somebody waits in one of the queues
  queued : (l : LockName) (w : Waiter) → queues (s.phase l w) ≡ true → On l
  queued l w h = elim (get_cases (spin_part m.kind hs l).main 0) [
    | inr u ↦ front l u.0 u.1
    | inl none ↦
        let second : (spin_part m.kind hs l).second ≡ [] = (cna l).empty none in
        let shown_so : part (spin_part m.kind hs l).second (s.phase l) w ≡ s.phase l w =
        ap (λ (us : List Waiter). part us (s.phase l) w) second in
        let p = (cna l).queue.members.place w (ap queues shown_so ∙ h) in
        absurd (let z = empty (spin_part m.kind hs l).main none p.0 in (let y : None ≡ Some w = sym z ∙ p.1 in cc y))
  ]
    where
      empty : (us : List Waiter) → slice_get us 0 ≡ None → (i : ℕ) → slice_get us i ≡ None
      empty [] h i = refl
      empty (u ∷ us) h i = cc h

  tailed : (l : LockName) (n : NodeName) → (m.word l).tail ≡ Some n → On l
  tailed l n h = elim (get_cases (spin_part m.kind hs l).main 0) [
    | inl none ↦ absurd (let z = (cna l).queue.ends.no_tail none in cc (z, h))
    | inr u ↦ front l u.0 u.1
  ]

  unfreed : (l : LockName) → is_free (m.word l) ≡ false → On l
  unfreed l h = elim (unfree (m.word l) h) [
    | inl e ↦ taken l e
    | inr r ↦ elim r [ inl e ↦ pending l e | inr t ↦ tailed l t.0 t.1 ]
  ]

  shown_at : (w : Waiter) (f : Frame) (c : Pc) → IsTop m w f c
      → s.phase f.lock w ≡ phase_at c (is_some f.me) (node_of f.prev) (node_of f.y)
  shown_at w f c top = ap (phase_on f.lock) top.live ∙ phase_on-here f.lock f refl
      ∙ ap (λ (d : Option Pc). phase_if d (is_some f.me) (node_of f.prev) (node_of f.y)) top.place

  -- whoever polls, waits for one at a higher level
  climb : (w : Waiter) (f : Frame) (c : Pc) → IsTop m w f c → polls c ≡ true → may_halt c ≡ false → hands_plainly c ≡ false
      → On (lock_at c f)
  climb w f V1 top p a k = unfreed f.lock (still_V1 m w f (ok.fits w f top.live).after top.place (stands (bay w f V1 top)))
  climb w f N1 top p a k = unfreed f.lock (still_N1 m w f (ok.fits w f top.live).after top.place (stands (bay w f N1 top)))
  climb w f P3 top p a k = taken f.lock (still_P3 m w f (ok.fits w f top.live).after top.place (stands (bay w f P3 top)))
  climb w f G7 top p a k = closed f.lock (still_G7 m w f (ok.fits w f top.live).after top.place (stands (bay w f G7 top)))
  climb w f G6 top p a k = queued f.lock w (ap queues (shown_at w f G6 top))
  climb w f C1 top p a k = owning f.lock w (ap owns (shown_at w f C1 top))
  climb w f C3 top p a k = owning f.lock w (ap owns (shown_at w f C3 top))
  climb w f C10 top p a k = owning f.lock w (ap owns (shown_at w f C10 top))
  climb w f R2 top p a k =
      writes f.lock.index ((ok.fits w f top.live).rw R2 top.place refl)
      (meets_writer w f R2 top (inl refl))
  climb w f R5 top p a k =
      writes f.lock.index ((ok.fits w f top.live).rw R5 top.place refl)
      (meets_writer w f R5 top (inr refl))
  climb w f Wr5 top p a k =
      let is = (ok.fits w f top.live).rw Wr5 top.place refl in
      let known = (rw_row_knows Wr5 m hs w f ok top.live top.place refl).1 in
      elim (uncleared (m.rw f.lock.index) (still_Wr5 m w f (ok.fits w f top.live).after top.place (stands (bay w f Wr5 top))) known) [
        | inl e ↦ read level bound m hs ok tidy ranked top_polls meets_writer f.lock.index is e
        | inr e ↦ writes f.lock.index is e
      ]
  climb w f _ top p a k = cc (p, a, k)

  -- so nobody polls, unless a lock is held outside
  ends : (n : ℕ) (w : Waiter) (f : Frame) (c : Pc) → IsTop m w f c → bound ≤ level (lock_at c f) + n → HoldsOutside m
  ends zero w f c top le = absurd (let b = ranked.below (lock_at c f) in omega (arith, b, le))
  ends (suc n) w f c top le =
      go (climb w f c top (top_polls w f c top) (unhalting w f c top) (unplain w f c top))
      (λ k g d at more. ends n k g d at more)
    where
      go : On (lock_at c f)
          → ((k : Waiter) (g : Frame) (d : Pc) → IsTop m k g d → bound ≤ level (lock_at d g) + n → HoldsOutside m)
          → HoldsOutside m
      go (inr out) on = out
      go (inl h) on = let more = h.more in on h.by h.frame h.place h.top (omega (arith, more, le))

pub at_bay_wait_for_outside : AtBayWaitForOutside
at_bay_wait_for_outside level bound m hs ok awake plain tidy ranked followed bay w f c top =
    ends level bound m hs ok awake plain tidy ranked followed bay bound w f c top (omega arith)
