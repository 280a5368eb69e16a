-- Whoever polls for a lock waits for another that polls for a lock of a higher level.
use Rattle.std.proofs.Common.{◌≡◌, ◌≢◌, ◌⊎◌, inl, inr, ℕ, zero, suc, ◌≤◌, ◌+◌, Option, Some, None}
use Rattle.std.proofs.Common.{Bool, true, false, refl, sym, ap, ◌∙◌, subst, arith, List, [], ◌∷◌}
use Rattle.std.proofs.Common.{slice_get, is_some, ◌&&◌, not}
use Rattle.lk_waits.proofs.Names.{NodeName, get_cases, LockHistory, Spins, Rw, LockName, Waiter}
use Rattle.lk_waits.proofs.Names.{is_node, node_of, rw_name, Frame, Pc, G6, G7, G10, N1, P3, R2, R5}
use Rattle.lk_waits.proofs.Names.{V1, Wr5, is_free, is_unlocked, not-true, is_node-own}
use Rattle.lk_waits.proofs.Names.{phase_on-here, follows_cases, rw_row_knows, LockAgrees, halts}
use Rattle.lk_waits.proofs.Names.{moves_aside, chooses, may_halt, Phase, leads, pends, queues}
use Rattle.lk_waits.proofs.Names.{Holds, Idle, own_in, phase_at, phase_if, phase_on, snapshot}
use Rattle.lk_waits.proofs.Names.{Snapshot, spins, IsSoundWorld, spin_part, IsSoundSpinWorld, World}
use Rattle.lk_waits.proofs.Names.{HoldsOutside, IsRanked, IsTidy, IsTop, lock_at, polls}
use Rattle.lk_law.proofs.queue.Lead.{lead_first}
use Rattle.lk_law.specs.Cna.{FlatAgrees}
use Rattle.lk_waits.proofs.Owning.{owns}
use Rattle.lk_waits.proofs.Polling.{has_cases, owns_busy, pends_busy, leads_busy, links_busy}
use Rattle.lk_waits.proofs.Polling.{owns_polls, pends_polls, links_polls, comes_polls, comes_spin}
use Rattle.lk_waits.proofs.Polling.{plain_lock, leads_polls, spins_is, unfree, locked_not}
use Rattle.lk_waits.proofs.Polling.{uncleared}
use Rattle.lk_waits.proofs.Stands.{still_polls, still_V1, still_N1, still_P3, still_G6, still_G7}
use Rattle.lk_waits.proofs.{Stands.{still_G10, still_R2, still_R5, still_Wr5}, Tops.IsAt}
use Rattle.lk_waits.proofs.Under.{Next, written, read, over, under, under_phase}
use Rattle.lk_waits.specs.{Order.{IsFollowed, NoDeadlock, StuckWaitForOutside}, Waits.IsStuck}

module _ (level : LockName → ℕ) (bound : ℕ) (m : World) (hs : LockName → LockHistory)
    (ok : IsSoundWorld m hs) (awake : halts m.mode ≡ false) (plain : moves_aside m.mode ≡ false)
    (tidy : IsTidy m) (ranked : IsRanked level bound m) (followed : IsFollowed m) (stuck : IsStuck m) where
  abbrev spin : IsSoundSpinWorld m (spin_part m.kind hs)
  spin = ok.spins

  abbrev s : Snapshot
  s = snapshot m

  agrees : (l : LockName) → LockAgrees s (spin_part m.kind hs l) l
  agrees l = spin.agrees.locks l

  -- the newest frames: their rows neither halt nor choose, and they are polls
  unhalting : (u : Waiter) (g : Frame) (d : Pc) → IsTop m u g d → may_halt d ≡ false
  unhalting u g d top =
      not-true (may_halt d) (λ e. let z = (spin.registers u g top.live).choice.halting d top.place e in cc (z, awake))

  unchoosing : (u : Waiter) (g : Frame) (d : Pc) → IsTop m u g d → chooses d ≡ false
  unchoosing u g d top =
      not-true (chooses d) (λ e. let z = (spin.registers u g top.live).choice.choice d top.place e in cc (z, plain))

  top_polls : (u : Waiter) (g : Frame) (d : Pc) → IsTop m u g d → polls d ≡ true
  top_polls u g d top =
      still_polls m u g (ok.fits u g top.live).after d (unhalting u g d top) (unchoosing u g d top) top.place
      (stuck u g d top)

  meets_writer : (u : Waiter) (g : Frame) (d : Pc) → IsTop m u g d → (d ≡ R2) ⊎ (d ≡ R5) → (m.rw g.lock.index).writer ≡ true
  meets_writer u g d top (inl e) =
      let t = subst (IsTop m u g) e top in still_R2 m u g (ok.fits u g t.live).after t.place (stuck u g R2 t)
  meets_writer u g d top (inr e) =
      let t = subst (IsTop m u g) e top in still_R5 m u g (ok.fits u g t.live).after t.place (stuck u g R5 t)

  abbrev On : LockName → Type 0
  On l = Next level m (level l)

  works_on : (u : Waiter) (g : Frame) (d : Pc) (l : LockName) → m.frame u ≡ Some g → g.place ≡ Some d
      → lock_at d g ≡ l → (IsTop m u g d → On l) → On l
  works_on = under level bound m hs ok tidy ranked top_polls meets_writer

  works_in : (u : Waiter) (l : LockName) → s.phase l u ≢ Idle → ((a : IsAt m l u) → IsTop m u a.frame a.place → On l) → On l
  works_in = under_phase level bound m hs ok tidy ranked top_polls meets_writer

  writes : (i : ℕ) → m.kind i ≡ Rw → (m.rw i).writer ≡ true → On (rw_name i)
  writes = written level bound m hs ok tidy ranked top_polls meets_writer

  own_is : (u : Waiter) (g : Frame) → m.frame u ≡ Some g → s.own u ≡ node_of g.me
  own_is u g live = ap own_in live

  flat : (l : LockName) → FlatAgrees (m.word l).tail (s.phase l) s.own s.node (spin_part m.kind hs l).main
      (spin_part m.kind hs l).second (spin_part m.kind hs l).passes
  flat l = (agrees l).lists.flat plain

  -- a head that looks for the next has one that is about to link, or one that comes
  heads : (l : LockName) (u : Waiter) (g : Frame) → IsTop m u g G10 → g.lock ≡ l → s.phase l u ≡ Holds
      → On l
  heads l u g top lock holds =
      let q = (flat l).queue in
      let lead : leads (s.phase l u) ((m.node (s.own u)).flag) ≡ true = rw holds refl in
      let front = lead_first q u lead in
      let own = own_is u g top.live in
      let bare : (m.node (s.own u)).next ≡ None =
      ap (λ (n : NodeName). (m.node n).next) own ∙ still_G10 m u g (ok.fits u g top.live).after top.place (stuck u g G10 top) in
      elim (get_cases (spin_part m.kind hs l).main 1) [
        | inl none ↦
            let tail : (m.word l).tail ≡ Some (s.own u) = q.ends.tail_is 0 u front none in
            let last : is_node (m.word g.lock).tail (node_of g.me) ≡ true =
            subst (λ (k : LockName). is_node (m.word k).tail (node_of g.me) ≡ true) (sym lock)
            (ap (λ (t : Option NodeName). is_node t (node_of g.me)) (tail ∙ ap Some own) ∙ same g.me) in
            let c = followed u g G10 top.live top.place refl last in
            works_on c.by c.frame c.place l c.live c.at (plain_lock c.place c.frame (comes_spin c.place c.comes) ∙ c.lock ∙ lock)
            (λ t. absurd (comes_polls c.place c.comes (top_polls c.by c.frame c.place t)))
        | inr v ↦ elim (follows_cases (s.phase l v.0) (q.ends.behind 0 v.0 v.1).0) [
          | inl n ↦ works_in v.0 l (links_busy (s.phase l v.0) n.0 n.1)
              (λ a t. absurd (links_polls a.place (is_some a.frame.me) (node_of a.frame.prev) (node_of a.frame.y) n.0
              (sym a.shows ∙ n.1) (top_polls v.0 a.frame a.place t)))
          | inr w ↦ absurd (let z = q.links.linked 0 u v.0 front v.1 w in cc (z, bare))
        ]
      ]
    where
      same : (o : Option NodeName) → is_node (Some (node_of o)) (node_of o) ≡ true
      same o = is_node-own (Some (node_of o)) refl

  -- who has the lock by its phase
  owning : (l : LockName) (u : Waiter) → owns (s.phase l u) ≡ true → On l
  owning l u o =
      works_in u l (owns_busy (s.phase l u) o)
      (λ a t.
      let d = owns_polls a.place (is_some a.frame.me) (node_of a.frame.prev) (node_of a.frame.y)
      (ap owns (sym a.shows) ∙ o) (top_polls u a.frame a.place t) (unhalting u a.frame a.place t)
      (unchoosing u a.frame a.place t) in
      heads l u a.frame (subst (IsTop m u a.frame) d t) a.lock
      (a.shows ∙ ap (λ (c : Pc). phase_at c (is_some a.frame.me) (node_of a.frame.prev) (node_of a.frame.y)) d))

  -- a byte that is taken
  taken : (l : LockName) → is_unlocked (m.word l).locked ≡ false → On l
  taken l h = by (agrees l).holder refl
    where
      by : (o : Option Waiter) → (agrees l).holder ≡ o → On l
      by None e = absurd (locked_not (m.word l).locked h ((agrees l).hold.taken e))
      by (Some u) e = elim (has_cases (s.phase l u) (spins (m.held u l)) ((agrees l).hold.had u e)) [
        | inl o ↦ owning l u o
        | inr has ↦ over level bound m hs ok tidy ranked top_polls meets_writer u l Spins (spins_is (m.held u l) has)
      ]

  -- pending that is set
  pending : (l : LockName) → (m.word l).pending ≡ true → On l
  pending l h =
      let u = (agrees l).pend.someone h in
      works_in u.0 l (pends_busy (s.phase l u.0) u.1)
      (λ a t.
      let d = pends_polls a.place (is_some a.frame.me) (node_of a.frame.prev) (node_of a.frame.y)
      (ap pends (sym a.shows) ∙ u.1) (top_polls u.0 a.frame a.place t) (unhalting u.0 a.frame a.place t) in
      let at : IsTop m u.0 a.frame P3 = subst (IsTop m u.0 a.frame) d t in
      taken l (subst (λ (k : LockName). is_unlocked (m.word k).locked ≡ false) a.lock
      (still_P3 m u.0 a.frame (ok.fits u.0 a.frame at.live).after at.place (stuck u.0 a.frame P3 at))))

  closed : (l : LockName) → is_unlocked (m.word l).locked && not (m.word l).pending ≡ false → On l
  closed l h = by (is_unlocked (m.word l).locked) refl (m.word l).pending refl
    where
      by : (a : Bool) → is_unlocked (m.word l).locked ≡ a → (p : Bool) → (m.word l).pending ≡ p → On l
      by false e p q = taken l e
      by true e true q = pending l q
      by true e false q =
          absurd (let z : is_unlocked (m.word l).locked && not (m.word l).pending ≡ true = rw (e, q) refl in cc (z, h))

  -- the first of the queue
  front : (l : LockName) (u : Waiter) → slice_get (spin_part m.kind hs l).main 0 ≡ Some u → On l
  front l u at_front =
      let q = (flat l).queue in
      let lead = q.ends.first u at_front in
      works_in u l (leads_busy (s.phase l u) ((m.node (s.own u)).flag) lead)
      (λ a t.
      let own = own_is u a.frame a.live in
      elim (leads_polls a.place (is_some a.frame.me) (node_of a.frame.prev) (node_of a.frame.y)
      ((m.node (s.own u)).flag) (ap (λ (r : Phase). leads r ((m.node (s.own u)).flag)) (sym a.shows) ∙ lead)
      (top_polls u a.frame a.place t) (unhalting u a.frame a.place t) (unchoosing u a.frame a.place t)) [
        | inl z ↦
            let top : IsTop m u a.frame G6 = subst (IsTop m u a.frame) z.0 t in
            absurd (z.1 (ap (λ (n : NodeName). (m.node n).flag) own
            ∙ still_G6 m u a.frame (ok.fits u a.frame top.live).after top.place (stuck u a.frame G6 top)))
        | inr r ↦ elim r [
          | inl z ↦
              let top : IsTop m u a.frame G7 = subst (IsTop m u a.frame) z t in
              closed l (subst (λ (k : LockName). is_unlocked (m.word k).locked && not (m.word k).pending ≡ false) a.lock
              (still_G7 m u a.frame (ok.fits u a.frame top.live).after top.place (stuck u a.frame G7 top)))
          | inr z ↦ heads l u a.frame (subst (IsTop m u a.frame) z t) a.lock
              (a.shows ∙ ap (λ (c : Pc). phase_at c (is_some a.frame.me) (node_of a.frame.prev) (node_of a.frame.y)) z)
        ]
      ])

  -- somebody stands in the queue
  queued : (l : LockName) → ((i : ℕ) × (u : Waiter) × (slice_get (spin_part m.kind hs l).main i ≡ Some u))
      → On l
  queued l p = elim (get_cases (spin_part m.kind hs l).main 0) [
    | inl none ↦ absurd (let z = empty (spin_part m.kind hs l).main none p.0 in cc (z, p.2))
    | inr u ↦ front l u.0 u.1
  ]
    where
      empty : (us : List Waiter) → slice_get us 0 ≡ None → (i : ℕ) → slice_get us i ≡ None
      empty [] h i = refl
      empty (u ∷ us) h i = cc h

  tailed : (l : LockName) (n : NodeName) → (m.word l).tail ≡ Some n → On l
  tailed l n h = elim (get_cases (spin_part m.kind hs l).main 0) [
    | inl none ↦ absurd (let z = (flat l).queue.ends.no_tail none in cc (z, h))
    | inr u ↦ front l u.0 u.1
  ]

  unfreed : (l : LockName) → is_free (m.word l) ≡ false → On l
  unfreed l h = elim (unfree (m.word l) h) [
    | inl e ↦ taken l e
    | inr r ↦ elim r [ inl e ↦ pending l e | inr t ↦ tailed l t.0 t.1 ]
  ]

  shown : (w : Waiter) (f : Frame) (c : Pc) → IsTop m w f c
      → s.phase f.lock w ≡ phase_at c (is_some f.me) (node_of f.prev) (node_of f.y)
  shown w f c top = ap (phase_on f.lock) top.live ∙ phase_on-here f.lock f refl
      ∙ ap (λ (d : Option Pc). phase_if d (is_some f.me) (node_of f.prev) (node_of f.y)) top.place

  -- whoever polls, waits for one at a higher level
  climb : (w : Waiter) (f : Frame) (c : Pc) → IsTop m w f c → polls c ≡ true → may_halt c ≡ false → chooses c ≡ false
      → On (lock_at c f)
  climb w f V1 top p a k = unfreed f.lock (still_V1 m w f (ok.fits w f top.live).after top.place (stuck w f V1 top))
  climb w f N1 top p a k = unfreed f.lock (still_N1 m w f (ok.fits w f top.live).after top.place (stuck w f N1 top))
  climb w f P3 top p a k = taken f.lock (still_P3 m w f (ok.fits w f top.live).after top.place (stuck w f P3 top))
  climb w f G7 top p a k = closed f.lock (still_G7 m w f (ok.fits w f top.live).after top.place (stuck w f G7 top))
  climb w f G6 top p a k =
      let q = (flat f.lock).queue.members.place w (ap queues (shown w f G6 top)) in queued f.lock (q.0, w, q.1)
  climb w f G10 top p a k = owning f.lock w (ap owns (shown w f G10 top))
  climb w f R2 top p a k =
      writes f.lock.index ((ok.fits w f top.live).rw R2 top.place refl)
      (meets_writer w f R2 top (inl refl))
  climb w f R5 top p a k =
      writes f.lock.index ((ok.fits w f top.live).rw R5 top.place refl)
      (meets_writer w f R5 top (inr refl))
  climb w f Wr5 top p a k =
      let is = (ok.fits w f top.live).rw Wr5 top.place refl in
      let known = (rw_row_knows Wr5 m hs w f ok top.live top.place refl).1 in
      elim (uncleared (m.rw f.lock.index) (still_Wr5 m w f (ok.fits w f top.live).after top.place (stuck w f Wr5 top)) known) [
        | inl e ↦ read level bound m hs ok tidy ranked top_polls meets_writer f.lock.index is e
        | inr e ↦ writes f.lock.index is e
      ]
  climb w f _ top p a k = cc (p, a, k)

  -- so nobody polls, unless a lock is held outside
  ends : (n : ℕ) (w : Waiter) (f : Frame) (c : Pc) → IsTop m w f c → bound ≤ level (lock_at c f) + n → HoldsOutside m
  ends zero w f c top le = absurd (let b = ranked.below (lock_at c f) in omega (arith, b, le))
  ends (suc n) w f c top le =
      go (climb w f c top (top_polls w f c top) (unhalting w f c top) (unchoosing w f c top))
      (λ k g d at more. ends n k g d at more)
    where
      go : On (lock_at c f)
          → ((k : Waiter) (g : Frame) (d : Pc) → IsTop m k g d → bound ≤ level (lock_at d g) + n → HoldsOutside m)
          → HoldsOutside m
      go (inr out) on = out
      go (inl h) on = let more = h.more in on h.by h.frame h.place h.top (omega (arith, more, le))

pub stuck_wait_for_outside : StuckWaitForOutside
stuck_wait_for_outside level bound m hs ok awake plain tidy ranked followed stuck w f c top =
    ends level bound m hs ok awake plain tidy ranked followed stuck bound w f c top (omega arith)

pub no_deadlock : NoDeadlock
no_deadlock level bound m hs ok awake plain tidy ranked followed inside stuck w f c top =
    inside (stuck_wait_for_outside level bound m hs ok awake plain tidy ranked followed stuck w f c top)
