-- What a step on one lock leaves alone: the other locks, the nodes of their waiters, and that a
-- waiter acts on one lock at a time.
use Rattle.std.proofs.Common.{◌≡◌, ◌≢◌, ℕ, Option, Bool, true, false, inl, inr, arith, ap, ◌<◌}
use Rattle.std.proofs.Common.{refl, sym, ◌∙◌, subst, slice_get}
use Rattle.lk_law.proofs.Names.{cases_eq, Fields, NodeName, LockHistory, LockName, Waiter, Node}
use Rattle.lk_law.proofs.Names.{LeavesSlowPath, LockAgrees, Owed, ParaAgrees, SnapshotAgrees, Stays}
use Rattle.lk_law.proofs.Names.{Step, halts, node_state, ListsAgree, moves_aside, Phase, has_node}
use Rattle.lk_law.proofs.Names.{queues, Idle, Prepared, at_halt, HolderAgrees, Moves, NodesAgree}
use Rattle.lk_law.proofs.Names.{PendingAgrees, Snapshot, before, spins}
use Rattle.lk_law.proofs.common.Before.{nodes_apart, before_same, before_drop, before_else}
use Rattle.lk_law.proofs.common.Cases.{waiter_cases, lock_cases}
use Rattle.lk_law.proofs.common.Families.{lists_keep, lists_rest, lists_main}
use Rattle.lk_law.proofs.{pv.Keep.{pv_keep, agrees-noded}, spin.Hold.hold_keep}
use Rattle.lk_law.proofs.spin.Pend.{pend_still}

-- a waiter acts on one lock at a time
abbrev pub ActsAlone : (LockName → Waiter → Phase) → Type 0
ActsAlone phase = (k l : LockName) (u : Waiter) → k ≢ l → phase k u ≢ Idle → phase l u ≡ Idle

-- the node of each waiter that acts on another lock than l is as before
abbrev pub LeavesOthers : Snapshot → Snapshot → LockName → Type 0
LeavesOthers s s' l = (k : LockName) (u : Waiter) → k ≢ l → has_node (s.phase k u) ≡ true
    → s'.node (s.own u) ≡ s.node (s.own u)

pub queue_node : (q : Phase) → queues q ≡ true → has_node q ≡ true
queue_node q h = grind arith

module _ {s s' : Snapshot} {w : Waiter} {l : LockName} {r r' : Phase} {x : Fields} {h h' : Bool}
    (step : Step s s' w l r r' x h h') where
  -- who has a node after the step had one before
  pub noded : (has_node r' ≡ true → has_node r ≡ true) → (k : LockName) (u : Waiter)
      → has_node (s'.phase k u) ≡ true → has_node (s.phase k u) ≡ true
  noded keeps k u p =
      elim (lock_cases k l) [
        | inl e ↦ let P : LockName → Type 0 =
            λ m. has_node (s'.phase m u) ≡ true → has_node (s.phase m u) ≡ true in
            subst P (sym e) (λ q.
            grind
            (arith, waiter_cases u w, step.acts.others u, step.acts.was, step.acts.now, keeps)) p
        | inr ne ↦ grind (arith, step.phases k ne u)
      ]

  -- who has a node after a step to a phase without one is another waiter
  noded_else : has_node r' ≡ false → (k : LockName) (u : Waiter) → has_node (s'.phase k u) ≡ true
      → u ≢ w
  noded_else none k u p e =
      elim (lock_cases k l) [
        | inl q ↦ let a : s'.phase k u ≡ r' = ap (λ (m : LockName). s'.phase m u) q
            ∙ ap (s'.phase l) e ∙ step.acts.now in grind (arith, a)
        | inr ne ↦ let a : s'.phase k u ≡ Idle =
            step.phases k ne u ∙ ap (s.phase k) e ∙ step.idle k ne in grind (arith, a)
      ]

  -- Where a waiter acts on another lock than l, the acting waiter is not it.
  acts_else : (k : LockName) → k ≢ l → (u : Waiter) → has_node (s.phase k u) ≡ true → u ≢ w
  acts_else k ne u p e = grind (arith, ap (s.phase k) e ∙ step.idle k ne)

  pub nodes_stay : NodesAgree s.phase s.own s.slow s.queued → Stays s s' w
      → (has_node r' ≡ true → has_node r ≡ true) → NodesAgree s'.phase s'.own s'.slow s'.queued
  nodes_stay nodes stays keeps =
      let same : (u : Waiter) → s'.own u ≡ s.own u =
      λ u. grind (arith, waiter_cases u w, stays.own, step.owns u) in
      let count : (p c : ℕ) → before s'.slow p c ≡ before s.slow p c =
      λ p c. before_same s.slow s'.slow p c
      (λ d lt. stays.slow (record { cpu = p; ctx = d })) in
      record {
        counted = λ p. stays.queued p ∙ nodes.counted p ∙ sym (count p 6);
        slowly = λ k u p. stays.slow u ∙ nodes.slowly k u (noded keeps k u p);
        below = λ k u p. rw (count u.cpu u.ctx) (nodes.below k u (noded keeps k u p));
        placed = λ k u p. same u ∙ rw (count u.cpu u.ctx) (nodes.placed k u (noded keeps k u p));
      }

  -- the waiters below the one that leaves are counted as before
  leave-count : NodesAgree s.phase s.own s.slow s.queued → LeavesSlowPath s s' w
      → has_node r' ≡ false → (k : LockName) (u : Waiter) → has_node (s'.phase k u) ≡ true
      → before s'.slow u.cpu u.ctx ≡ before s.slow u.cpu u.ctx
  leave-count nodes goes none k u p =
      elim (cases_eq u.cpu w.cpu) [
        | inl e ↦ before_same s.slow s'.slow u.cpu u.ctx
            (λ d lt. goes.slow.others (record { cpu = u.cpu; ctx = d }) (λ q. no e d lt q))
        | inr ne ↦ before_else s.slow s'.slow w true false u.cpu u.ctx goes.slow ne
      ]
    where
      no : u.cpu ≡ w.cpu → (d : ℕ) → d < u.ctx → record { cpu = u.cpu; ctx = d } ≡ w → ⊥
      no e d lt q =
          let c : d ≡ w.ctx = ap (λ (v : Waiter). v.ctx) q in
          let t = goes.on_top.top u.ctx (omega arith) in
          let sl = nodes.slowly k u (noded (λ q. absurd (grind arith)) k u p) in
          grind (arith, e, t, sl)

  pub nodes_leave : NodesAgree s.phase s.own s.slow s.queued → LeavesSlowPath s s' w
      → has_node r' ≡ false → NodesAgree s'.phase s'.own s'.slow s'.queued
  nodes_leave nodes goes none =
      let old : (k : LockName) (u : Waiter) → has_node (s'.phase k u) ≡ true → has_node
      (s.phase k u) ≡ true = noded (λ p. absurd (grind arith)) in
      let count = leave-count nodes goes none in
      record {
        counted = λ p. elim (cases_eq p w.cpu) [
          | inl e ↦ let P : ℕ → Type 0 = λ q. s'.queued q ≡ before s'.slow q 6 in
              subst P (sym e)
              (let d = before_drop s.slow s'.slow w 6 goes.slow goes.on_top.low in
              let c = nodes.counted w.cpu in let z = goes.here in omega arith)
          | inr ne ↦ goes.queued p ne ∙ nodes.counted p
              ∙ sym (before_else s.slow s'.slow w true false p 6 goes.slow ne)
        ];
        slowly = λ k u p. goes.slow.others u (noded_else none k u p) ∙ nodes.slowly k u (old k u p);
        below = λ k u p. rw (count k u p) (nodes.below k u (old k u p));
        placed = λ k u p. step.owns u (noded_else none k u p)
            ∙ rw (count k u p) (nodes.placed k u (old k u p));
      }

  pub still_alone : ActsAlone s.phase → ActsAlone s'.phase
  still_alone alone k m u ne p =
      elim (lock_cases k l) [
        | inl ek ↦
            let nm : m ≢ l = (λ e. ne (ek ∙ sym e)) in
            let p' : s'.phase l u ≢ Idle = (λ e. p (ap (λ (n : LockName). s'.phase n u) ek ∙ e)) in
            elim (waiter_cases u w) [
              | inl e ↦ step.phases m nm u ∙ ap (s.phase m) e ∙ step.idle m nm
              | inr nu ↦ step.phases m nm u
                  ∙ alone l m u (λ e. nm (sym e)) (λ e. p' (step.acts.others u nu ∙ e))
            ]
        | inr nk ↦
            let old : s.phase k u ≢ Idle = (λ e. p (step.phases k nk u ∙ e)) in
            elim (lock_cases m l) [
              | inl em ↦ elim (waiter_cases u w) [
                | inl e ↦ absurd (old (ap (s.phase k) e ∙ step.idle k nk))
                | inr nu ↦ ap (λ (n : LockName). s'.phase n u) em ∙ step.acts.others u nu
                    ∙ alone k l u nk old
              ]
              | inr nm ↦ step.phases m nm u ∙ alone k m u ne old
            ]
      ]

  -- Another lock is as before: its holder, its pending bit and its queue.

  else_acts : (k : LockName) → k ≢ l → Moves (s.phase k) (s'.phase k) w Idle Idle
  else_acts k ne = record {
    was = step.idle k ne;
    now = step.phases k ne w ∙ step.idle k ne;
    others = λ u n. step.phases k ne u;
  }

  pub else_hold : (k : LockName) → k ≢ l → {holder : Option Waiter}
      → HolderAgrees (s.word k).locked (s.phase k) (λ u. spins (s.held u k)) holder
      → HolderAgrees (s'.word k).locked (s'.phase k) (λ u. spins (s'.held u k)) holder
  else_hold k ne o =
      let still : Moves (λ u. spins (s.held u k)) (λ u. spins (s'.held u k)) w (spins (s.held w k))
      (spins (s.held w k)) =
      record { was = refl; now = step.helds k ne w; others = λ u n. step.helds k ne u } in
      rw (step.words k ne) (hold_keep o (else_acts k ne) still refl (λ p. absurd (grind arith))
      (λ p. absurd (grind arith)))

  pub else_pend : (k : LockName) → k ≢ l
      → PendingAgrees (s.word k).locked (s.word k).pending (s.phase k)
      → PendingAgrees (s'.word k).locked (s'.word k).pending (s'.phase k)
  else_pend k ne o =
      rw (step.words k ne) (pend_still o (else_acts k ne) refl refl refl)

  else_lists : NodesAgree s.phase s.own s.slow s.queued → (k : LockName) → k ≢ l → (h : LockHistory)
      → LeavesOthers s s' l
      → ListsAgree (moves_aside s.mode) (s.word k).tail (s.phase k) s.own s.node s.local s.threshold
      (s.stage k) s.kept h.main h.second h.passes
      → ListsAgree (moves_aside s'.mode) (s'.word k).tail (s'.phase k) s'.own s'.node s'.local
      s'.threshold (s'.stage k) s'.kept h.main h.second h.passes
  else_lists nodes k ne h away o =
      rw (step.words k ne, step.mode, step.local, step.threshold) (lists_keep o
      (λ u p. let nw = acts_else k ne u (queue_node (s.phase k u) p) in (
        step.phases k ne u,
        own_same u (grind arith),
        rw (own_same u (grind arith)) (away k u ne (grind arith)),
        step.stages k u nw,
        step.kepts u nw,
      ))
      (λ u p. step.phases k ne u)
      (λ u p. let q : s.phase k u ≡ Prepared = sym (step.phases k ne u) ∙ p in
      rw (own_same u (grind arith)) (away k u ne (grind arith) ∙ lists_rest o u q))
      (λ was u p. elim
      (waiter_cases u w) [
        | inl e ↦ ap (s'.stage k) e ∙ step.calm k ne
        | inr nw ↦ step.stages k u nw ∙ was u (λ q. p (step.phases k ne u ∙ q))
      ])
      (λ u z p q e. nodes_apart nodes k k u z p q e)
      (λ u p z q e. let f : s.phase k u ≡ Prepared = sym (step.phases k ne u) ∙ p in
      let same : u ≡ z =
      nodes_apart nodes k k u z (grind arith) (queue_node (s.phase k z) q)
      (sym (own_same u (grind arith)) ∙ e) in
      absurd (grind (arith, ap (s.phase k) same, f, q))))
    where
      own_same : (u : Waiter) → has_node (s.phase k u) ≡ true → s'.own u ≡ s.own u
      own_same u p = step.owns u (acts_else k ne u p)

  else_posts : NodesAgree s.phase s.own s.slow s.queued → (k : LockName) → k ≢ l → (h : LockHistory)
      → LeavesOthers s s' l → LockAgrees s h k → halts s'.mode ≡ true → ParaAgrees s' h k
  else_posts nodes k ne h away o on =
      let was : halts s.mode ≡ true = ap halts (sym step.mode) ∙ on in
      let p = o.posts was in
      let same : s'.post k ≡ s.post k = (λ i u. else_post u i) in
      record {
        posts = rw (step.words k ne, step.entries k ne, same)
            (pv_keep (s.word k).locked (s.entry k) (slice_get h.main 0) (s.post k) (node_state s)
            (node_state s') s.own s'.own (λ u. Owed s u.cpu) (λ u. Owed s' u.cpu) p.posts
            (λ u q. both u (agrees-noded (s.post k u) (s.phase k u) (p.suits u) q))
            (λ z f. both z (queue_node (s.phase k z) (lists_main o.lists 0 z f)))
            (λ z q d. step.owed was k z ne q d));
        suits = λ u. rw (else_post u, step.phases k ne u) (p.suits u);
      }
    where
      else_post : (u : Waiter) → s'.post k u ≡ s.post k u
      else_post u =
          elim (waiter_cases u w) [
            | inl e ↦ ap (s'.post k) e ∙ step.off k ne
                ∙ sym (ap (s.post k) e ∙ step.were_off k ne)
            | inr nw ↦ step.posts k u nw
          ]

      both : (u : Waiter) → has_node (s.phase k u) ≡ true
          → (node_state s' u ≡ node_state s u) × (s'.own u ≡ s.own u)
      both u p = let e = step.owns u (acts_else k ne u p) in (
        ap (λ (n : NodeName). (s'.node n).state) e ∙ ap (λ (n : Node). n.state) (away k u ne p),
        e,
      )

  -- who sleeps afterwards slept before, or is the only one of its processor
  still_sleeper : (halts s.mode ≡ true → (k m : LockName) (u z : Waiter)
      → at_halt (s.post k u) ≡ true → at_halt (s.post m z) ≡ true → u.cpu ≡ z.cpu → u ≡ z)
      → halts s'.mode ≡ true → (k m : LockName) (u z : Waiter) → at_halt (s'.post k u) ≡ true
      → at_halt (s'.post m z) ≡ true → u.cpu ≡ z.cpu → u ≡ z
  still_sleeper lone on k m u z a b e =
      elim (waiter_cases u w) [
        | inl q ↦ elim (waiter_cases z w) [
          | inl r ↦ q ∙ sym r
          | inr nz ↦ q
              ∙ sym (step.lone was (mine k (ap (λ v. at_halt (s'.post k v)) (sym q) ∙ a)) m z
              (sym e ∙ ap (λ (v : Waiter). v.cpu) q) (old m z nz b))
        ]
        | inr nu ↦ elim (waiter_cases z w) [
          | inl r ↦ step.lone was (mine m (ap (λ v. at_halt (s'.post m v)) (sym r) ∙ b)) k u
              (e ∙ ap (λ (v : Waiter). v.cpu) r) (old k u nu a) ∙ sym r
          | inr nz ↦ lone was k m u z (old k u nu a) (old m z nz b) e
        ]
      ]
    where
      was : halts s.mode ≡ true
      was = ap halts (sym step.mode) ∙ on

      old : (k : LockName) (v : Waiter) → v ≢ w → at_halt (s'.post k v) ≡ true
          → at_halt (s.post k v) ≡ true
      old k v ne h = ap at_halt (sym (step.posts k v ne)) ∙ h

      mine : (k : LockName) → at_halt (s'.post k w) ≡ true → at_halt (s'.post l w) ≡ true
      mine k h = elim
          (lock_cases k l) [
            | inl q ↦ ap (λ m. at_halt (s'.post m w)) (sym q) ∙ h
            | inr ne ↦ absurd (let o = step.off k ne in grind (arith, ap at_halt o, h))
          ]

  pub elsewhere : NodesAgree s.phase s.own s.slow s.queued → LeavesOthers s s' l → (k : LockName)
      → k ≢ l → (h : LockHistory) → LockAgrees s h k → LockAgrees s' h k
  elsewhere nodes away k ne h o =
      record {
        holder = o.holder;
        holders = o.holders;
        hold = else_hold k ne o.hold;
        pend = else_pend k ne o.pend;
        posts = else_posts nodes k ne h away o;
        lists = else_lists nodes k ne h away o.lists;
      }

  -- where the family does not halt processors there are no posts
  pub no_posts : {A : Type 0} → halts s.mode ≡ false → halts s'.mode ≡ true → A
  no_posts awake on = absurd (let e = ap halts step.mode in grind (arith, e, awake, on))

  -- the whole, from the lock of the step
  pub agrees_after : {hs : LockName → LockHistory} → SnapshotAgrees s hs
      → (hs' : LockName → LockHistory) → NodesAgree s'.phase s'.own s'.slow s'.queued
      → LeavesOthers s s' l → ((k : LockName) → k ≢ l → hs' k ≡ hs k) → LockAgrees s' (hs' l) l
      → SnapshotAgrees s' hs'
  agrees_after {hs = hs} ok hs' nodes away told here =
      record {
        locks = λ k. elim (lock_cases k l) [
          | inl e ↦ let P : LockName → Type 0 = λ m. LockAgrees s' (hs' m) m in subst P (sym e) here
          | inr ne ↦ rw (told k ne) (elsewhere ok.nodes away k ne (hs k) (ok.locks k))
        ];
        nodes = nodes;
        alone = still_alone ok.alone;
        sleeper = still_sleeper ok.sleeper;
      }
