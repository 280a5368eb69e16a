-- The laws of the rows of the paravirtual lock in which the phase stays: a waiter or a front looks,
-- says what its processor does, or changes the hash or the byte.
use Rattle.std.proofs.Common.{◌≡◌, ◌≢◌, Some, Bool, true, ◌⊎◌, inl, inr, arith, ap, refl, sym, ◌∙◌}
use Rattle.std.proofs.Common.{subst, slice_get, not, if◌then◌else◌}
use Rattle.lk_law.proofs.Names.{Fields, Free, Slow, NodeName, LockHistory, same_waiter, LockName}
use Rattle.lk_law.proofs.Names.{Waiter, Node, State, Halted, Hashed, Running, Owed, SnapshotAgrees}
use Rattle.lk_law.proofs.Names.{Stays, Step, halts, node_state, Phase, has_node, queues, Leads}
use Rattle.lk_law.proofs.Names.{Prepared, Waits, Post, PostsAgree, agrees, not_hashed, Checks}
use Rattle.lk_law.proofs.Names.{Clears, Dozes, Marks, Naps, Peers, Rises, Sleeps, Stirs, Stopped}
use Rattle.lk_law.proofs.Names.{Stops, Tries, Moves, Rewrites, Snapshot}
use Rattle.lk_law.proofs.common.Cases.{waiter_cases, node_cases}
use Rattle.lk_law.proofs.common.Families.{lists_rest, lists_main}
use Rattle.lk_law.proofs.common.Puts.{put_moves, if-true, if-false, same_waiter-else}
use Rattle.lk_law.proofs.common.Sames.{same_waiter-self}
use Rattle.lk_law.proofs.pv.Keep.{pv_keep, noded_post, agrees-noded}
use Rattle.lk_law.proofs.{pv.Laws.{para, law_still, posts_met}, pv.Outside.{Posted, post_moves}}
use Rattle.lk_law.proofs.pv.Rows.{w1_look, w2_again, w2_stop, w3_halted, w4_doze, w4_stir, w5_sleep}
use Rattle.lk_law.proofs.pv.Rows.{w5_stir, w7_spin, e1_rise, e2_clear, e10_mark, e11_nap, e11_back}
use Rattle.lk_law.proofs.{queue.Laws.{apart_on, rewrite_here, own_is}, spin.Laws.SameNodes}
use Rattle.lk_law.specs.Pv.Post.{Spins}

-- nothing changes of the states
pub same_state : (s : Snapshot) (w : Waiter)
    → Moves (node_state s) (node_state s) w (node_state s w) (node_state s w)
same_state s w = record { was = refl; now = refl; others = λ u ne. refl }

module _ {s s' : Snapshot} {hs : LockName → LockHistory} {w : Waiter} {l : LockName}
    (ok : SnapshotAgrees s hs) (on : halts s.mode ≡ true) where
  -- the byte may change while the lock is held, and the entry; the nodes stay
  pub law_looks : {r : Phase} {h : Bool} {p q : Post} {x : Fields}
      → (step : Step s s' w l r r x h h) → Stays s s' w → SameNodes s s'
      → (moves : Moves (s.post l) (s'.post l) w p q) → ((c : Waiter) → Owed s c.cpu → Owed s' c.cpu)
      → agrees q r ≡ true → x.pending ≡ (s.word l).pending → x.tail ≡ (s.word l).tail
      → (x.locked ≡ (s.word l).locked) ⊎ (((s.word l).locked ≢ Free) × (x.locked ≢ Free))
      → PostsAgree x.locked (s'.entry l) (slice_get (hs l).main 0) (s'.post l) (node_state s) s.own
      (λ u. Owed s u.cpu)
      → SnapshotAgrees s' hs
  law_looks {r = r} {x = x} step stays nodes moves owed suit pending tail byte posts =
      let own = own_is stays step.owns in
      let state : (u : Waiter) → node_state s' u ≡ node_state s u =
      λ u. ap (λ (f : Waiter → NodeName). (s'.node (f u)).state) own
      ∙ ap (λ (n : Node). n.state) (nodes (s.own u)) in
      law_still ok on step stays pending tail byte
      (λ u q. (
        ap (λ (n : Node). n.flag) (nodes (s.own u)),
        ap (λ (n : Node). n.next) (nodes (s.own u)),
      ))
      (λ u q. nodes (s.own u) ∙ lists_rest (ok.locks l).lists u q) (λ k u ne q. nodes (s.own u))
      (pv_keep x.locked (s'.entry l) (slice_get (hs l).main 0) (s'.post l) (node_state s)
      (node_state s') s.own s'.own (λ u. Owed s u.cpu) (λ u. Owed s' u.cpu) posts
      (λ u q. (state u, ap (λ f. f u) own)) (λ u q. (state u, ap (λ f. f u) own))
      (λ u q d. owed u d))
      (subst (λ (c : Post). agrees c r ≡ true) (sym moves.now) suit)

  -- the state of the node of z is stored
  pub law_says : {r : Phase} {h : Bool} {p q : Post} {t' : State} {y : Node} (z : Waiter)
      → (step : Step s s' w l r r (s.word l) h h) → Stays s s' w → has_node (s.phase l z) ≡ true
      → s.phase l z ≢ Prepared → Rewrites s.node s'.node (s.own z) y
      → y ≡ record (s.node (s.own z)) { state = t' } → (moves : Moves (s.post l) (s'.post l) w p q)
      → ((c : Waiter) → Owed s c.cpu → Owed s' c.cpu) → agrees q r ≡ true → s'.entry l ≡ s.entry l
      → PostsAgree (s.word l).locked (s.entry l) (slice_get (hs l).main 0) (s'.post l)
      (λ u. if same_waiter u z then t' else node_state s u) s.own (λ u. Owed s u.cpu)
      → SnapshotAgrees s' hs
  law_says {r = r} {q = q} {t' = t'} z step stays noded unprepared writes store moves owed suit
      entry posts =
      let own = own_is stays step.owns in
      law_still ok on step stays refl refl (inl refl)
      (λ u a.
      (field (λ (n : Node). n.flag) refl (s.own u), field (λ (n : Node). n.next) refl (s.own u)))
      (λ u a. writes.others (s.own u)
      (λ e. let same : u ≡ z = apart_on ok.nodes l u z (ap has_node a) noded e in
      unprepared (ap (s.phase l) (sym same) ∙ a)) ∙ lists_rest (ok.locks l).lists u a)
      (rewrite_here ok.nodes ok.alone z noded refl writes)
      (rw entry (pv_keep (s.word l).locked (s.entry l) (slice_get (hs l).main 0) (s'.post l)
      (λ u. if same_waiter u z then t' else node_state s u) (node_state s') s.own s'.own
      (λ u. Owed s u.cpu) (λ u. Owed s' u.cpu) posts
      (λ u a. (keep own u (noded_now u a), ap (λ f. f u) own))
      (λ u a. (keep own u (front_noded u a), ap (λ f. f u) own)) (λ u a d. owed u d)))
      mine
    where
      mine : agrees (s'.post l w) r ≡ true
      mine = subst (λ (c : Post). agrees c r ≡ true) (sym moves.now) suit

      field : {A : Type 0} (F : Node → A)
          → F (record (s.node (s.own z)) { state = t' }) ≡ F (s.node (s.own z)) → (n : NodeName)
          → F (s'.node n) ≡ F (s.node n)
      field F e n =
          elim (node_cases n (s.own z)) [
            | inl q ↦ ap (λ k. F (s'.node k)) q
                ∙ ap F (writes.now ∙ store) ∙ e ∙ ap (λ k. F (s.node k)) (sym q)
            | inr ne ↦ ap F (writes.others n ne)
          ]

      front_noded : (u : Waiter) → slice_get (hs l).main 0 ≡ Some u → has_node (s.phase l u) ≡ true
      front_noded u a = go (s.phase l u) (lists_main (ok.locks l).lists 0 u a)
        where
          go : (b : Phase) → queues b ≡ true → has_node b ≡ true
          go b c = grind arith

      noded_now : (u : Waiter) → noded_post (s'.post l u) ≡ true → has_node (s.phase l u) ≡ true
      noded_now u a =
          elim (waiter_cases u w) [
            | inl e ↦ ap (λ (v : Waiter). has_node (s.phase l v)) e ∙ ap has_node step.acts.was
                ∙ agrees-noded (s'.post l w) r mine
                (ap (λ (v : Waiter). noded_post (s'.post l v)) (sym e) ∙ a)
            | inr ne ↦ agrees-noded (s.post l u) (s.phase l u) ((para ok on l).suits u)
                (ap noded_post (sym (moves.others u ne)) ∙ a)
          ]

      keep : s'.own ≡ s.own → (u : Waiter) → has_node (s.phase l u) ≡ true
          → node_state s' u ≡ (if same_waiter u z then t' else node_state s u)
      keep own u a =
          ap (λ (f : Waiter → NodeName). (s'.node (f u)).state) own ∙ elim (waiter_cases u z) [
            | inl e ↦ ap (λ (v : Waiter). (s'.node (s.own v)).state) e
                ∙ ap (λ (n : Node). n.state) (writes.now ∙ store)
                ∙ sym (if-true (same_waiter u z) t' (node_state s u)
                (ap (λ (v : Waiter). same_waiter v z) e ∙ same_waiter-self z))
            | inr ne ↦ ap (λ (n : Node). n.state)
                (writes.others (s.own u) (λ e. ne (apart_on ok.nodes l u z a noded e)))
                ∙ sym (if-false (same_waiter u z) t' (node_state s u) (same_waiter-else u z ne))
          ]

  module _ {h : Bool} (stays : Stays s s' w)
      (owed : (c : Waiter) → Owed s c.cpu → Owed s' c.cpu) where
    -- rows that only look, by what they met

    pub law_W1 : Step s s' w l Waits Waits (s.word l) h h → SameNodes s s'
        → Posted s s' w l Spins Peers → slice_get (hs l).main 0 ≢ Some w → SnapshotAgrees s' hs
    law_W1 step nodes posted behind =
        law_looks step stays nodes (post_moves ok on step posted) owed refl refl refl (inl refl)
        (rw posted.entry (w1_look (posts_met ok on l) (node_state s w)
        (post_moves ok on step posted) (same_state s w) behind))

    pub law_W2_again : Step s s' w l Waits Waits (s.word l) h h → SameNodes s s'
        → Posted s s' w l Peers Spins → SnapshotAgrees s' hs
    law_W2_again step nodes posted =
        law_looks step stays nodes (post_moves ok on step posted) owed refl refl refl (inl refl)
        (rw posted.entry (w2_again (posts_met ok on l) (node_state s w)
        (post_moves ok on step posted) (same_state s w)))

    pub law_W2_stop : Step s s' w l Waits Waits (s.word l) h h → SameNodes s s'
        → Posted s s' w l Peers Stops → SnapshotAgrees s' hs
    law_W2_stop step nodes posted =
        law_looks step stays nodes (post_moves ok on step posted) owed refl refl refl (inl refl)
        (rw posted.entry (w2_stop (posts_met ok on l) (node_state s w)
        (post_moves ok on step posted) (same_state s w)))

    pub law_W3 : Step s s' w l Waits Waits (s.word l) h h
        → Rewrites s.node s'.node (s.own w) (record (s.node (s.own w)) { state = Halted })
        → Posted s s' w l Stops Stopped → SnapshotAgrees s' hs
    law_W3 step writes posted =
        law_says w step stays (ap has_node step.acts.was) (λ e. grind (arith, step.acts.was, e))
        writes refl (post_moves ok on step posted) owed refl posted.entry
        (w3_halted (posts_met ok on l) (node_state s w) (post_moves ok on step posted)
        (put_moves (node_state s) w (node_state s w) Halted refl))

    pub law_W4_doze : Step s s' w l Waits Waits (s.word l) h h → SameNodes s s'
        → Posted s s' w l Stopped Dozes → slice_get (hs l).main 0 ≢ Some w → SnapshotAgrees s' hs
    law_W4_doze step nodes posted behind =
        law_looks step stays nodes (post_moves ok on step posted) owed refl refl refl (inl refl)
        (rw posted.entry (w4_doze (posts_met ok on l) (node_state s w)
        (post_moves ok on step posted) (same_state s w) behind))

    pub law_W4_stir : Step s s' w l Waits Waits (s.word l) h h → SameNodes s s'
        → Posted s s' w l Stopped Stirs → SnapshotAgrees s' hs
    law_W4_stir step nodes posted =
        law_looks step stays nodes (post_moves ok on step posted) owed refl refl refl (inl refl)
        (rw posted.entry (w4_stir (posts_met ok on l) (node_state s w)
        (post_moves ok on step posted) (same_state s w)))

    pub law_W5_sleep : Step s s' w l Waits Waits (s.word l) h h → SameNodes s s'
        → Posted s s' w l Dozes Sleeps → node_state s w ≡ Halted → SnapshotAgrees s' hs
    law_W5_sleep step nodes posted halted =
        law_looks step stays nodes (post_moves ok on step posted) owed refl refl refl (inl refl)
        (rw posted.entry (w5_sleep (posts_met ok on l) (node_state s w)
        (post_moves ok on step posted) (same_state s w) halted))

    pub law_W5_stir : Step s s' w l Waits Waits (s.word l) h h → SameNodes s s'
        → Posted s s' w l Dozes Stirs → SnapshotAgrees s' hs
    law_W5_stir step nodes posted =
        law_looks step stays nodes (post_moves ok on step posted) owed refl refl refl (inl refl)
        (rw posted.entry (w5_stir (posts_met ok on l) (node_state s w)
        (post_moves ok on step posted) (same_state s w)))

    pub law_W7_spin : Step s s' w l Waits Waits (s.word l) h h → SameNodes s s'
        → Posted s s' w l Stirs Spins → node_state s w ≢ Halted → SnapshotAgrees s' hs
    law_W7_spin step nodes posted awake =
        law_looks step stays nodes (post_moves ok on step posted) owed refl refl refl (inl refl)
        (rw posted.entry
        (w7_spin (posts_met ok on l) (node_state s w) (node_state s w)
        (post_moves ok on step posted)
        (same_state s w) (inr (awake, refl))))

    pub law_W7_run : Step s s' w l Waits Waits (s.word l) h h
        → Rewrites s.node s'.node (s.own w) (record (s.node (s.own w)) { state = Running })
        → Posted s s' w l Stirs Spins → node_state s w ≡ Halted → SnapshotAgrees s' hs
    law_W7_run step writes posted halted =
        law_says w step stays (ap has_node step.acts.was) (λ e. grind (arith, step.acts.was, e))
        writes refl (post_moves ok on step posted) owed refl posted.entry
        (w7_spin (posts_met ok on l) Running (node_state s w) (post_moves ok on step posted)
        (put_moves (node_state s) w (node_state s w) Running refl) (inl (halted, refl)))

    pub law_E1 : (b : Bool) → Step s s' w l Leads Leads (s.word l) h h → SameNodes s s'
        → Posted s s' w l Rises (Clears b) → not b ≡ not_hashed (node_state s w)
        → SnapshotAgrees s' hs
    law_E1 b step nodes posted met =
        law_looks step stays nodes (post_moves ok on step posted) owed refl refl refl (inl refl)
        (rw posted.entry (e1_rise (posts_met ok on l) b (node_state s w)
        (post_moves ok on step posted) (same_state s w) met))

    pub law_E2 : (b : Bool) → Step s s' w l Leads Leads (s.word l) h h
        → Rewrites s.node s'.node (s.own w) (record (s.node (s.own w)) { state = Running })
        → Posted s s' w l (Clears b) (Tries b) → SnapshotAgrees s' hs
    law_E2 b step writes posted =
        law_says w step stays (ap has_node step.acts.was) (λ e. grind (arith, step.acts.was, e))
        writes refl (post_moves ok on step posted) owed refl posted.entry
        (e2_clear (posts_met ok on l) b (node_state s w) (post_moves ok on step posted)
        (put_moves (node_state s) w (node_state s w) Running refl))

    pub law_E10 : Step s s' w l Leads Leads (s.word l) h h
        → Rewrites s.node s'.node (s.own w) (record (s.node (s.own w)) { state = Hashed })
        → Posted s s' w l Marks Checks → SnapshotAgrees s' hs
    law_E10 step writes posted =
        law_says w step stays (ap has_node step.acts.was) (λ e. grind (arith, step.acts.was, e))
        writes refl (post_moves ok on step posted) owed refl posted.entry
        (e10_mark (posts_met ok on l) (node_state s w) (post_moves ok on step posted)
        (put_moves (node_state s) w (node_state s w) Hashed refl))

    pub law_E11_nap : Step s s' w l Leads Leads (s.word l) h h → SameNodes s s'
        → Posted s s' w l Checks Naps → (s.word l).locked ≡ Slow → SnapshotAgrees s' hs
    law_E11_nap step nodes posted slow =
        law_looks step stays nodes (post_moves ok on step posted) owed refl refl refl (inl refl)
        (rw posted.entry (e11_nap (posts_met ok on l) (node_state s w)
        (post_moves ok on step posted) (same_state s w) slow))

    pub law_E11_back : Step s s' w l Leads Leads (s.word l) h h → SameNodes s s'
        → Posted s s' w l Checks (Clears true) → SnapshotAgrees s' hs
    law_E11_back step nodes posted =
        law_looks step stays nodes (post_moves ok on step posted) owed refl refl refl (inl refl)
        (rw posted.entry (e11_back (posts_met ok on l) (node_state s w)
        (post_moves ok on step posted) (same_state s w)))
