-- The laws of the entry to the slow path: with a node, and without one.
use Rattle.std.proofs.Common.{◌≡◌, ◌≢◌, ℕ, true, false, inl, inr, arith, ap, ◌<◌, ◌≤◌, refl, sym}
use Rattle.std.proofs.Common.{◌∙◌, subst}
use Rattle.lk_law.proofs.Names.{cases_eq, NodeName, LockHistory, LockName, Waiter, rest_node}
use Rattle.lk_law.proofs.Names.{EntersSlowPath, ParaAgrees, SnapshotAgrees, Step, halts, has_node}
use Rattle.lk_law.proofs.Names.{Prepared, Seeks, NodesAgree, Rewrites, Snapshot, before}
use Rattle.lk_law.proofs.common.Before.{before_same, before_else, before_grow, before_top}
use Rattle.lk_law.proofs.{common.Before.node_used, common.Cases.{waiter_cases, lock_cases}}
use Rattle.lk_law.proofs.common.Frame.{queue_node, noded, agrees_after, no_posts}
use Rattle.lk_law.proofs.{spin.Hold.hold_keep, spin.Laws.{SameNodes, lists_outside}}
use Rattle.lk_law.proofs.spin.Pend.{pend_still}

-- the node that a waiter of this processor gets next
abbrev pub next_node : Snapshot → Waiter → NodeName
next_node s w = record { cpu = w.cpu; index = s.queued w.cpu }

module _ {s s' : Snapshot} {w : Waiter} (nodes : NodesAgree s.phase s.own s.slow s.queued)
    (enters : EntersSlowPath s s' w) where
  -- a node in use is not the one that the waiter gets
  pub enter_used : Rewrites s.node s'.node (next_node s w) rest_node → (k : LockName) (u : Waiter)
      → has_node (s.phase k u) ≡ true → s'.node (s.own u) ≡ s.node (s.own u)
  enter_used writes k u p =
      writes.others (s.own u)
      (node_used nodes w enters.slow.was enters.on_top.top enters.on_top.low k u p)

  enter_counted : (p : ℕ) → s'.queued p ≡ before s'.slow p 6
  enter_counted p =
      elim (cases_eq p w.cpu) [
        | inl e ↦ let P : ℕ → Type 0 = λ q. s'.queued q ≡ before s'.slow q 6 in
            subst P (sym e)
            (let d = before_grow s.slow s'.slow w 6 enters.slow enters.on_top.low in
            let c = nodes.counted w.cpu in let z = enters.here in omega arith)
        | inr ne ↦ enters.queued p ne ∙ nodes.counted p
            ∙ sym (before_else s.slow s'.slow w false true p 6 enters.slow ne)
      ]

  -- the waiters below see the same number
  enter_below : (k : LockName) (u : Waiter) → has_node (s.phase k u) ≡ true
      → before s'.slow u.cpu u.ctx ≡ before s.slow u.cpu u.ctx
  enter_below k u p =
      elim (cases_eq u.cpu w.cpu) [
        | inl e ↦ before_same s.slow s'.slow u.cpu u.ctx
            (λ d lt. enters.slow.others (record { cpu = u.cpu; ctx = d }) (λ q. no e d lt q))
        | inr ne ↦ before_else s.slow s'.slow w false true u.cpu u.ctx enters.slow ne
      ]
    where
      no : u.cpu ≡ w.cpu → (d : ℕ) → d < u.ctx → record { cpu = u.cpu; ctx = d } ≡ w → ⊥
      no e d lt q =
          let c : d ≡ w.ctx = ap (λ (v : Waiter). v.ctx) q in
          let t = enters.on_top.top u.ctx (omega arith) in
          let sl = nodes.slowly k u p in
          grind (arith, e, t, sl)

  enter_else : (k : LockName) (u : Waiter) → has_node (s.phase k u) ≡ true → u ≢ w
  enter_else k u p e = let a = nodes.slowly k u p in grind (arith, enters.slow.was)

  enter_slowly : (k : LockName) (u : Waiter) → has_node (s.phase k u) ≡ true → s'.slow u ≡ true
  enter_slowly k u p = enters.slow.others u (enter_else k u p) ∙ nodes.slowly k u p

  enter_number : before s'.slow w.cpu w.ctx ≡ s.queued w.cpu
  enter_number =
      let below = before_same s.slow s'.slow w.cpu w.ctx
      (λ d lt.
      enters.slow.others (record { cpu = w.cpu; ctx = d }) (λ q.
      let z = ap (λ (v : Waiter). v.ctx) q in omega arith)) in
      let off : (d : ℕ) → w.ctx ≤ d → s.slow (record { cpu = w.cpu; ctx = d }) ≡ false =
      λ d le. elim (cases_eq w.ctx d) [
        | inl q ↦ let P : ℕ → Type 0 = λ n. s.slow (record { cpu = w.cpu; ctx = n }) ≡ false in
            subst P q enters.slow.was
        | inr n ↦ enters.on_top.top d (omega arith)
      ] in
      let all = before_top s.slow w.cpu w.ctx 6 off (let z = enters.on_top.low in omega arith) in
      below ∙ sym all ∙ sym (nodes.counted w.cpu)

  -- the nodes agree where the waiter gets one
  pub nodes_enter : {l : LockName} → Step s s' w l Seeks Prepared (s.word l) false false
      → s.queued w.cpu < 4 → s'.own w ≡ next_node s w → NodesAgree s'.phase s'.own s'.slow s'.queued
  nodes_enter {l = l} step room gets =
      record {
        counted = enter_counted;
        slowly = λ k u p. by_w k u p (λ v. s'.slow v ≡ true) enters.slow.now (enter_slowly k u);
        below = λ k u p.
            by_w k u p (λ v. before s'.slow v.cpu v.ctx < 4) (rw enter_number room)
            (λ q. rw (enter_below k u q) (nodes.below k u q));
        placed = λ k u p.
            by_w k u p (λ v. s'.own v ≡ record { cpu = v.cpu; index = before s'.slow v.cpu v.ctx })
            (rw enter_number gets)
            (λ q. step.owns u (enter_else k u q) ∙ rw (enter_below k u q) (nodes.placed k u q));
      }
    where
      -- a waiter with a node afterwards is w or had one before
      by_w : (k : LockName) (u : Waiter) → has_node (s'.phase k u) ≡ true → (P : Waiter → Type 0)
          → P w → (has_node (s.phase k u) ≡ true → P u) → P u
      by_w k u p P here there =
          elim (waiter_cases u w) [
            | inl e ↦ subst P (sym e) here
            | inr ne ↦ there (elim (lock_cases k l) [
              | inl e ↦ let Q : LockName → Type 0 =
                  λ m. has_node (s'.phase m u) ≡ true → has_node (s.phase m u) ≡ true in
                  subst Q (sym e) (λ q. rw (step.acts.others u ne) at q) p
              | inr nk ↦ rw (step.phases k nk u) at p
            ])
          ]

  -- the nodes agree where it gets none
  pub nodes_enter_bare : {l : LockName} → Step s s' w l Seeks Seeks (s.word l) false false
      → NodesAgree s'.phase s'.own s'.slow s'.queued
  nodes_enter_bare step =
      let old : (k : LockName) (u : Waiter) → has_node (s'.phase k u) ≡ true
      → has_node (s.phase k u) ≡ true = noded step (λ p. p) in
      record {
        counted = enter_counted;
        slowly = λ k u p. enter_slowly k u (old k u p);
        below = λ k u p. rw (enter_below k u (old k u p)) (nodes.below k u (old k u p));
        placed = λ k u p. step.owns u (enter_else k u (old k u p))
            ∙ rw (enter_below k u (old k u p)) (nodes.placed k u (old k u p));
      }

module _ {s s' : Snapshot} {hs : LockName → LockHistory} {w : Waiter} {l : LockName}
    (ok : SnapshotAgrees s hs) where
  -- The waiter enters with a node, which is at rest then.
  pub law_enter_as : Step s s' w l Seeks Prepared (s.word l) false false → EntersSlowPath s s' w
      → s.queued w.cpu < 4 → s'.own w ≡ next_node s w
      → Rewrites s.node s'.node (next_node s w) rest_node
      → (halts s'.mode ≡ true → ParaAgrees s' (hs l) l) → SnapshotAgrees s' hs
  law_enter_as step enters room gets writes posts =
      let o = ok.locks l in
      agrees_after step ok hs (nodes_enter ok.nodes enters step room gets)
      (λ k u ne p. enter_used ok.nodes enters writes k u p) (λ k ne. refl)
      (record {
        holder = o.holder;
        holders = o.holders;
        hold =
            rw step.word (hold_keep o.hold step.acts step.holds refl (λ p. refl)
            (λ p. absurd (grind arith)));
        pend = rw step.word (pend_still o.pend step.acts refl refl refl);
        posts = posts;
        lists = rw step.word (lists_outside ok step refl refl (λ p. rw gets writes.now)
            (λ p z q e. node_used ok.nodes w enters.slow.was enters.on_top.top enters.on_top.low l z
            (queue_node (s.phase l z) q) (sym e ∙ gets))
            (λ u ne p. enter_used ok.nodes enters writes l u p));
      })

  -- The waiter enters without a node, and seeks on.
  pub law_enter_bare_as : Step s s' w l Seeks Seeks (s.word l) false false → EntersSlowPath s s' w
      → SameNodes s s' → (halts s'.mode ≡ true → ParaAgrees s' (hs l) l) → SnapshotAgrees s' hs
  law_enter_bare_as step enters nodes posts =
      let o = ok.locks l in
      agrees_after step ok hs (nodes_enter_bare ok.nodes enters step) (λ k u ne p. nodes (s.own u))
      (λ k ne. refl)
      (record {
        holder = o.holder;
        holders = o.holders;
        hold =
            rw step.word (hold_keep o.hold step.acts step.holds refl (λ p. refl)
            (λ p. absurd (grind arith)));
        pend = rw step.word (pend_still o.pend step.acts refl refl refl);
        posts = posts;
        lists = rw step.word
            (lists_outside ok step refl refl (λ p. absurd (grind arith)) (λ p. absurd (grind arith))
            (λ u ne p. nodes (s.own u)));
      })

module _ {s s' : Snapshot} {hs : LockName → LockHistory} {w : Waiter} {l : LockName}
    (ok : SnapshotAgrees s hs) (awake : halts s.mode ≡ false) where
  -- The waiter enters with a node, which is at rest then.
  pub law_enter : Step s s' w l Seeks Prepared (s.word l) false false → EntersSlowPath s s' w
      → s.queued w.cpu < 4 → s'.own w ≡ next_node s w
      → Rewrites s.node s'.node (next_node s w) rest_node → SnapshotAgrees s' hs
  law_enter step enters room gets writes =
      law_enter_as ok step enters room gets writes (λ e. no_posts step awake e)

  -- The waiter enters without a node, and seeks on.
  pub law_enter_bare : Step s s' w l Seeks Seeks (s.word l) false false → EntersSlowPath s s' w
      → SameNodes s s' → SnapshotAgrees s' hs
  law_enter_bare step enters nodes =
      law_enter_bare_as ok step enters nodes (λ e. no_posts step awake e)
