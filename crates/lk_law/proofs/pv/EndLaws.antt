-- The laws of the rows of the paravirtual lock in which the phase, the hash or the byte changes.
use Rattle.std.proofs.Common.{◌≡◌, ◌≢◌, Option, Some, None, Bool, true, false, ◌⊎◌, inl, inr, arith}
use Rattle.std.proofs.Common.{ap, refl, sym, ◌∙◌, subst, slice_get, drop}
use Rattle.lk_law.proofs.Names.{Locked, Free, Held, Slow, NodeName, get-drop_one, LockHistory, told}
use Rattle.lk_law.proofs.Names.{with_holder, Event, Head, Leave, Pass, Release, Take, LockName}
use Rattle.lk_law.proofs.Names.{Waiter, Go, Node, Halted, Hashed, LeavesSlowPath, Owed}
use Rattle.lk_law.proofs.Names.{SnapshotAgrees, Stays, Step, halts, node_state, Phase, has_node}
use Rattle.lk_law.proofs.Names.{leads, pends, queues, watches, Hands, Holds, Idle, Leads, Prepared}
use Rattle.lk_law.proofs.Names.{Presses, Releases, Seeks, Waits, Post, PostsAgree, agrees, at_halt}
use Rattle.lk_law.proofs.Names.{bare, fronts, post_holds, Calls, Clears, Drops, Erases, Finds, Has}
use Rattle.lk_law.proofs.Names.{Kicks, Marks, Naps, Off, Rises, Signing, Signs, Sleeps, Slowing}
use Rattle.lk_law.proofs.Names.{Slows, Stirs, Tries, Wins, Moves, Rewrites, Snapshot}
use Rattle.lk_names.specs.declared.events.How.TheVariants.{Steal}
use Rattle.lk_names.specs.declared.holder.Manner.TheVariants.{Spins as SpinHold}
use Rattle.lk_law.proofs.common.Cases.{waiter_cases, node_cases}
use Rattle.lk_law.proofs.common.Families.{lists_main, lists_rest}
use Rattle.lk_law.proofs.{common.Frame.{nodes_leave, agrees_after}, common.Puts.put_moves}
use Rattle.lk_law.proofs.common.Told.{told_lock, told_others, sole_taken}
use Rattle.lk_law.proofs.pv.Calls.{k1_hash, k1_done, e4_take, e15_pass, pv_byte}
use Rattle.lk_law.proofs.{pv.Ends.e13_leave, pv.Keep.pv_keep}
use Rattle.lk_law.proofs.pv.Laws.{para, para_queue, para_taken, para_leads, para_holds, law_rise}
use Rattle.lk_law.proofs.pv.Laws.{law_press, law_unpress, law_grab, law_grab_slow, law_drop}
use Rattle.lk_law.proofs.pv.Laws.{law_kick, law_learn, law_call, law_leave, law_done, no_claims}
use Rattle.lk_law.proofs.{pv.Laws.{law_still, posts_met}, pv.Outside.{Posted, para_outside}}
use Rattle.lk_law.proofs.pv.Rows.{w1_rise, e5_mark, e5_sign, w6_wake, e12_wake}
use Rattle.lk_law.proofs.pv.Slow.{k2_slow, k3_sign, u3_find, u4_drop, u5_kick}
use Rattle.lk_law.proofs.pv.StayLaws.{law_looks, law_says, same_state}
use Rattle.lk_law.proofs.pv.Turn.{e6_sign, e7_slow, e8_plain, e9_erase, follows_post}
use Rattle.lk_law.proofs.{queue.Laws.own_is, spin.Hold.hold_take}
use Rattle.lk_law.proofs.{spin.Laws.{SameNodes, lists_outside}, spin.Pend.pend_keep}
use Rattle.lk_law.specs.{Phase.Phase.Tends, Pv.Post.Spins}

-- what was said of the states and the nodes before is true of them afterwards, where no node
-- changed
shift : (s s' : Snapshot) (l : LockName) → ((c : Waiter) → Owed s c.cpu → Owed s' c.cpu)
    → {locked : Locked} {entry : Option NodeName} {front : Option Waiter} → s'.own ≡ s.own
    → SameNodes s s'
    → PostsAgree locked entry front (s'.post l) (node_state s) s.own (λ u. Owed s u.cpu)
    → PostsAgree locked entry front (s'.post l) (node_state s') s'.own (λ u. Owed s' u.cpu)
shift s s' l owed {locked} {entry} {front} own nodes posts =
    let state : (u : Waiter) → node_state s' u ≡ node_state s u =
    λ u. ap (λ (f : Waiter → NodeName). (s'.node (f u)).state) own
    ∙ ap (λ (n : Node). n.state) (nodes (s.own u)) in
    pv_keep locked entry front (s'.post l) (node_state s) (node_state s') s.own s'.own
    (λ u. Owed s u.cpu) (λ u. Owed s' u.cpu) posts
    (λ u q. (state u, ap (λ f. f u) own)) (λ u q. (state u, ap (λ f. f u) own)) (λ u q d. owed u d)

-- the same, where w leaves the slow path, and its post is none
shift_leaves : (s s' : Snapshot) (w : Waiter) (l : LockName)
    → ((c : Waiter) → Owed s c.cpu → Owed s' c.cpu)
    → {locked : Locked} {entry : Option NodeName} {front : Option Waiter}
    → ((u : Waiter) → u ≢ w → s'.own u ≡ s.own u) → SameNodes s s' → s'.post l w ≡ Off
    → front ≢ Some w
    → PostsAgree locked entry front (s'.post l) (node_state s) s.own (λ u. Owed s u.cpu)
    → PostsAgree locked entry front (s'.post l) (node_state s') s'.own (λ u. Owed s' u.cpu)
shift_leaves s s' w l owed {locked} {entry} {front} owns nodes off behind posts =
    let state : (u : Waiter) → u ≢ w → node_state s' u ≡ node_state s u =
    λ u ne. ap (λ k. (s'.node k).state) (owns u ne)
    ∙ ap (λ (n : Node). n.state) (nodes (s.own u)) in
    pv_keep locked entry front (s'.post l) (node_state s) (node_state s') s.own s'.own
    (λ u. Owed s u.cpu) (λ u. Owed s' u.cpu) posts
    (λ u q. let ne : u ≢ w = (λ e. let o = ap (s'.post l) e in grind (arith, o, off, q)) in
    (state u ne, owns u ne))
    (λ u q. let ne : u ≢ w = (λ e. behind (q ∙ ap Some e)) in
    (state u ne, owns u ne)) (λ u q d. owed u d)

post_same : {f g : Waiter → Post} {w : Waiter} {c : Post} → Moves f g w c c → g ≡ f
post_same {f = f} {g = g} {w = w} moves = (λ i u. one u i)
  where
    one : (u : Waiter) → g u ≡ f u
    one u = elim (waiter_cases u w) [
      | inl e ↦ ap g e ∙ moves.now ∙ sym (ap f e ∙ moves.was)
      | inr ne ↦ moves.others u ne
    ]

not_front : {s : Snapshot} {hs : LockName → LockHistory} (ok : SnapshotAgrees s hs) (l : LockName)
    (w : Waiter) {y : NodeName}
    → s.phase l w ≡ Tends y → slice_get (hs l).main 0 ≢ Some w
not_front ok l w was e = let q = lists_main (ok.locks l).lists 0 w e in grind (arith, was, q)

module _ {s s' : Snapshot} {hs : LockName → LockHistory} {w : Waiter} {l : LockName}
    (ok : SnapshotAgrees s hs) (on : halts s.mode ≡ true)
    (owed : (c : Waiter) → Owed s c.cpu → Owed s' c.cpu) where
  -- W1, its flag set
  pub law_W1_rise : Step s s' w l Waits Leads (s.word l) false false → Stays s s' w → SameNodes s s'
      → leads Waits ((s.node (s.own w)).flag) ≡ true → Moves (s.post l) (s'.post l) w Spins Rises
      → s'.entry l ≡ s.entry l → slice_get (hs l).main 0 ≡ Some w → SnapshotAgrees s' hs
  law_W1_rise step stays nodes lead moves entry at =
      law_rise ok on step stays nodes lead
      (rw entry (shift s s' l owed (own_is stays step.owns) nodes
      (w1_rise (posts_met ok on l) (node_state s w) moves (same_state s w) at)))
      (ap (λ (c : Post). agrees c Leads) moves.now)

  -- E4, taking
  pub law_E4_take : (b : Bool)
      → Step s s' w l Presses Holds
      (record { locked = Held; pending = false; tail = (s.word l).tail }) false false
      → Stays s s' w → SameNodes s s' → (s.word l).locked ≡ Free
      → Moves (s.post l) (s'.post l) w (Tries b) Has → s'.entry l ≡ s.entry l
      → SnapshotAgrees s' (λ k. told k (hs k) (record { by = w; what = Take l Head }))
  law_E4_take b step stays nodes free moves entry =
      law_grab ok on step stays nodes free
      (rw entry (shift s s' l owed (own_is stays step.owns) nodes
      (e4_take (posts_met ok on l) b moves free)))
      (ap (λ (c : Post). agrees c Holds) moves.now)

  -- E5
  pub law_E5_mark : Step s s' w l Presses Leads
      (record { locked = (s.word l).locked; pending = false; tail = (s.word l).tail }) false false
      → Stays s s' w → SameNodes s s' → Moves (s.post l) (s'.post l) w (Tries true) Marks
      → s'.entry l ≡ s.entry l → SnapshotAgrees s' hs
  law_E5_mark step stays nodes moves entry =
      law_unpress ok on step stays nodes
      (rw entry (shift s s' l owed (own_is stays step.owns) nodes
      (e5_mark (posts_met ok on l) (node_state s w) moves (same_state s w))))
      (ap (λ (c : Post). agrees c Leads) moves.now)

  pub law_E5_sign : Step s s' w l Presses Leads
      (record { locked = (s.word l).locked; pending = false; tail = (s.word l).tail }) false false
      → Stays s s' w → SameNodes s s' → Moves (s.post l) (s'.post l) w (Tries false) Signs
      → s'.entry l ≡ s.entry l → SnapshotAgrees s' hs
  law_E5_sign step stays nodes moves entry =
      law_unpress ok on step stays nodes
      (rw entry (shift s s' l owed (own_is stays step.owns) nodes
      (e5_sign (posts_met ok on l) (node_state s w) moves (same_state s w))))
      (ap (λ (c : Post). agrees c Leads) moves.now)

  -- E6: the front enters itself into the hash, in which its lock was not entered.
  pub law_E6 : Step s s' w l Leads Leads (s.word l) false false → Stays s s' w → SameNodes s s'
      → Moves (s.post l) (s'.post l) w Signs Slows → s'.entry l ≡ Some (s.own w)
      → SnapshotAgrees s' hs × (s.entry l ≡ None)
  law_E6 step stays nodes moves entry =
      let r = e6_sign (posts_met ok on l) moves in
      (law_looks ok on step stays nodes moves owed refl refl refl (inl refl) (rw entry r.0), r.1)

  -- E7
  pub law_E7_take : Step s s' w l Leads Holds
      (record { locked = Slow; pending = (s.word l).pending; tail = (s.word l).tail }) false false
      → Stays s s' w → SameNodes s s' → (s.word l).locked ≡ Free
      → Moves (s.post l) (s'.post l) w Slows Wins → s'.entry l ≡ s.entry l
      → SnapshotAgrees s' (λ k. told k (hs k) (record { by = w; what = Take l Head }))
  law_E7_take step stays nodes free moves entry =
      law_grab_slow ok on step stays nodes free
      (rw entry (shift s s' l owed (own_is stays step.owns) nodes
      (e7_slow (posts_met ok on l) Wins moves (inl (free, refl)))))
      (ap (λ (c : Post). agrees c Holds) moves.now)

  pub law_E7_mark : Step s s' w l Leads Leads
      (record { locked = Slow; pending = (s.word l).pending; tail = (s.word l).tail }) false false
      → Stays s s' w → SameNodes s s' → (s.word l).locked ≢ Free
      → Moves (s.post l) (s'.post l) w Slows Marks → s'.entry l ≡ s.entry l → SnapshotAgrees s' hs
  law_E7_mark step stays nodes full moves entry =
      law_looks ok on step stays nodes moves owed refl refl refl (inr (full, λ q. cc q))
      (rw entry (e7_slow (posts_met ok on l) Marks moves (inr (full, refl))))

  -- E8 and E9: the front took the lock as slow, makes it plain, and takes itself out of the hash.
  pub law_E8 : Step s s' w l Holds Holds
      (record { locked = Held; pending = (s.word l).pending; tail = (s.word l).tail }) false false
      → Stays s s' w → SameNodes s s' → Moves (s.post l) (s'.post l) w Wins Erases
      → s'.entry l ≡ s.entry l → SnapshotAgrees s' hs
  law_E8 step stays nodes moves entry =
      law_looks ok on step stays nodes moves owed refl refl refl
      (inr (para_taken ok on l w (ap post_holds moves.was), λ q. cc q))
      (rw entry (e8_plain (posts_met ok on l) moves))

  pub law_E9 : Step s s' w l Holds Holds (s.word l) false false → Stays s s' w → SameNodes s s'
      → Moves (s.post l) (s'.post l) w Erases Has → s'.entry l ≡ None
      → SnapshotAgrees s' hs × (s.entry l ≡ Some (s.own w))
  law_E9 step stays nodes moves entry =
      let r = e9_erase (posts_met ok on l) moves in
      (law_looks ok on step stays nodes moves owed refl refl refl (inl refl) (rw entry r.0), r.1)

  -- E15: the lead goes to the next, which the front looks after.
  pub law_E15 : {y : NodeName} {x : Node} (to : Waiter)
      → Step s s' w l (Hands y) (Tends y) (s.word l) false false → Stays s s' w
      → Rewrites s.node s'.node y x → x ≡ record (s.node y) { flag = Go }
      → Moves (s.post l) (s'.post l) w Has (Calls y) → s'.entry l ≡ s.entry l
      → SnapshotAgrees s' (λ k. told k (hs k) (record { by = w; what = Pass l to 0 }))
  law_E15 {y = y} to step stays writes store moves entry =
      let v = (para_queue ok on l).links.hand w y step.acts.was in
      let own = own_is stays step.owns in
      let at = para_leads ok on l w (ap fronts moves.was) in
      let gone : slice_get (drop 1 (hs l).main) 0 ≡ Some v.0 = get-drop_one (hs l).main 0 ∙ v.1 in
      let other : v.0 ≢ w =
      (λ e. let o = ap (s.phase l) e in grind (arith, o, v.2, step.acts.was)) in
      let waits : follows_post (s.post l v.0) ≡ true =
      waits_follows (s.post l v.0)
      (subst (λ (r : Phase). agrees (s.post l v.0) r ≡ true) v.2 ((para ok on l).suits v.0)) in
      law_call ok on to step stays writes (ap (λ (n : Node). n.flag) store)
      (ap (λ (n : Node). n.next) store)
      (rw (entry, gone)
      (pv_keep (s.word l).locked (s.entry l) (Some v.0) (s'.post l) (node_state s) (node_state s')
      s.own s'.own (λ u. Owed s u.cpu) (λ u. Owed s' u.cpu)
      (e15_pass (posts_met ok on l) v.0
      (subst (λ (n : NodeName). Moves (s.post l) (s'.post l) w Has (Calls n)) (sym v.3) moves) other
      waits)
      (λ u q. (state own u, ap (λ f. f u) own)) (λ u q. (state own u, ap (λ f. f u) own))
      (λ u q d. owed u d)))
      (ap (λ (c : Post). agrees c (Tends y)) moves.now)
    where
      waits_follows : (c : Post) → agrees c Waits ≡ true → follows_post c ≡ true
      waits_follows c h = grind arith

      state : s'.own ≡ s.own → (u : Waiter) → node_state s' u ≡ node_state s u
      state own u =
          ap (λ (f : Waiter → NodeName). (s'.node (f u)).state) own
          ∙ elim (node_cases (s.own u) y) [
            | inl e ↦ ap (λ k. (s'.node k).state) e
                ∙ ap (λ (n : Node). n.state) (writes.now ∙ store)
                ∙ ap (λ k. (s.node k).state) (sym e)
            | inr ne ↦ ap (λ (n : Node). n.state) (writes.others (s.own u) ne)
          ]

  -- K1, the next halted: it is marked as hashed.
  pub law_K1_hash : {y : NodeName} (z : Waiter)
      → Step s s' w l (Tends y) (Tends y) (s.word l) false false → Stays s s' w
      → slice_get (hs l).main 0 ≡ Some z → node_state s z ≡ Halted
      → Rewrites s.node s'.node (s.own z) (record (s.node (s.own z)) { state = Hashed })
      → (follows_post (s.post l z) ≡ true) ⊎ (fronts (s.post l z) ≡ true)
      → Moves (s.post l) (s'.post l) w (Calls y) (Slowing y) → s'.entry l ≡ s.entry l
      → SnapshotAgrees s' hs
  law_K1_hash {y = y} z step stays at halted writes way moves entry =
      law_says ok on z step stays
      (queued_noded (s.phase l z) (lists_main (ok.locks l).lists 0 z at))
      (λ e. let q = lists_main (ok.locks l).lists 0 z at in grind (arith, e, q)) writes refl
      moves owed refl entry
      (k1_hash (posts_met ok on l) y z moves at
      (put_moves (node_state s) z Halted Hashed halted) way)
    where
      queued_noded : (r : Phase) → queues r ≡ true → has_node r ≡ true
      queued_noded r h = grind arith

  -- K2: the holder makes the byte slow.
  pub law_K2 : {y : NodeName}
      → Step s s' w l (Tends y) (Tends y)
      (record { locked = Slow; pending = (s.word l).pending; tail = (s.word l).tail }) false
      false
      → Stays s s' w → SameNodes s s' → Moves (s.post l) (s'.post l) w (Slowing y) (Signing y)
      → s'.entry l ≡ s.entry l → SnapshotAgrees s' hs
  law_K2 {y = y} step stays nodes moves entry =
      law_looks ok on step stays nodes moves owed refl refl refl
      (inr (para_taken ok on l w (ap post_holds moves.was), λ q. cc q))
      (rw entry (k2_slow (posts_met ok on l) y moves))

  -- U3: the releaser takes the lock out of the hash.
  pub law_U3 : {t : NodeName} → Step s s' w l Releases Releases (s.word l) true true → Stays s s' w
      → SameNodes s s' → s.entry l ≡ Some t → Moves (s.post l) (s'.post l) w Finds (Drops t)
      → s'.entry l ≡ None → SnapshotAgrees s' hs
  law_U3 {t = t} step stays nodes there moves entry =
      law_looks ok on step stays nodes moves owed refl refl refl (inl refl)
      (rw entry (u3_find (posts_met ok on l) t moves there))

  -- U2: the plain release.
  pub law_U2 : Step s s' w l Releases Idle
      (record { locked = Free; pending = (s.word l).pending; tail = (s.word l).tail }) true false
      → Stays s s' w → SameNodes s s' → (s.word l).locked ≡ Held
      → Moves (s.post l) (s'.post l) w Off Off → s'.entry l ≡ s.entry l
      → SnapshotAgrees s' (λ k. told k (hs k) (record { by = w; what = Release l None }))
  law_U2 step stays nodes held moves entry =
      let o = ok.locks l in
      let mine : o.holder ≡ Some w = o.hold.has w (grind (arith, step.acts.was, step.holds.was)) in
      let same : s'.post l ≡ s.post l = (λ i u. post_same u i) in
      law_drop ok on None step stays nodes (inl refl)
      (shift s s' l owed (own_is stays step.owns) nodes
      (rw (entry, same) (pv_byte (posts_met ok on l) Free
      (λ q. grind (arith, held, q)) (λ q. cc q)
      (λ u. nobody mine u (post_holds (s.post l u)) refl))))
      (ap (λ (c : Post). agrees c Idle) moves.now)
    where
      post_same : (u : Waiter) → s'.post l u ≡ s.post l u
      post_same u =
          elim (waiter_cases u w) [
            | inl e ↦ ap (s'.post l) e ∙ moves.now
                ∙ sym (ap (s.post l) e ∙ moves.was)
            | inr ne ↦ moves.others u ne
          ]

      nobody : (ok.locks l).holder ≡ Some w → (u : Waiter) (b : Bool) → post_holds (s.post l u) ≡ b
          → post_holds (s.post l u) ≡ false
      nobody mine u false e = e
      nobody mine u true e =
          let h = para_holds ok on l u e in
          let same : u ≡ w = grind (arith, h, mine) in
          absurd (let z = ap (s.post l) same in grind (arith, z, moves.was, e))

  -- E3: the front sets pending.
  pub law_E3 : (b : Bool)
      → Step s s' w l Leads Presses
      (record { locked = (s.word l).locked; pending = true; tail = (s.word l).tail }) false
      false
      → Stays s s' w → SameNodes s s' → Moves (s.post l) (s'.post l) w (Tries b) (Tries b)
      → s'.entry l ≡ s.entry l → SnapshotAgrees s' hs
  law_E3 b step stays nodes moves entry =
      law_press ok on step stays nodes
      (shift s s' l owed (own_is stays step.owns) nodes
      (rw (entry, post_same moves) (para ok on l).posts))
      (ap (λ (c : Post). agrees c Presses) moves.now)

  -- E14: it learns the node behind its own.
  pub law_E14 : {n : NodeName} → Step s s' w l Holds (Hands n) (s.word l) false false → Stays s s' w
      → SameNodes s s' → (s.node (s.own w)).next ≡ Some n → Moves (s.post l) (s'.post l) w Has Has
      → s'.entry l ≡ s.entry l → SnapshotAgrees s' hs
  law_E14 {n = n} step stays nodes next moves entry =
      law_learn ok on step stays nodes next
      (shift s s' l owed (own_is stays step.owns) nodes
      (rw (entry, post_same moves) (para ok on l).posts))
      (ap (λ (c : Post). agrees c (Hands n)) moves.now)

  -- E13: the front is the last of the queue.
  pub law_E13 : Step s s' w l Holds Idle
      (record { locked = (s.word l).locked; pending = (s.word l).pending; tail = None }) false true
      → LeavesSlowPath s s' w → SameNodes s s' → (s.word l).tail ≡ Some (s.own w)
      → slice_get (hs l).main 1 ≡ None → Moves (s.post l) (s'.post l) w Has Off
      → s'.entry l ≡ s.entry l
      → SnapshotAgrees s' (λ k. told k (hs k) (record { by = w; what = Leave l }))
  law_E13 step goes nodes mine alone moves entry =
      let gone : slice_get (drop 1 (hs l).main) 0 ≡ None = get-drop_one (hs l).main 0 ∙ alone in
      law_leave ok on step goes nodes mine
      (rw (entry, gone) (shift_leaves s s' w l owed step.owns nodes moves.now (λ e. cc e)
      (e13_leave (posts_met ok on l) moves)))
      (ap (λ (c : Post). agrees c Idle) moves.now)

  -- K1, the next did not halt; and K3: the next is entered into the hash, in which its lock was not
  -- entered.
  pub law_K1_done : {y : NodeName} → Step s s' w l (Tends y) Idle (s.word l) false true
      → LeavesSlowPath s s' w → SameNodes s s' → Moves (s.post l) (s'.post l) w (Calls y) Off
      → s'.entry l ≡ s.entry l
      → ((z : Waiter) → slice_get (hs l).main 0 ≡ Some z → node_state s z ≢ Halted)
      → SnapshotAgrees s' hs
  law_K1_done {y = y} step goes nodes moves entry awake =
      law_done ok on step goes nodes
      (rw entry (shift_leaves s s' w l owed step.owns nodes moves.now
      (not_front ok l w step.acts.was) (k1_done (posts_met ok on l) y moves awake)))
      (ap (λ (c : Post). agrees c Idle) moves.now)

  pub law_K3 : {y : NodeName} → Step s s' w l (Tends y) Idle (s.word l) false true
      → LeavesSlowPath s s' w → SameNodes s s' → Moves (s.post l) (s'.post l) w (Signing y) Off
      → s'.entry l ≡ Some y → SnapshotAgrees s' hs × (s.entry l ≡ None)
  law_K3 {y = y} step goes nodes moves entry = (
    law_done ok on step goes nodes
        (rw entry (shift_leaves s s' w l owed step.owns nodes moves.now
        (not_front ok l w step.acts.was) (k3_sign (posts_met ok on l) y moves)))
        (ap (λ (c : Post). agrees c Idle) moves.now),
    (para ok on l).posts.bare_entry w (ap bare moves.was),
  )

  -- U4: the release that owes a kick. U5: the kick.
  pub law_U4 : {t : NodeName}
      → Step s s' w l Releases Seeks
      (record { locked = Free; pending = (s.word l).pending; tail = (s.word l).tail }) true
      false
      → Stays s s' w → SameNodes s s' → Moves (s.post l) (s'.post l) w (Drops t) (Kicks t)
      → s'.entry l ≡ s.entry l
      → SnapshotAgrees s' (λ k. told k (hs k) (record { by = w; what = Release l (Some t.cpu) }))
  law_U4 {t = t} step stays nodes moves entry =
      let own = own_is stays step.owns in
      let state : (u : Waiter) → node_state s' u ≡ node_state s u =
      λ u. ap (λ (f : Waiter → NodeName). (s'.node (f u)).state) own
      ∙ ap (λ (n : Node). n.state) (nodes (s.own u)) in
      law_drop ok on (Some t.cpu) step stays nodes (inr refl)
      (rw entry (pv_keep Free (s.entry l) (slice_get (hs l).main 0) (s'.post l) (node_state s)
      (node_state s') s.own s'.own (λ u. Owed s' u.cpu) (λ u. Owed s' u.cpu)
      (u4_drop (posts_met ok on l) {owed' = λ u. Owed s' u.cpu} t moves owed
      (λ z at e. inr (
        l,
        w,
        t,
        moves.now,
        ap (λ (n : NodeName). n.cpu)
            (sym e ∙ ok.nodes.placed l z
            (noded (s.phase l z) (lists_main (ok.locks l).lists 0 z at))),
      )))
      (λ u q. (state u, ap (λ f. f u) own)) (λ u q. (state u, ap (λ f. f u) own)) (λ u q d. d)))
      (ap (λ (c : Post). agrees c Seeks) moves.now)
    where
      noded : (r : Phase) → queues r ≡ true → has_node r ≡ true
      noded r h = grind arith

  pub law_U5 : {t : NodeName} → Step s s' w l Seeks Idle (s.word l) false false → Stays s s' w
      → SameNodes s s' → Moves (s.post l) (s'.post l) w (Kicks t) Off → s'.entry l ≡ s.entry l
      → SnapshotAgrees s' hs
  law_U5 {t = t} step stays nodes moves entry =
      let own = own_is stays step.owns in
      let state : (u : Waiter) → node_state s' u ≡ node_state s u =
      λ u. ap (λ (f : Waiter → NodeName). (s'.node (f u)).state) own
      ∙ ap (λ (n : Node). n.state) (nodes (s.own u)) in
      law_kick ok on step stays nodes
      (rw entry (pv_keep (s.word l).locked (s.entry l) (slice_get (hs l).main 0) (s'.post l)
      (node_state s) (node_state s') s.own s'.own (λ u. Owed s' u.cpu) (λ u. Owed s' u.cpu)
      (u5_kick (posts_met ok on l) {owed' = λ u. Owed s' u.cpu} t moves owed)
      (λ u q. (state u, ap (λ f. f u) own)) (λ u q. (state u, ap (λ f. f u) own)) (λ u q d. d)))
      (ap (λ (c : Post). agrees c Idle) moves.now)

-- H2: a waiter that is in no queue yet steals the free lock, whatever waits for it.
module _ {s s' : Snapshot} {hs : LockName → LockHistory} {w : Waiter} {l : LockName} {r : Phase}
    (ok : SnapshotAgrees s hs) (on : halts s.mode ≡ true) where
  pub law_H2 : (step : Step s s' w l r Idle
      (record { locked = Held; pending = (s.word l).pending; tail = (s.word l).tail }) false true)
      → LeavesSlowPath s s' w → SameNodes s s' → (r ≡ Prepared) ⊎ (r ≡ Seeks)
      → (s.word l).locked ≡ Free → Posted s s' w l Off Off
      → SnapshotAgrees s' (λ k. told k (hs k) (record { by = w; what = Take l Steal }))
  law_H2 step goes nodes way free posted =
      let o = ok.locks l in
      let e : Event = record { by = w; what = Take l Steal } in
      let out = seeking r way in
      agrees_after step ok (λ k. told k (hs k) e) (nodes_leave step ok.nodes goes refl)
      (λ k u ne p. nodes (s.own u)) (told_others hs e refl)
      (told_lock (hs l) e refl (record {
        holder = Some w;
        holders = sole_taken (hs l) w o.holder o.holders (o.hold.free free);
        hold =
            rw step.word (hold_take o.hold step.acts step.holds free refl
            (λ q. absurd (grind arith)) (λ q. absurd (grind arith)));
        pend = rw step.word
            (pend_keep o.pend step.acts Held (sym out.1) (λ q. absurd (grind arith)) (sym out.2)
            (λ q. absurd (grind arith)) (λ u n q. absurd (no_claims ok on l u q)));
        posts = λ a.
            para_outside ok on step posted (with_holder (hs l) w SpinHold) refl refl out.0
            (inr (free, refl)) (λ u ne n. nodes (s.own u));
        lists = rw step.word
            (lists_outside ok step out.0 refl (λ q. absurd (grind arith))
            (λ q. absurd (grind arith)) (λ u ne p. nodes (s.own u)));
      }))
    where
      seeking : (r : Phase) → (r ≡ Prepared) ⊎ (r ≡ Seeks)
          → (queues r ≡ false) × (pends r ≡ false) × (watches r ≡ false)
      seeking r (inl e) = rw e (refl, refl, refl)
      seeking r (inr e) = rw e (refl, refl, refl)

-- A halt ends: of a waiter, which goes on behind it, or of a front. A kick that ended it is
-- remembered no more.
module _ {s s' : Snapshot} {hs : LockName → LockHistory} {w : Waiter} {l : LockName}
    (ok : SnapshotAgrees s hs) (on : halts s.mode ≡ true)
    (owed : (c : Waiter) → c.cpu ≢ w.cpu → Owed s c.cpu → Owed s' c.cpu) where
  pub law_woken : {r : Phase} {h : Bool} {p q : Post} → Step s s' w l r r (s.word l) h h
      → Stays s s' w → SameNodes s s' → Moves (s.post l) (s'.post l) w p q → at_halt p ≡ true
      → at_halt q ≡ false → agrees q r ≡ true → s'.entry l ≡ s.entry l
      → PostsAgree (s.word l).locked (s.entry l) (slice_get (hs l).main 0) (s'.post l)
      (node_state s)
      s.own (λ u. Owed s u.cpu)
      → SnapshotAgrees s' hs
  law_woken {r = r} {q = q} step stays nodes moves was now suit entry posts =
      let own = own_is stays step.owns in
      let state : (u : Waiter) → node_state s' u ≡ node_state s u =
      λ u. ap (λ (f : Waiter → NodeName). (s'.node (f u)).state) own
      ∙ ap (λ (n : Node). n.state) (nodes (s.own u)) in
      law_still ok on step stays refl refl (inl refl)
      (λ u a. (
        ap (λ (n : Node). n.flag) (nodes (s.own u)),
        ap (λ (n : Node). n.next) (nodes (s.own u)),
      ))
      (λ u a. nodes (s.own u) ∙ lists_rest (ok.locks l).lists u a) (λ k u ne a. nodes (s.own u))
      (rw entry (pv_keep (s.word l).locked (s.entry l) (slice_get (hs l).main 0) (s'.post l)
      (node_state s) (node_state s') s.own s'.own (λ u. Owed s u.cpu) (λ u. Owed s' u.cpu) posts
      (λ u a. (state u, ap (λ f. f u) own)) (λ u a. (state u, ap (λ f. f u) own))
      (λ u a d. let ne : u ≢ w =
      (λ e. let b = ap (s'.post l) e ∙ moves.now in grind (arith, b, a, now)) in
      owed u (λ e.
      ne (ok.sleeper on l l u w (ap at_halt (sym (moves.others u ne)) ∙ a)
      (ap at_halt moves.was ∙ was) e)) d)))
      (subst (λ (c : Post). agrees c r ≡ true) (sym moves.now) suit)

  pub law_W6_ends : {h : Bool} → Step s s' w l Waits Waits (s.word l) h h → Stays s s' w
      → SameNodes s s' → Moves (s.post l) (s'.post l) w Sleeps Stirs → s'.entry l ≡ s.entry l
      → SnapshotAgrees s' hs
  law_W6_ends step stays nodes moves entry =
      law_woken step stays nodes moves refl refl refl entry
      (w6_wake (posts_met ok on l) (node_state s w) moves (same_state s w))

  pub law_E12_ends : {h : Bool} → Step s s' w l Leads Leads (s.word l) h h → Stays s s' w
      → SameNodes s s' → Moves (s.post l) (s'.post l) w Naps (Clears true) → s'.entry l ≡ s.entry l
      → SnapshotAgrees s' hs
  law_E12_ends step stays nodes moves entry =
      law_woken step stays nodes moves refl refl refl entry
      (e12_wake (posts_met ok on l) (node_state s w) moves (same_state s w))
