-- The laws of the paravirtual lock.
use Rattle.std.proofs.Common.{◌≡◌, ◌≢◌, ℕ, suc, Option, Some, None, Bool, true, false, [], ◌++◌}
use Rattle.std.proofs.Common.{◌⊎◌, inl, inr, arith, ap, refl, sym, ◌∙◌, subst, slice_get, drop, map}
use Rattle.std.proofs.Common.{if◌then◌else◌}
use Rattle.lk_law.proofs.Names.{Fields, Free, Held, Slow, NodeName, LockHistory, told, with_holder}
use Rattle.lk_law.proofs.Names.{without_holder, same_waiter, Event, Head, Leave, Pass, Release}
use Rattle.lk_law.proofs.Names.{Take, Spins, LockName, Mode, Cna, Native, Pv, Virt, Waiter}
use Rattle.lk_law.proofs.Names.{rest_node, Go, Node, LeavesSlowPath, LockAgrees, Owed, ParaAgrees}
use Rattle.lk_law.proofs.Names.{SnapshotAgrees, Stays, Step, halts, node_state, sole, moves_aside}
use Rattle.lk_law.proofs.Names.{Phase, claims, has_lock, has_node, leads, pends, queues, seeks}
use Rattle.lk_law.proofs.Names.{stakes, watches, Hands, Holds, Idle, Leads, Prepared, Presses}
use Rattle.lk_law.proofs.Names.{Releases, Seeks, Waits, Post, PostsAgree, agrees, fronts}
use Rattle.lk_law.proofs.Names.{post_holds, Naps, Sleeps, HolderAgrees, PendingAgrees, QueueAgrees}
use Rattle.lk_law.proofs.Names.{Rewrites, Snapshot, spins}
use Rattle.lk_law.proofs.{cna.Look.queue_same, common.Cases.waiter_cases}
use Rattle.lk_law.proofs.common.Frame.{LeavesOthers, nodes_stay, nodes_leave, agrees_after}
use Rattle.lk_law.proofs.common.Puts.{put_moves}
use Rattle.lk_law.proofs.common.Told.{told_lock, told_others, sole_taken, sole_freed}
use Rattle.lk_law.proofs.{pv.Calls.kicked, pv.Keep.{agrees-holds, agrees-fronts}, pv.Met.Met}
use Rattle.lk_law.proofs.queue.Keep.{queue_keep}
use Rattle.lk_law.proofs.queue.Laws.{own_is, node_is, flat_lists, apart_on, rewrite_here}
use Rattle.lk_law.proofs.{queue.Lead.{queue_lead, lead_first, second_is}, queue.Pass.queue_pass}
use Rattle.lk_law.proofs.queue.Sole.{queue_sole}
use Rattle.lk_law.proofs.spin.Hold.{hold_keep, hold_take, hold_take_as, hold_turn, hold_drop_as}
use Rattle.lk_law.proofs.spin.Laws.{SameNodes}
use Rattle.lk_law.proofs.spin.Pend.{pend_keep, pend_still, pend_set, pend_clear}
use Rattle.lk_law.specs.Phase.Phase.{Tends}

-- a family that halts processors moves nobody aside
pub halts_flat : (mode : Mode) → halts mode ≡ true → moves_aside mode ≡ false
halts_flat Pv e = refl
halts_flat Virt e = cc e
halts_flat Native e = cc e
halts_flat Cna e = cc e

module _ {s : Snapshot} {hs : LockName → LockHistory} (ok : SnapshotAgrees s hs)
    (on : halts s.mode ≡ true) (l : LockName) where
  pub para : ParaAgrees s (hs l) l
  para = (ok.locks l).posts on

  pub para_queue : QueueAgrees (s.word l).tail (s.phase l) s.own s.node (hs l).main
  para_queue = ((ok.locks l).lists.flat (halts_flat s.mode on)).queue

  -- a post that holds the lock is its holder's
  pub para_holds : (u : Waiter) → post_holds (s.post l u) ≡ true → (ok.locks l).holder ≡ Some u
  para_holds u h =
      let o = ok.locks l in
      elim (agrees-holds (s.post l u) (s.phase l u) (para.suits u) h) [
        | inl q ↦ o.hold.has u (any (s.phase l u) (spins (s.held u l)) q)
        | inr f ↦ o.hold.has u (let e = o.hold.releases u f in grind (arith, f, e))
      ]
    where
      any : (r : Phase) (b : Bool) → has_lock r false ≡ true → has_lock r b ≡ true
      any r b q = grind arith

  pub para_only : (u v : Waiter) → post_holds (s.post l u) ≡ true → post_holds (s.post l v) ≡ true
      → u ≡ v
  para_only u v p q = let a = para_holds u p in let b = para_holds v q in grind (arith, a, b)

  pub para_taken : (u : Waiter) → post_holds (s.post l u) ≡ true → (s.word l).locked ≢ Free
  para_taken u h z =
      let a = para_holds u h in let f = (ok.locks l).hold.free z in grind (arith, a, f)

  -- a post of a front is the front's
  pub para_leads : (u : Waiter) → fronts (s.post l u) ≡ true → slice_get (hs l).main 0 ≡ Some u
  para_leads u h =
      lead_first para_queue u (agrees-fronts (s.post l u) (s.phase l u) ((s.node (s.own u)).flag)
      (para.suits u) h)

  -- the posts as a row meets them
  pub posts_met : Met (s.word l).locked (s.entry l) (slice_get (hs l).main 0) (s.post l)
      (node_state s)
      s.own (λ u. Owed s u.cpu)
  posts_met =
      record { posts = para.posts; only = para_only; leads = para_leads; taken = para_taken }

  -- where nobody holds the lock, a front that is about to halt or halted is owed a kick
  pub para_owed : (s.word l).locked ≡ Free → (u : Waiter) → slice_get (hs l).main 0 ≡ Some u
      → (s.post l u ≡ Sleeps) ⊎ (s.post l u ≡ Naps) → Owed s u.cpu
  para_owed free u at asleep =
      kicked posts_met free u at asleep

  pub para_single : (hs l).second ≡ []
  para_single = ((ok.locks l).lists.flat (halts_flat s.mode on)).single

  pub para_unpassed : (hs l).passes ≡ []
  para_unpassed = ((ok.locks l).lists.flat (halts_flat s.mode on)).unpassed

  -- in this family the pending bit is the front's
  pressed_is : (u : Waiter) → pends (s.phase l u) ≡ true → s.phase l u ≡ Presses
  pressed_is u p = go (s.post l u) (s.phase l u) (para.suits u) p
    where
      go : (q : Post) (r : Phase) → agrees q r ≡ true → pends r ≡ true → r ≡ Presses
      go q r a h = grind (arith, a, h)

  pub not_pending : (w : Waiter) → slice_get (hs l).main 0 ≡ Some w → s.phase l w ≡ Leads
      → (b : Bool) → (s.word l).pending ≡ b → (s.word l).pending ≡ false
  not_pending w at was false e = e
  not_pending w at was true e =
      let u = (ok.locks l).pend.someone e in
      let q = pressed_is u.0 u.1 in
      let f = lead_first para_queue u.0 (grind (arith, q)) in
      let same : u.0 ≡ w = grind (arith, f, at) in
      absurd (grind (arith, ap (s.phase l) same, q, was))

  pub no_claims : (u : Waiter) → claims (s.phase l u) ≡ true → ⊥
  no_claims u c = go (s.post l u) (s.phase l u) (para.suits u) c
    where
      go : (q : Post) (r : Phase) → agrees q r ≡ true → claims r ≡ true → ⊥
      go q r a h = grind (arith, a, h)

module _ {s s' : Snapshot} {hs : LockName → LockHistory} {w : Waiter} {l : LockName}
    (ok : SnapshotAgrees s hs) (on : halts s.mode ≡ true) where
  -- the posts of the lock afterwards suit the phases, where the acting waiter's does
  suits_after : {r r' : Phase} {x : Fields} {h h' : Bool} → Step s s' w l r r' x h h'
      → agrees (s'.post l w) r' ≡ true → (u : Waiter) → agrees (s'.post l u) (s'.phase l u) ≡ true
  suits_after step mine u =
      elim (waiter_cases u w) [
        | inl e ↦ let P : Waiter → Type 0 = λ v. agrees (s'.post l v) (s'.phase l v) ≡ true in
            subst P (sym e) (ap (agrees (s'.post l w)) step.acts.now ∙ mine)
        | inr ne ↦ rw (step.posts l u ne, step.acts.others u ne) ((para ok on l).suits u)
      ]

  -- A row of the paravirtual lock that keeps the phase, the pending bit, the tail and all links and
  -- flags: it changes the post, and at most the state of a node, the entry in the hash, and, while
  -- the lock is held, the byte.
  pub law_still : {r : Phase} {h : Bool} {x : Fields} → Step s s' w l r r x h h → Stays s s' w
      → x.pending ≡ (s.word l).pending → x.tail ≡ (s.word l).tail
      → (x.locked ≡ (s.word l).locked) ⊎ (((s.word l).locked ≢ Free) × (x.locked ≢ Free))
      → ((u : Waiter) → queues (s.phase l u) ≡ true
      → ((s'.node (s.own u)).flag ≡ (s.node (s.own u)).flag)
      × ((s'.node (s.own u)).next ≡ (s.node (s.own u)).next))
      → ((u : Waiter) → s.phase l u ≡ Prepared → s'.node (s.own u) ≡ rest_node)
      → LeavesOthers s s' l
      → PostsAgree x.locked (s'.entry l) (slice_get (hs l).main 0) (s'.post l)
      (node_state s') s'.own
      (λ u. Owed s' u.cpu)
      → agrees (s'.post l w) r ≡ true → SnapshotAgrees s' hs
  law_still {r = r} {h = h} {x = x} step stays pending tail byte links rests others posts suit =
      let o = ok.locks l in
      let flat = o.lists.flat (halts_flat s.mode on) in
      agrees_after step ok hs (nodes_stay step ok.nodes stays (λ p. p)) others (λ k ne. refl)
      (record {
        holder = o.holder;
        holders = o.holders;
        hold = rw step.word (elim byte [
          | inl e ↦ rw e (hold_keep o.hold step.acts step.holds refl free_hand in_hand)
          | inr n ↦ hold_turn o.hold step.acts step.holds x.locked n.0 n.1 refl free_hand in_hand
        ]);
        pend = rw (step.word, pending, phase_same) (record {
          set = o.pend.set;
          one = o.pend.one;
          someone = o.pend.someone;
          free = λ u p.
              elim byte [ inl e ↦ e ∙ o.pend.free u p | inr n ↦ absurd (n.0 (o.pend.free u p)) ];
          apart = o.pend.apart;
        });
        posts = λ e. record { posts = rw step.word posts; suits = suits_after step suit };
        lists = flat_lists (ap moves_aside step.mode ∙ halts_flat s.mode on) (record {
          queue = rw (step.word, tail, phase_same, own_is stays step.owns)
              (queue_same flat.queue
              links rests);
          single = flat.single;
          unpassed = flat.unpassed;
        });
      })
    where
      phase_same : s'.phase l ≡ s.phase l
      phase_same = (λ i u. one u i)
        where
          one : (u : Waiter) → s'.phase l u ≡ s.phase l u
          one u = elim
              (waiter_cases u w) [
                | inl e ↦ ap (s'.phase l) e ∙ step.acts.now ∙ sym step.acts.was
                    ∙ ap (s.phase l) (sym e)
                | inr ne ↦ step.acts.others u ne
              ]

      free_hand : seeks r ≡ true → h ≡ false
      free_hand q = sym step.holds.was ∙ (ok.locks l).hold.without w (ap seeks step.acts.was ∙ q)

      in_hand : r ≡ Releases → h ≡ true
      in_hand q = sym step.holds.was ∙ (ok.locks l).hold.releases w (step.acts.was ∙ q)

  -- The lock after a row, from its parts.
  para_lock : {r r' : Phase} {x : Fields} {h h' : Bool} → Step s s' w l r r' x h h'
      → (t : LockHistory) (holder : Option Waiter) → t.holders ≡ sole holder → t.second ≡ []
      → t.passes ≡ [] → HolderAgrees x.locked (s'.phase l) (λ u. spins (s'.held u l)) holder
      → PendingAgrees x.locked x.pending (s'.phase l)
      → QueueAgrees x.tail (s'.phase l) s'.own s'.node t.main
      → PostsAgree x.locked (s'.entry l) (slice_get t.main 0) (s'.post l) (node_state s') s'.own
      (λ u. Owed s' u.cpu)
      → agrees (s'.post l w) r' ≡ true → LockAgrees s' t l
  para_lock step t holder holders single unpassed hold pend queue posts suit =
      record {
        holder = holder;
        holders = holders;
        hold = rw step.word hold;
        pend = rw step.word pend;
        posts = λ e. record { posts = rw step.word posts; suits = suits_after step suit };
        lists = flat_lists (ap moves_aside step.mode ∙ halts_flat s.mode on)
            (record { queue = rw step.word queue; single = single; unpassed = unpassed });
      }

  -- a phase outside of the queue goes to another
  queue_out : {r r' : Phase} {x : Fields} {h h' : Bool} → Step s s' w l r r' x h h' → Stays s s' w
      → SameNodes s s' → queues r ≡ false → queues r' ≡ false → r' ≢ Prepared
      → QueueAgrees (s.word l).tail (s'.phase l) s'.own s'.node (hs l).main
  queue_out {r = r} {r' = r'} step stays nodes was now unprepared =
      let q = para_queue ok on l in
      rw (own_is stays step.owns, node_is nodes) (queue_keep q
      (λ u p. let ne : u ≢ w = (λ e. grind (arith, ap (s.phase l) e, step.acts.was, was, p)) in
      (step.acts.others u ne, refl, refl))
      (λ u p. let ne : u ≢ w = (λ e. grind (arith, ap (s'.phase l) e, step.acts.now, now, p)) in
      step.acts.others u ne)
      (λ u p. let ne : u ≢ w =
      (λ e. unprepared (sym step.acts.now ∙ ap (s'.phase l) (sym e) ∙ p)) in
      q.links.fresh u (sym (step.acts.others u ne) ∙ p)))

  -- W1, its flag set: the waiter leads.
  pub law_rise : Step s s' w l Waits Leads (s.word l) false false → Stays s s' w → SameNodes s s'
      → leads Waits ((s.node (s.own w)).flag) ≡ true
      → PostsAgree (s.word l).locked (s'.entry l) (slice_get (hs l).main 0) (s'.post l)
      (node_state s') s'.own (λ u. Owed s' u.cpu)
      → agrees (s'.post l w) Leads ≡ true → SnapshotAgrees s' hs
  law_rise step stays nodes lead posts suit =
      let o = ok.locks l in
      agrees_after step ok hs (nodes_stay step ok.nodes stays (λ q. refl))
      (λ k u ne p. nodes (s.own u)) (λ k ne. refl)
      (para_lock step (hs l) o.holder o.holders (para_single ok on l) (para_unpassed ok on l)
      (hold_keep o.hold step.acts step.holds refl (λ q. refl) (λ q. absurd (grind arith)))
      (pend_still o.pend step.acts refl refl refl)
      (rw (own_is stays step.owns, node_is nodes)
      (queue_lead (para_queue ok on l) step.acts lead refl (λ q. grind arith)
      (λ n q. absurd (grind arith)))) posts suit)

  -- E3: the front sets pending, so that nobody steals.
  pub law_press : Step s s' w l Leads Presses
      (record { locked = (s.word l).locked; pending = true; tail = (s.word l).tail }) false false
      → Stays s s' w → SameNodes s s'
      → PostsAgree (s.word l).locked (s'.entry l) (slice_get (hs l).main 0) (s'.post l)
      (node_state s') s'.own (λ u. Owed s' u.cpu)
      → agrees (s'.post l w) Presses ≡ true → SnapshotAgrees s' hs
  law_press step stays nodes posts suit =
      let o = ok.locks l in
      let at = lead_first (para_queue ok on l) w (grind (arith, step.acts.was)) in
      agrees_after step ok hs (nodes_stay step ok.nodes stays (λ q. refl))
      (λ k u ne p. nodes (s.own u)) (λ k ne. refl)
      (para_lock step (hs l) o.holder o.holders (para_single ok on l) (para_unpassed ok on l)
      (hold_keep o.hold step.acts step.holds refl (λ q. refl) (λ q. absurd (grind arith)))
      (pend_set o.pend step.acts (not_pending ok on l w at step.acts.was (s.word l).pending refl)
      refl (λ q. absurd (grind arith)) refl (λ q. absurd (grind arith)))
      (rw (own_is stays step.owns, node_is nodes)
      (queue_lead (para_queue ok on l) step.acts refl refl (λ q. grind arith)
      (λ n q. absurd (grind arith)))) posts suit)

  -- E5: the front clears pending.
  pub law_unpress : Step s s' w l Presses Leads
      (record { locked = (s.word l).locked; pending = false; tail = (s.word l).tail }) false false
      → Stays s s' w → SameNodes s s'
      → PostsAgree (s.word l).locked (s'.entry l) (slice_get (hs l).main 0) (s'.post l)
      (node_state s') s'.own (λ u. Owed s' u.cpu)
      → agrees (s'.post l w) Leads ≡ true → SnapshotAgrees s' hs
  law_unpress step stays nodes posts suit =
      let o = ok.locks l in
      agrees_after step ok hs (nodes_stay step ok.nodes stays (λ q. refl))
      (λ k u ne p. nodes (s.own u)) (λ k ne. refl)
      (para_lock step (hs l) o.holder o.holders (para_single ok on l) (para_unpassed ok on l)
      (hold_keep o.hold step.acts step.holds refl (λ q. refl) (λ q. absurd (grind arith)))
      (pend_clear o.pend step.acts (s.word l).locked refl refl refl refl (λ u n p. o.pend.free u p))
      (rw (own_is stays step.owns, node_is nodes)
      (queue_lead (para_queue ok on l) step.acts refl refl (λ q. grind arith)
      (λ n q. absurd (grind arith)))) posts suit)

  -- E4: the front takes the free lock, and clears pending in the same step.
  pub law_grab : Step s s' w l Presses Holds
      (record { locked = Held; pending = false; tail = (s.word l).tail }) false false
      → Stays s s' w → SameNodes s s' → (s.word l).locked ≡ Free
      → PostsAgree Held (s'.entry l) (slice_get (hs l).main 0) (s'.post l) (node_state s') s'.own
      (λ u. Owed s' u.cpu)
      → agrees (s'.post l w) Holds ≡ true
      → SnapshotAgrees s' (λ k. told k (hs k) (record { by = w; what = Take l Head }))
  law_grab step stays nodes free posts suit =
      let o = ok.locks l in
      let e : Event = record { by = w; what = Take l Head } in
      agrees_after step ok (λ k. told k (hs k) e) (nodes_stay step ok.nodes stays (λ q. refl))
      (λ k u ne p. nodes (s.own u)) (told_others hs e refl)
      (told_lock (hs l) e refl
      (para_lock step (with_holder (hs l) w Spins) (Some w)
      (sole_taken (hs l) w o.holder o.holders (o.hold.free free)) (para_single ok on l)
      (para_unpassed ok on l)
      (hold_take o.hold step.acts step.holds free refl (λ q. refl) (λ q. absurd (grind arith)))
      (pend_clear o.pend step.acts Held refl refl refl refl
      (λ u n p. absurd (no_claims ok on l u p)))
      (rw (own_is stays step.owns, node_is nodes)
      (queue_lead (para_queue ok on l) step.acts refl refl (λ q. grind arith)
      (λ n q. absurd (grind arith)))) posts suit))

  -- E7, the byte free: the front takes the lock as slow.
  pub law_grab_slow : Step s s' w l Leads Holds
      (record { locked = Slow; pending = (s.word l).pending; tail = (s.word l).tail }) false false
      → Stays s s' w → SameNodes s s' → (s.word l).locked ≡ Free
      → PostsAgree Slow (s'.entry l) (slice_get (hs l).main 0) (s'.post l) (node_state s') s'.own
      (λ u. Owed s' u.cpu)
      → agrees (s'.post l w) Holds ≡ true
      → SnapshotAgrees s' (λ k. told k (hs k) (record { by = w; what = Take l Head }))
  law_grab_slow step stays nodes free posts suit =
      let o = ok.locks l in
      let e : Event = record { by = w; what = Take l Head } in
      agrees_after step ok (λ k. told k (hs k) e) (nodes_stay step ok.nodes stays (λ q. refl))
      (λ k u ne p. nodes (s.own u)) (told_others hs e refl)
      (told_lock (hs l) e refl
      (para_lock step (with_holder (hs l) w Spins) (Some w)
      (sole_taken (hs l) w o.holder o.holders (o.hold.free free)) (para_single ok on l)
      (para_unpassed ok on l)
      (hold_take_as o.hold step.acts step.holds Slow (λ q. cc q) free refl (λ q. refl)
      (λ q. absurd (grind arith)))
      (pend_keep o.pend step.acts Slow refl (λ q. absurd (grind arith)) refl
      (λ q. absurd (grind arith)) (λ u n p. absurd (no_claims ok on l u p)))
      (rw (own_is stays step.owns, node_is nodes)
      (queue_lead (para_queue ok on l) step.acts refl refl (λ q. grind arith)
      (λ n q. absurd (grind arith)))) posts suit))

  -- U2: the holder stores that the lock is free. U4: the same, where the byte was slow, and it owes
  -- a kick.
  pub law_drop : {r' : Phase} (owing : Option ℕ)
      → Step s s' w l Releases r'
      (record { locked = Free; pending = (s.word l).pending; tail = (s.word l).tail }) true
      false
      → Stays s s' w → SameNodes s s' → (r' ≡ Idle) ⊎ (r' ≡ Seeks)
      → PostsAgree Free (s'.entry l) (slice_get (hs l).main 0) (s'.post l) (node_state s') s'.own
      (λ u. Owed s' u.cpu)
      → agrees (s'.post l w) r' ≡ true
      → SnapshotAgrees s' (λ k. told k (hs k) (record { by = w; what = Release l owing }))
  law_drop {r' = r'} owing step stays nodes way posts suit =
      let o = ok.locks l in
      let e : Event = record { by = w; what = Release l owing } in
      let mine : o.holder ≡ Some w = o.hold.has w (grind (arith, step.acts.was, step.holds.was)) in
      let q = out way in
      agrees_after step ok (λ k. told k (hs k) e)
      (nodes_stay step ok.nodes stays (λ p. absurd (grind (arith, q, p))))
      (λ k u ne p. nodes (s.own u)) (told_others hs e refl)
      (told_lock (hs l) e refl
      (para_lock step (without_holder (hs l) w Spins) None
      (sole_freed (hs l) w o.holder o.holders mine) (para_single ok on l)
      (para_unpassed ok on l)
      (hold_drop_as o.hold step.acts step.holds refl q.2 q.3 refl)
      (pend_keep o.pend step.acts Free (q.4) (λ p. refl) q.5 (λ p. absurd (grind (arith, q, p)))
      (λ u n p. refl))
      (queue_out step stays nodes refl q.0 (λ p. grind (arith, q, p))) posts suit))
    where
      out : {r' : Phase} → (r' ≡ Idle) ⊎ (r' ≡ Seeks)
          → (queues r' ≡ false) × (has_node r' ≡ false) × (has_lock r' false ≡ false)
          × (r' ≢ Releases) × (pends r' ≡ pends Releases) × (watches r' ≡ watches Releases)
          × (stakes r' ≡ false)
      out {r'} (inl e) = rw e (refl, refl, refl, (λ q. cc q), refl, refl, refl)
      out {r'} (inr e) = rw e (refl, refl, refl, (λ q. cc q), refl, refl, refl)

  -- U5: the kick is made.
  pub law_kick : Step s s' w l Seeks Idle (s.word l) false false → Stays s s' w → SameNodes s s'
      → PostsAgree (s.word l).locked (s'.entry l) (slice_get (hs l).main 0) (s'.post l)
      (node_state s') s'.own (λ u. Owed s' u.cpu)
      → agrees (s'.post l w) Idle ≡ true → SnapshotAgrees s' hs
  law_kick step stays nodes posts suit =
      let o = ok.locks l in
      agrees_after step ok hs (nodes_stay step ok.nodes stays (λ p. absurd (grind arith)))
      (λ k u ne p. nodes (s.own u)) (λ k ne. refl)
      (para_lock step (hs l) o.holder o.holders (para_single ok on l) (para_unpassed ok on l)
      (hold_keep o.hold step.acts step.holds refl (λ q. absurd (grind arith))
      (λ q. absurd (grind arith)))
      (pend_still o.pend step.acts refl refl refl)
      (queue_out step stays nodes refl refl (λ p. grind arith)) posts suit)

  -- E14: the front, which holds the lock, learns the node behind its own.
  pub law_learn : {n : NodeName} → Step s s' w l Holds (Hands n) (s.word l) false false
      → Stays s s' w → SameNodes s s' → (s.node (s.own w)).next ≡ Some n
      → PostsAgree (s.word l).locked (s'.entry l) (slice_get (hs l).main 0) (s'.post l)
      (node_state s') s'.own (λ u. Owed s' u.cpu)
      → agrees (s'.post l w) (Hands n) ≡ true → SnapshotAgrees s' hs
  law_learn {n = n} step stays nodes next posts suit =
      let o = ok.locks l in
      let q = para_queue ok on l in
      let first = lead_first q w (grind (arith, step.acts.was)) in
      agrees_after step ok hs (nodes_stay step ok.nodes stays (λ p. refl))
      (λ k u ne p. nodes (s.own u)) (λ k ne. refl)
      (para_lock step (hs l) o.holder o.holders (para_single ok on l) (para_unpassed ok on l)
      (hold_keep o.hold step.acts step.holds refl (λ p. refl) (λ p. absurd (grind arith)))
      (pend_still o.pend step.acts refl refl refl)
      (rw (own_is stays step.owns, node_is nodes)
      (queue_lead q step.acts refl refl (λ p. grind arith)
      (λ m p. let r = second_is q w n first next in (r.0, r.1, r.2, grind (arith, r.3, p)))))
      posts suit)

  -- E15: the front hands the lead to the next, and looks after it.
  pub law_call : {y : NodeName} {x : Node} (to : Waiter)
      → Step s s' w l (Hands y) (Tends y) (s.word l) false false → Stays s s' w
      → Rewrites s.node s'.node y x → x.flag ≡ Go → x.next ≡ (s.node y).next
      → PostsAgree (s.word l).locked (s'.entry l) (slice_get (drop 1 (hs l).main) 0) (s'.post l)
      (node_state s') s'.own (λ u. Owed s' u.cpu)
      → agrees (s'.post l w) (Tends y) ≡ true
      → SnapshotAgrees s' (λ k. told k (hs k) (record { by = w; what = Pass l to 0 }))
  law_call {y = y} to step stays writes flag next posts suit =
      let o = ok.locks l in
      let e : Event = record { by = w; what = Pass l to 0 } in
      let q = para_queue ok on l in
      let v = q.links.hand w y step.acts.was in
      let vn : has_node (s.phase l v.0) ≡ true = grind (arith, v) in
      let gone = put_moves (s.phase l) w (Hands y) Idle step.acts.was in
      let passed = queue_pass q gone writes flag next step.owns (apart_on ok.nodes l) in
      agrees_after step ok (λ k. told k (hs k) e) (nodes_stay step ok.nodes stays (λ p. refl))
      (rewrite_here ok.nodes ok.alone v.0 vn (sym v.3) writes) (told_others hs e refl)
      (told_lock (hs l) e refl
      (para_lock step
      (record (hs l) {
        main = drop 1 (hs l).main;
        second = (hs l).second ++ [];
        passes = map (λ n. suc n) ((hs l).passes ++ []);
      }) o.holder o.holders
      (rw (para_single ok on l) refl) (rw (para_unpassed ok on l) refl)
      (hold_keep o.hold step.acts step.holds refl (λ p. refl) (λ p. absurd (grind arith)))
      (pend_still o.pend step.acts refl refl refl)
      (queue_keep passed
      (λ u p. let ne : u ≢ w = (λ d. grind (arith, ap gone_phase d, gone.now, p)) in
      (step.acts.others u ne ∙ sym (gone.others u ne), refl, refl))
      (λ u p. let ne : u ≢ w = (λ d. grind (arith, ap (s'.phase l) d, step.acts.now, p)) in
      step.acts.others u ne ∙ sym (gone.others u ne))
      (λ u p. let ne : u ≢ w = (λ d. grind (arith, ap (s'.phase l) d, step.acts.now, p)) in
      passed.links.fresh u (gone.others u ne ∙ sym (step.acts.others u ne) ∙ p)))
      posts suit))
    where
      gone_phase : Waiter → Phase
      gone_phase u = if same_waiter u w then Idle else s.phase l u

  -- E13: the front, which holds the lock, is the last of the queue, and empties it.
  pub law_leave : Step s s' w l Holds Idle
      (record { locked = (s.word l).locked; pending = (s.word l).pending; tail = None }) false true
      → LeavesSlowPath s s' w → SameNodes s s' → (s.word l).tail ≡ Some (s.own w)
      → PostsAgree (s.word l).locked (s'.entry l) (slice_get (drop 1 (hs l).main) 0) (s'.post l)
      (node_state s') s'.own (λ u. Owed s' u.cpu)
      → agrees (s'.post l w) Idle ≡ true
      → SnapshotAgrees s' (λ k. told k (hs k) (record { by = w; what = Leave l }))
  law_leave step goes nodes mine posts suit =
      let o = ok.locks l in
      let e : Event = record { by = w; what = Leave l } in
      agrees_after step ok (λ k. told k (hs k) e) (nodes_leave step ok.nodes goes refl)
      (λ k u ne p. nodes (s.own u)) (told_others hs e refl)
      (told_lock (hs l) e refl
      (para_lock step (record (hs l) { main = drop 1 (hs l).main }) o.holder o.holders
      (para_single ok on l) (para_unpassed ok on l)
      (hold_keep o.hold step.acts step.holds refl (λ p. absurd (grind arith))
      (λ p. absurd (grind arith))) (pend_still o.pend step.acts refl refl refl)
      (rw (node_is nodes) (queue_sole (para_queue ok on l) step.acts refl step.owns mine
      (apart_on ok.nodes l))) posts suit))

  -- K1, where the next does not halt, and K3: the holder is done with the next.
  pub law_done : {y : NodeName} → Step s s' w l (Tends y) Idle (s.word l) false true
      → LeavesSlowPath s s' w → SameNodes s s'
      → PostsAgree (s.word l).locked (s'.entry l) (slice_get (hs l).main 0) (s'.post l)
      (node_state s') s'.own (λ u. Owed s' u.cpu)
      → agrees (s'.post l w) Idle ≡ true → SnapshotAgrees s' hs
  law_done step goes nodes posts suit =
      let o = ok.locks l in
      let q = para_queue ok on l in
      agrees_after step ok hs (nodes_leave step ok.nodes goes refl) (λ k u ne p. nodes (s.own u))
      (λ k ne. refl)
      (para_lock step (hs l) o.holder o.holders (para_single ok on l) (para_unpassed ok on l)
      (hold_keep o.hold step.acts step.holds refl (λ p. absurd (grind arith))
      (λ p. absurd (grind arith))) (pend_still o.pend step.acts refl refl refl)
      (queue_keep q
      (λ u p. let ne : u ≢ w = (λ d. grind (arith, ap (s.phase l) d, step.acts.was, p)) in
      (step.acts.others u ne, step.owns u ne, ap s'.node (step.owns u ne) ∙ nodes (s.own u)))
      (λ u p. let ne : u ≢ w = (λ d. grind (arith, ap (s'.phase l) d, step.acts.now, p)) in
      step.acts.others u ne)
      (λ u p. let ne : u ≢ w = (λ d. grind (arith, ap (s'.phase l) d, step.acts.now, p)) in
      ap s'.node (step.owns u ne) ∙ nodes (s.own u)
      ∙ q.links.fresh u (sym (step.acts.others u ne) ∙ p)))
      posts suit)
