-- The posts of a lock after the rows that the other families have too: outside of the queue, and at
-- the arrival and the link.
use Rattle.std.proofs.Common.{◌≡◌, ◌≢◌, ℕ, Some, Bool, true, false, List, [], ◌∷◌, ◌++◌, ◌⊎◌, inl}
use Rattle.std.proofs.Common.{inr, arith, ap, refl, sym, ◌∙◌, subst, slice_get}
use Rattle.lk_law.proofs.Names.{Fields, Free, Held, NodeName, get-append_old, LockHistory, LockName}
use Rattle.lk_law.proofs.Names.{Waiter, Node, State, Running, Owed, ParaAgrees, SnapshotAgrees}
use Rattle.lk_law.proofs.Names.{Stays, Step, halts, node_state, Phase, has_node, queues, Leads}
use Rattle.lk_law.proofs.Names.{Links, Prepared, Waits, Post, PostsAgree, agrees, fits, post_holds}
use Rattle.lk_law.proofs.Names.{Joins, Kicks, Off, Rises, Moves, Rewrites, Snapshot}
use Rattle.lk_law.proofs.common.Cases.{waiter_cases, lock_cases, node_cases}
use Rattle.lk_law.proofs.{common.Families.{lists_main, lists_rest}, pv.Calls.pv_byte}
use Rattle.lk_law.proofs.pv.Ends.{g4_behind, g4_first, g5_link}
use Rattle.lk_law.proofs.pv.Keep.{pv_keep, noded_post, agrees-noded}
use Rattle.lk_law.proofs.{pv.Laws.{para, para_queue, para_taken, posts_met}, queue.Laws.own_is}
use Rattle.lk_law.proofs.spin.Laws.{SameNodes}
use Rattle.lk_law.specs.Pv.Post.{Spins}

-- what a row changes of the posts: its waiter's goes from p to q, and neither the lock's entry nor
-- a kick changes
pub record Posted (s s' : Snapshot) (w : Waiter) (l : LockName) (p q : Post) : Type 0 where
  pub was : s.post l w ≡ p
  pub now : s'.post l w ≡ q
  pub entry : s'.entry l ≡ s.entry l
  pub kicked : (c : ℕ) → s'.kicked c ≡ s.kicked c

module _ {s s' : Snapshot} {hs : LockName → LockHistory} {w : Waiter} {l : LockName} {r r' : Phase}
    {x : Fields} {h h' : Bool} {p q : Post}
    (ok : SnapshotAgrees s hs) (on : halts s.mode ≡ true) (step : Step s s' w l r r' x h h')
    (posted : Posted s s' w l p q) where
  pub post_moves : Moves (s.post l) (s'.post l) w p q
  post_moves = record { was = posted.was; now = posted.now; others = λ u ne. step.posts l u ne }

  -- a kick that was owed is owed still, where the row did not make it
  pub owed_still : ((t : NodeName) → p ≢ Kicks t) → (c : ℕ) → Owed s c → Owed s' c
  owed_still no_kick c (inl k) = inl (posted.kicked c ∙ k)
  owed_still no_kick c (inr o) =
      inr (
        o.0,
        o.1,
        o.2,
        elim (waiter_cases o.1 w) [
          | inl e ↦ absurd (let at : s.post o.0 w ≡ Kicks o.2 = ap (s.post o.0) (sym e) ∙ o.3 in
              elim (lock_cases o.0 l) [
                | inl k ↦ no_kick o.2 (sym posted.was ∙ ap (λ m. s.post m w) (sym k) ∙ at)
                | inr ne ↦ let z = step.were_off o.0 ne in grind (arith, z, at)
              ])
          | inr ne ↦ step.posts o.0 o.1 ne ∙ o.3
        ],
        o.4,
      )

  suits_now : agrees q r' ≡ true → (u : Waiter) → agrees (s'.post l u) (s'.phase l u) ≡ true
  suits_now mine u =
      elim (waiter_cases u w) [
        | inl e ↦ let P : Waiter → Type 0 = λ v. agrees (s'.post l v) (s'.phase l v) ≡ true in
            subst P (sym e) (rw (posted.now, step.acts.now) mine)
        | inr ne ↦ rw (step.posts l u ne, step.acts.others u ne) ((para ok on l).suits u)
      ]

  front_noded : (z : Waiter) → slice_get (hs l).main 0 ≡ Some z → has_node (s.phase l z) ≡ true
  front_noded z f = go (s.phase l z) (lists_main (ok.locks l).lists 0 z f)
    where
      go : (a : Phase) → queues a ≡ true → has_node a ≡ true
      go a b = grind arith

-- a row outside of the queue, which may take the free lock
module _ {s s' : Snapshot} {hs : LockName
    → LockHistory} {w : Waiter} {l : LockName} {r r' : Phase} {x : Fields} {h h' : Bool}
    (ok : SnapshotAgrees s hs) (on : halts s.mode ≡ true) (step : Step s s' w l r r' x h h')
    (posted : Posted s s' w l Off Off) where
  pub para_outside : (t : LockHistory) → t.main ≡ (hs l).main → agrees Off r' ≡ true
      → queues r ≡ false
      → (x.locked ≡ (s.word l).locked) ⊎ (((s.word l).locked ≡ Free) × (x.locked ≡ Held))
      → ((u : Waiter) → u ≢ w → has_node (s.phase l u) ≡ true
      → s'.node (s.own u) ≡ s.node (s.own u))
      → ParaAgrees s' t l
  para_outside t main suit out byte nodes =
      let b = para ok on l in
      let front = slice_get (hs l).main 0 in
      let base : PostsAgree x.locked (s.entry l) front (s.post l) (node_state s) s.own
      (λ u. Owed s u.cpu) =
      elim byte [
        | inl e ↦ rw e b.posts
        | inr m ↦ rw m.1
            (pv_byte (posts_met ok on l) Held (λ z. let f = m.0 in grind (arith, f, z)) (λ z. cc z)
            (λ u. free_holds m.0 u (post_holds (s.post l u)) refl))
      ] in
      record {
        posts = rw (step.word, posted.entry, post_same, main)
            (pv_keep x.locked (s.entry l) front (s.post l) (node_state s)
            (node_state s') s.own s'.own
            (λ u. Owed s u.cpu) (λ u. Owed s' u.cpu) base
            (λ u q. both u (λ e. off_noded (s.post l u) q (ap (s.post l) e ∙ posted.was))
            (agrees-noded (s.post l u) (s.phase l u) (b.suits u) q))
            (λ z f. both z
            (λ e. let i = lists_main (ok.locks l).lists 0 z f in
            grind (arith, ap (s.phase l) e, step.acts.was, out, i))
            (front_noded ok on step posted z f))
            (λ z q d. owed_still ok on step posted (λ k e. cc e) z.cpu d));
        suits = suits_now ok on step posted suit;
      }
    where
      free_holds : (s.word l).locked ≡ Free → (u : Waiter) → (c : Bool)
          → post_holds (s.post l u) ≡ c
          → post_holds (s.post l u) ≡ false
      free_holds free u true e = absurd (para_taken ok on l u e free)
      free_holds free u false e = e

      off_noded : (a : Post) → noded_post a ≡ true → a ≡ Off → ⊥
      off_noded a n e = grind (arith, n, e)

      post_same : s'.post l ≡ s.post l
      post_same = (λ i u. one u i)
        where
          one : (u : Waiter) → s'.post l u ≡ s.post l u
          one u = elim
              (waiter_cases u w) [
                | inl e ↦ ap (s'.post l) e ∙ posted.now
                    ∙ sym (ap (s.post l) e ∙ posted.was)
                | inr ne ↦ step.posts l u ne
              ]

      both : (u : Waiter) → u ≢ w → has_node (s.phase l u) ≡ true
          → (node_state s' u ≡ node_state s u) × (s'.own u ≡ s.own u)
      both u ne n = let e = step.owns u ne in (
        ap (λ (k : NodeName). (s'.node k).state) e ∙ ap (λ (k : Node). k.state) (nodes u ne n),
        e,
      )

-- G4 and G5: all nodes keep their states, and so do their owners

rest_state : {s : Snapshot} {hs : LockName → LockHistory} {w : Waiter} (l : LockName)
    → SnapshotAgrees s hs → s.phase l w ≡ Prepared → node_state s w ≡ Running
rest_state {w = w} l ok was = ap (λ (n : Node). n.state) (lists_rest (ok.locks l).lists w was)

states : (s s' : Snapshot) → s'.own ≡ s.own
    → ((n : NodeName) → (s'.node n).state ≡ (s.node n).state) → (u : Waiter)
    → node_state s' u ≡ node_state s u
states s s' own node u = ap (λ (f : Waiter → NodeName). (s'.node (f u)).state) own ∙ node (s.own u)

module _ {s s' : Snapshot} {hs : LockName → LockHistory} {w : Waiter} {l : LockName} {x : Fields}
    (ok : SnapshotAgrees s hs) (on : halts s.mode ≡ true) where
  -- behind a queue
  pub para_joins : {a : NodeName} → (step : Step s s' w l Prepared (Links a) x false false)
      → Stays s s' w → SameNodes s s' → Posted s s' w l Off Joins → x.locked ≡ (s.word l).locked
      → (z : Waiter) → slice_get (hs l).main 0 ≡ Some z
      → ParaAgrees s' (record (hs l) { main = (hs l).main ++ w ∷ [] }) l
  para_joins step stays nodes posted byte z at =
      let b = para ok on l in
      let own = own_is stays step.owns in
      let state = states s s' own (λ n. ap (λ (k : Node). k.state) (nodes n)) in
      let run = rest_state l ok step.acts.was in
      let puts : Moves (node_state s) (node_state s') w Running Running =
      record { was = run; now = state w ∙ run; others = λ u ne. state u } in
      let front : slice_get ((hs l).main ++ w ∷ []) 0 ≡ slice_get (hs l).main 0 =
      get-append_old (hs l).main w 0 z at ∙ sym at in
      record {
        posts = rw (step.word, byte, posted.entry, front)
            (pv_keep (s.word l).locked (s.entry l) (slice_get (hs l).main 0) (s'.post l)
            (node_state s') (node_state s') s.own s'.own (λ u. Owed s u.cpu) (λ u. Owed s' u.cpu)
            (g4_behind (posts_met ok on l)
            (post_moves ok on step posted) puts)
            (λ u q. (refl, ap (λ f. f u) own)) (λ u q. (refl, ap (λ f. f u) own))
            (λ u q d. owed_still ok on step posted (λ k e. cc e) u.cpu d));
        suits = suits_now ok on step posted refl;
      }

  -- on an empty queue
  pub para_comes : (step : Step s s' w l Prepared Leads x false false) → Stays s s' w
      → SameNodes s s' → Posted s s' w l Off Rises → x.locked ≡ (s.word l).locked → (hs l).main ≡ []
      → ParaAgrees s' (record (hs l) { main = (hs l).main ++ w ∷ [] }) l
  para_comes step stays nodes posted byte none =
      let b = para ok on l in
      let own = own_is stays step.owns in
      let state = states s s' own (λ n. ap (λ (k : Node). k.state) (nodes n)) in
      let front : slice_get ((hs l).main ++ w ∷ []) 0 ≡ Some w =
      ap (λ (us : List Waiter). slice_get (us ++ w ∷ []) 0) none in
      record {
        posts = rw (step.word, byte, posted.entry, front)
            (pv_keep (s.word l).locked (s.entry l) (Some w) (s'.post l) (node_state s)
            (node_state s')
            s.own s'.own (λ u. Owed s u.cpu) (λ u. Owed s' u.cpu)
            (g4_first (posts_met ok on l)
            (post_moves ok on step posted) (rest_state l ok step.acts.was)
            (ap (λ (us : List Waiter). slice_get us 0) none))
            (λ u q. (state u, ap (λ f. f u) own)) (λ u q. (state u, ap (λ f. f u) own))
            (λ u q d. owed_still ok on step posted (λ k e. cc e) u.cpu d));
        suits = suits_now ok on step posted refl;
      }

  -- it links its node; that it runs is said of who joins
  pub para_links : {a : NodeName} {y : Node} → (step : Step s s' w l (Links a) Waits x false false)
      → Stays s s' w → Rewrites s.node s'.node a y → y ≡ record (s.node a) { next = Some (s.own w) }
      → Posted s s' w l Joins Spins → x.locked ≡ (s.word l).locked → ParaAgrees s' (hs l) l
  para_links {a = a} {y = y} step stays writes store posted byte =
      let b = para ok on l in
      let own = own_is stays step.owns in
      let node : (n : NodeName) → (s'.node n).state ≡ (s.node n).state =
      λ n. elim (node_cases n a) [
        | inl e ↦ ap (λ k. (s'.node k).state) e ∙ ap (λ (k : Node). k.state) (writes.now ∙ store)
            ∙ ap (λ k. (s.node k).state) (sym e)
        | inr ne ↦ ap (λ (k : Node). k.state) (writes.others n ne)
      ] in
      let state = states s s' own node in
      let not_front : slice_get (hs l).main 0 ≢ Some w =
      (λ f. let i = (para_queue ok on l).ends.first w f in grind (arith, i, step.acts.was)) in
      let run : node_state s w ≡ Running =
      joins_run (node_state s w)
      (ap (λ (c : Post). fits c false (node_state s w)) (sym posted.was)
      ∙ b.posts.fit w false (λ e. not_front) (λ e. cc e)) in
      let puts : Moves (node_state s) (node_state s') w Running Running =
      record { was = run; now = state w ∙ run; others = λ u ne. state u } in
      record {
        posts = rw (step.word, byte, posted.entry)
            (pv_keep (s.word l).locked (s.entry l) (slice_get (hs l).main 0) (s'.post l)
            (node_state s') (node_state s') s.own s'.own (λ u. Owed s u.cpu) (λ u. Owed s' u.cpu)
            (g5_link (posts_met ok on l)
            (post_moves ok on step posted) puts not_front)
            (λ u q. (refl, ap (λ f. f u) own)) (λ u q. (refl, ap (λ f. f u) own))
            (λ u q d. owed_still ok on step posted (λ k e. cc e) u.cpu d));
        suits = suits_now ok on step posted refl;
      }
    where
      joins_run : (t : State) → fits Joins false t ≡ true → t ≡ Running
      joins_run t e = grind (arith, e)
