-- The laws of the rows outside of the queue: a turn, a take of the free word, a release.
use Rattle.std.proofs.Common.{◌≡◌, ◌≢◌, ℕ, Some, None, Bool, true, false, ◌⊎◌, inl, inr, arith, ap}
use Rattle.std.proofs.Common.{refl, sym, ◌∙◌, subst, slice_get}
use Rattle.lk_law.proofs.Names.{Fields, Free, Held, NodeName, LockHistory, taken, told, with_holder}
use Rattle.lk_law.proofs.Names.{Event, How, Release, Take, Spins, LockName, Waiter, rest_node, Node}
use Rattle.lk_law.proofs.Names.{Knows, LeavesSlowPath, Owed, ParaAgrees, SnapshotAgrees, Stays}
use Rattle.lk_law.proofs.Names.{Step, halts, node_state, ListsAgree, moves_aside, Phase, claims}
use Rattle.lk_law.proofs.Names.{has_lock, has_node, pends, queues, seeks, stakes, watches, Idle}
use Rattle.lk_law.proofs.Names.{Prepared, Releases, Seeks, at_halt, NodesAgree, PendingAgrees}
use Rattle.lk_law.proofs.Names.{Snapshot, spins}
use Rattle.lk_law.proofs.{common.Before.nodes_apart, common.Cases.{waiter_cases, lock_cases}}
use Rattle.lk_law.proofs.common.Families.{lists_keep, lists_rest, lists_none}
use Rattle.lk_law.proofs.common.Frame.{queue_node, nodes_stay, nodes_leave, agrees_after, no_posts}
use Rattle.lk_law.proofs.common.Told.{told_lock, told_others, sole_taken, sole_freed}
use Rattle.lk_law.proofs.{pv.Keep.pv_keep, spin.Hold.{hold_keep, hold_take, hold_drop}}
use Rattle.lk_law.proofs.spin.Pend.{pend_keep, pend_still}

-- every node is as before
abbrev pub SameNodes : Snapshot → Snapshot → Type 0
SameNodes s s' = (n : NodeName) → s'.node n ≡ s.node n

-- all that the laws read is as before
pub record IsSame (s s' : Snapshot) : Type 0 where
  pub mode : s'.mode ≡ s.mode
  pub threshold : s'.threshold ≡ s.threshold
  pub local : s'.local ≡ s.local
  pub word : (l : LockName) → s'.word l ≡ s.word l
  pub phase : (l : LockName) (u : Waiter) → s'.phase l u ≡ s.phase l u
  pub own : (u : Waiter) → s'.own u ≡ s.own u
  pub node : SameNodes s s'
  pub held : (u : Waiter) (l : LockName) → spins (s'.held u l) ≡ spins (s.held u l)
  pub slow : (u : Waiter) → s'.slow u ≡ s.slow u
  pub queued : (p : ℕ) → s'.queued p ≡ s.queued p
  pub stage : (l : LockName) (u : Waiter) → s'.stage l u ≡ s.stage l u
  pub kept : (l : LockName) (u : Waiter) → queues (s.phase l u) ≡ true → s'.kept u ≡ s.kept u
  pub post : (l : LockName) (u : Waiter) → s'.post l u ≡ s.post l u
  pub entry : (l : LockName) → s'.entry l ≡ s.entry l
  pub kicked : (p : ℕ) → s'.kicked p ≡ s.kicked p

-- Where nothing changes that the laws read, all agrees as before.
pub law_same : {s s' : Snapshot} {hs : LockName → LockHistory} → SnapshotAgrees s hs → IsSame s s'
    → SnapshotAgrees s' hs
law_same {s = s} {s' = s'} {hs = hs} ok same =
    let own : s'.own ≡ s.own = (λ i u. same.own u i) in
    let node : s'.node ≡ s.node = (λ i n. same.node n i) in
    let phases : s'.phase ≡ s.phase = (λ i l u. same.phase l u i) in
    let slow : s'.slow ≡ s.slow = (λ i u. same.slow u i) in
    let queued : s'.queued ≡ s.queued = (λ i p. same.queued p i) in
    record {
      locks = λ l.
          let o = ok.locks l in
          let phase : s'.phase l ≡ s.phase l = (λ i u. same.phase l u i) in
          let held : ◌≡◌ {A = Waiter → Bool} (λ u. spins (s'.held u l)) (λ u. spins (s.held u l)) =
          (λ i u. same.held u l i) in
          record {
            holder = o.holder;
            holders = o.holders;
            hold = rw (same.word l, phase, held) o.hold;
            pend = rw (same.word l, phase) o.pend;
            posts = λ on. let p = o.posts (ap halts (sym same.mode) ∙ on) in
                record {
                  posts = rw (same.word l, same.entry l, post l)
                      (pv_keep (s.word l).locked (s.entry l) (slice_get (hs l).main 0) (s.post l)
                      (node_state s) (node_state s') s.own s'.own (λ u. Owed s u.cpu)
                      (λ u. Owed s' u.cpu) p.posts
                      (λ u q. (state u, same.own u)) (λ z f. (state z, same.own z))
                      (λ z q d. owed z.cpu d));
                  suits = λ u. rw (same.post l u, same.phase l u) (p.suits u);
                };
            lists = rw (same.word l, same.mode, same.threshold, same.local) (lists_keep o.lists
                (λ u p. (
                  same.phase l u,
                  same.own u,
                  ap s'.node (same.own u) ∙ same.node (s.own u),
                  same.stage l u,
                  same.kept l u p,
                )) (λ u p. same.phase l u)
                (λ u p. ap s'.node (same.own u) ∙ same.node (s.own u)
                ∙ lists_rest o.lists u (sym (same.phase l u) ∙ p))
                (λ was u p. same.stage l u ∙ was u (λ q. p (same.phase l u ∙ q)))
                (λ u z p q e. nodes_apart ok.nodes l l u z p q e)
                (λ u p z q e. let f : s.phase l u ≡ Prepared = sym (same.phase l u) ∙ p in
                let eq : u ≡ z =
                nodes_apart ok.nodes l l u z (ap has_node f) (queue_node (s.phase l z) q)
                (sym (same.own u) ∙ e) in
                grind (arith, ap (s.phase l) eq, f, q)));
          };
      nodes = rw (phases, own, slow, queued) ok.nodes;
      alone = rw phases ok.alone;
      sleeper = λ on k m u z a b e.
          ok.sleeper (ap halts (sym same.mode) ∙ on) k m u z (ap at_halt (sym (same.post k u)) ∙ a)
          (ap at_halt (sym (same.post m z)) ∙ b) e;
    }
  where
    post : (l : LockName) → s'.post l ≡ s.post l
    post l = (λ i u. same.post l u i)

    state : (u : Waiter) → node_state s' u ≡ node_state s u
    state u = ap (λ (n : NodeName). (s'.node n).state) (same.own u)
        ∙ ap (λ (n : Node). n.state) (same.node (s.own u))

    owed : (p : ℕ) → Owed s p → Owed s' p
    owed p (inl k) = inl (same.kicked p ∙ k)
    owed p (inr q) = inr (q.0, q.1, q.2, same.post q.0 q.1 ∙ q.3, q.4)

-- A step that changes nothing of its lock changes nothing.
pub step_same : {s s' : Snapshot} {w : Waiter} {l : LockName} {r : Phase} {h : Bool}
    → Step s s' w l r r (s.word l) h h → Stays s s' w → Knows s s' w l → SameNodes s s'
    → IsSame s s'
step_same {s = s} {s' = s'} {w = w} {l = l} step stays knows nodes =
    record {
      mode = step.mode;
      threshold = step.threshold;
      local = step.local;
      word = λ k.
          elim (lock_cases k l) [
            | inl e ↦ ap s'.word e ∙ step.word ∙ sym (ap s.word e)
            | inr ne ↦ step.words k ne
          ];
      phase = λ k u. elim (lock_cases k l) [
        | inl e ↦ let P : LockName → Type 0 = λ m. s'.phase m u ≡ s.phase m u in
            subst P (sym e) (here u)
        | inr ne ↦ step.phases k ne u
      ];
      own = λ u.
          elim (waiter_cases u w) [
            | inl e ↦ ap s'.own e ∙ stays.own ∙ sym (ap s.own e)
            | inr ne ↦ step.owns u ne
          ];
      node = nodes;
      held = λ u k. elim (lock_cases k l) [
        | inl e ↦ let P : LockName → Type 0 = λ m. spins (s'.held u m) ≡ spins (s.held u m) in
            subst P (sym e) (here_held u)
        | inr ne ↦ step.helds k ne u
      ];
      slow = stays.slow;
      queued = stays.queued;
      post = λ k u. elim (waiter_cases u w) [
        | inl e ↦ elim (lock_cases k l) [
          | inl q ↦ ap (λ m. s'.post m u) q ∙ ap (s'.post l) e ∙ knows.post
              ∙ sym (ap (λ m. s.post m u) q ∙ ap (s.post l) e)
          | inr ne ↦ ap (s'.post k) e ∙ step.off k ne ∙ sym (ap (s.post k) e ∙ step.were_off k ne)
        ]
        | inr ne ↦ step.posts k u ne
      ];
      entry = λ k.
          elim (lock_cases k l) [
            | inl e ↦ ap s'.entry e ∙ knows.entry ∙ sym (ap s.entry e)
            | inr ne ↦ step.entries k ne
          ];
      kicked = knows.kicked;
      stage = λ k u. elim (lock_cases k l) [
        | inl e ↦ let P : LockName → Type 0 = λ m. s'.stage m u ≡ s.stage m u in
            subst P (sym e) (here_stage u)
        | inr ne ↦ elim (waiter_cases u w) [
          | inl e ↦ let P : Waiter → Type 0 = λ v. s'.stage k v ≡ s.stage k v in
              subst P (sym e) (step.calm k ne ∙ sym (step.was_calm k ne))
          | inr nw ↦ step.stages k u nw
        ]
      ];
      kept = λ k u q.
          elim (waiter_cases u w) [
            | inl e ↦ ap s'.kept e ∙ knows.kept ∙ sym (ap s.kept e)
            | inr ne ↦ step.kepts u ne
          ];
    }
  where
    here_stage : (u : Waiter) → s'.stage l u ≡ s.stage l u
    here_stage u =
        elim (waiter_cases u w) [
          | inl e ↦ ap (s'.stage l) e ∙ knows.stage ∙ sym (ap (s.stage l) e)
          | inr ne ↦ step.stages l u ne
        ]

    here : (u : Waiter) → s'.phase l u ≡ s.phase l u
    here u = elim
        (waiter_cases u w) [
          | inl e ↦ ap (s'.phase l) e ∙ step.acts.now ∙ sym step.acts.was
              ∙ sym (ap (s.phase l) e)
          | inr ne ↦ step.acts.others u ne
        ]

    here_held : (u : Waiter) → spins (s'.held u l) ≡ spins (s.held u l)
    here_held u =
        elim (waiter_cases u w) [
          | inl e ↦ ap (λ v. spins (s'.held v l)) e ∙ step.holds.now ∙ sym step.holds.was
              ∙ sym (ap (λ v. spins (s.held v l)) e)
          | inr ne ↦ step.holds.others u ne
        ]

-- A phase outside of the queue goes to another.
pub lists_outside : {s s' : Snapshot} {hs : LockName → LockHistory} {w : Waiter} {l : LockName}
    {r r' : Phase} {x : Fields} {h h' : Bool}
    → SnapshotAgrees s hs → Step s s' w l r r' x h h' → queues r ≡ false → queues r' ≡ false
    → (r' ≡ Prepared → s'.node (s'.own w) ≡ rest_node)
    → (r' ≡ Prepared → (z : Waiter) → queues (s.phase l z) ≡ true → s'.own w ≢ s.own z)
    → ((u : Waiter) → u ≢ w → has_node (s.phase l u) ≡ true → s'.node (s.own u) ≡ s.node (s.own u))
    → ListsAgree (moves_aside s'.mode) (s.word l).tail (s'.phase l) s'.own s'.node s'.local
    s'.threshold (s'.stage l) s'.kept (hs l).main (hs l).second (hs l).passes
lists_outside {s = s} {s' = s'} {w = w} {l = l} ok step out out' new apart same =
    let o = (ok.locks l).lists in
    rw (step.mode, step.local, step.threshold) (lists_keep o
    (λ u p. let ne : u ≢ w = (λ e. grind (arith, step.acts.was)) in (
      step.acts.others u ne,
      step.owns u ne,
      rw (step.owns u ne) (same u ne (grind arith)),
      step.stages l u ne,
      step.kepts u ne,
    ))
    (λ u p. let ne : u ≢ w = (λ e. grind (arith, step.acts.now)) in step.acts.others u ne)
    (λ u p. elim (waiter_cases u w) [
      | inl e ↦ let P : Waiter → Type 0 = λ v. s'.node (s'.own v) ≡ rest_node in
          subst P (sym e) (new (grind (arith, step.acts.now)))
      | inr ne ↦ let q : s.phase l u ≡ Prepared = sym (step.acts.others u ne) ∙ p in
          rw (step.owns u ne) (same u ne (grind arith) ∙ lists_rest o u q)
    ])
    (λ was u p. elim (waiter_cases u w) [
      | inl e ↦ ap (s'.stage l) e ∙ step.rests (λ q. grind (arith, q, out'))
      | inr ne ↦ step.stages l u ne ∙ was u (λ q. p (step.acts.others u ne ∙ q))
    ])
    (λ u z p q e. nodes_apart ok.nodes l l u z p q e)
    (λ u p z q e. elim (waiter_cases u w) [
      | inl d ↦ apart (sym step.acts.now ∙ ap (s'.phase l) (sym d) ∙ p) z q (ap s'.own (sym d) ∙ e)
      | inr ne ↦ let f : s.phase l u ≡ Prepared = sym (step.acts.others u ne) ∙ p in
          let eq : u ≡ z =
          nodes_apart ok.nodes l l u z (ap has_node f) (queue_node (s.phase l z) q)
          (sym (step.owns u ne) ∙ e) in
          grind (arith, ap (s.phase l) eq, f, q)
    ]))

-- where neither the pending bit nor the queue is touched, nobody will take the lock by them
watch_pends : (r : Phase) → pends r ≡ false → watches r ≡ false
watch_pends r p = grind arith

claim_none : (r : Phase) → pends r ≡ false → queues r ≡ false → claims r ≡ false
claim_none r p q = grind arith

pub claim_cases : (r : Phase) → claims r ≡ true
    → ((watches r ≡ true) × (pends r ≡ true)) ⊎ (stakes r ≡ true) × (queues r ≡ true)
claim_cases r p = grind arith

-- From r to r' neither the queue nor the pending bit is touched; where h says that the waiter holds
-- the lock by its program, it has the lock as before, and is in its phase as it should; and who has
-- a node in r' was there before.
pub record IsTurn (r r' : Phase) (h : Bool) : Type 0 where
  pub was_out : queues r ≡ false
  pub now_out : queues r' ≡ false
  pub was_clear : pends r ≡ false
  pub now_clear : pends r' ≡ false
  pub same : has_lock r' h ≡ has_lock r h
  pub without : seeks r' ≡ true → h ≡ false
  pub with_it : r' ≡ Releases → h ≡ true
  pub kept : has_node r' ≡ true → r ≡ r'

-- A waiter goes on its way, goes on in it, or gives it up; or is about to release.

pub turn_seeks : IsTurn Idle Seeks false
turn_seeks =
    record {
      was_out = refl;
      now_out = refl;
      was_clear = refl;
      now_clear = refl;
      same = refl;
      without = λ p. refl;
      with_it = λ p. grind arith;
      kept = λ p. grind arith;
    }

pub turn_on : IsTurn Seeks Seeks false
turn_on =
    record {
      was_out = refl;
      now_out = refl;
      was_clear = refl;
      now_clear = refl;
      same = refl;
      without = λ p. refl;
      with_it = λ p. grind arith;
      kept = λ p. refl;
    }

pub turn_misses : IsTurn Seeks Idle false
turn_misses =
    record {
      was_out = refl;
      now_out = refl;
      was_clear = refl;
      now_clear = refl;
      same = refl;
      without = λ p. refl;
      with_it = λ p. grind arith;
      kept = λ p. grind arith;
    }

pub turn_releases : IsTurn Idle Releases true
turn_releases =
    record {
      was_out = refl;
      now_out = refl;
      was_clear = refl;
      now_clear = refl;
      same = refl;
      without = λ p. grind arith;
      with_it = λ p. refl;
      kept = λ p. grind arith;
    }

-- Where the word is free, nobody may take the lock in its next step but by the word.
pub free_unclaimed : {s : Snapshot} {hs : LockName → LockHistory} {l : LockName}
    → SnapshotAgrees s hs → s.word l ≡ record { locked = Free; pending = false; tail = None }
    → (u : Waiter) → claims (s.phase l u) ≡ true → ⊥
free_unclaimed {s = s} {hs = hs} {l = l} ok free u c =
    let p : PendingAgrees Free false (s.phase l) = rw free at (ok.locks l).pend in
    elim (claim_cases (s.phase l u) c) [
      | inl a ↦ grind (arith, p.set u a.1)
      | inr b ↦ lists_none (ok.locks l).lists (ap (λ (f : Fields). f.tail) free) u b.1
    ]

module _ {s s' : Snapshot} {hs : LockName → LockHistory} {w : Waiter} {l : LockName}
    (ok : SnapshotAgrees s hs) where
  -- A row that changes nothing but the phase, outside of the queue.
  pub law_turn_as : {r r' : Phase} {h : Bool} → Step s s' w l r r' (s.word l) h h → Stays s s' w
      → SameNodes s s' → IsTurn r r' h → (halts s'.mode ≡ true → ParaAgrees s' (hs l) l)
      → SnapshotAgrees s' hs
  law_turn_as {r = r} {r' = r'} step stays nodes turn posts =
      let o = ok.locks l in
      agrees_after step ok hs (nodes_stay step ok.nodes stays (λ p. rw (turn.kept p) p))
      (λ k u ne p. nodes (s.own u)) (λ k ne. refl)
      (record {
        holder = o.holder;
        holders = o.holders;
        hold =
            rw step.word
            (hold_keep o.hold step.acts step.holds turn.same turn.without turn.with_it);
        pend = rw step.word (pend_still o.pend step.acts (turn.now_clear ∙ sym turn.was_clear)
            (watch_pends r' turn.now_clear ∙ sym (watch_pends r turn.was_clear))
            (claim_none r' turn.now_clear turn.now_out));
        posts = posts;
        lists = rw step.word (lists_outside ok step turn.was_out turn.now_out
            (λ p. nodes (s'.own w)
            ∙ rw stays.own (lists_rest o.lists w (step.acts.was ∙ turn.kept (grind arith) ∙ p)))
            (λ p z q e.
            let f : s.phase l w ≡ Prepared = step.acts.was ∙ turn.kept (grind arith) ∙ p in
            let eq : w ≡ z =
            nodes_apart ok.nodes l l w z (ap has_node f) (queue_node (s.phase l z) q)
            (sym stays.own ∙ e) in
            grind (arith, ap (s.phase l) eq, f, q)) (λ u ne p. nodes (s.own u)));
      })

  pub noded_keep : {r r' : Phase} {x : Fields} {h h' : Bool} → Step s s' w l r r' x h h'
      → has_node r' ≡ false → Stays s s' w ⊎ LeavesSlowPath s s' w
      → NodesAgree s'.phase s'.own s'.slow s'.queued
  noded_keep step none way =
      elim way [
        | inl t ↦ nodes_stay step ok.nodes t (λ p. absurd (grind arith))
        | inr g ↦ nodes_leave step ok.nodes g none
      ]

  -- The free word is taken, by a row that tells how, and that is not one of the queue's.
  pub law_take_as : {r : Phase} (how : How)
      → Step s s' w l r Idle (record { locked = Held; pending = false; tail = None }) false true
      → Stays s s' w ⊎ LeavesSlowPath s s' w → SameNodes s s' → queues r ≡ false → pends r ≡ false
      → s.word l ≡ record { locked = Free; pending = false; tail = None }
      → taken (hs l) w how ≡ with_holder (hs l) w Spins
      → (halts s'.mode ≡ true → ParaAgrees s' (with_holder (hs l) w Spins) l)
      → SnapshotAgrees s' (λ k. told k (hs k) (record { by = w; what = Take l how }))
  law_take_as {r = r} how step way nodes out clear free plain posts =
      let o = ok.locks l in
      let e : Event = record { by = w; what = Take l how } in
      agrees_after step ok (λ k. told k (hs k) e) (noded_keep step refl way)
      (λ k u ne p. nodes (s.own u)) (told_others hs e refl)
      (told_lock (hs l) e refl (rw plain (record {
        holder = Some w;
        holders =
            sole_taken (hs l) w o.holder o.holders
            (o.hold.free (ap (λ (f : Fields). f.locked) free));
        hold = rw step.word
            (hold_take o.hold step.acts step.holds (ap (λ (f : Fields). f.locked) free) refl
            (λ p. absurd (grind arith)) (λ p. absurd (grind arith)));
        pend = rw step.word (pend_keep (rw free at o.pend) step.acts Held (sym clear)
            (λ p. absurd (grind arith)) (sym (watch_pends r clear)) (λ p. absurd (grind arith))
            (λ u n p. absurd (free_unclaimed ok free u p)));
        posts = posts;
        lists = rw step.word
            (rw free at (lists_outside ok step out refl (λ p. absurd (grind arith))
            (λ p. absurd (grind arith)) (λ u ne p. nodes (s.own u))));
      })))

module _ {s s' : Snapshot} {hs : LockName → LockHistory} {w : Waiter} {l : LockName}
    (ok : SnapshotAgrees s hs) (awake : halts s.mode ≡ false) where
  -- A row that changes nothing but the phase, outside of the queue.
  pub law_turn : {r r' : Phase} {h : Bool} → Step s s' w l r r' (s.word l) h h → Stays s s' w
      → SameNodes s s' → IsTurn r r' h → SnapshotAgrees s' hs
  law_turn step stays nodes turn = law_turn_as ok step stays nodes turn (λ e. no_posts step awake e)

  -- The free word is taken, by a row that tells how, and that is not one of the queue's.
  pub law_take : {r : Phase} (how : How)
      → Step s s' w l r Idle (record { locked = Held; pending = false; tail = None }) false true
      → Stays s s' w ⊎ LeavesSlowPath s s' w → SameNodes s s' → queues r ≡ false → pends r ≡ false
      → s.word l ≡ record { locked = Free; pending = false; tail = None }
      → taken (hs l) w how ≡ with_holder (hs l) w Spins
      → SnapshotAgrees s' (λ k. told k (hs k) (record { by = w; what = Take l how }))
  law_take how step way nodes out clear free plain =
      law_take_as ok how step way nodes out clear free plain (λ e. no_posts step awake e)

  -- The holder stores that the lock is free.
  pub law_release : Step s s' w l Releases Idle
      (record { locked = Free; pending = (s.word l).pending; tail = (s.word l).tail }) true false
      → Stays s s' w → SameNodes s s'
      → SnapshotAgrees s' (λ k. told k (hs k) (record { by = w; what = Release l None }))
  law_release step stays nodes =
      let o = ok.locks l in
      let e : Event = record { by = w; what = Release l None } in
      let mine : o.holder ≡ Some w = o.hold.has w (grind (arith, step.acts.was, step.holds.was)) in
      agrees_after step ok (λ k. told k (hs k) e) (noded_keep ok step refl (inl stays))
      (λ k u ne p. nodes (s.own u)) (told_others hs e refl)
      (told_lock (hs l) e refl (record {
        holder = None;
        holders = sole_freed (hs l) w o.holder o.holders mine;
        hold = rw step.word (hold_drop o.hold step.acts step.holds refl refl refl);
        pend =
            rw step.word (pend_keep o.pend step.acts Free refl (λ p. refl) refl
            (λ p. absurd (grind arith)) (λ u n p. refl));
        posts = no_posts step awake;
        lists = rw step.word
            (lists_outside ok step refl refl (λ p. absurd (grind arith)) (λ p. absurd (grind arith))
            (λ u ne p. nodes (s.own u)));
      }))
