-- The laws of the choice of the next: the front goes on with it, hands the lead on, and lets the
-- second queue return.
use Rattle.std.proofs.Common.{◌≡◌, ℕ, Option, Some, None, Bool, true, false, List, [], ◌++◌, inl}
use Rattle.std.proofs.Common.{inr, arith, ap, refl, sym, ◌∙◌, slice_get, drop, take}
use Rattle.lk_law.proofs.Names.{Fields, NodeName, LockHistory, told, Event, Flush, Pass, Promote}
use Rattle.lk_law.proofs.Names.{LockName, Waiter, Node, flag_for, LeavesSlowPath, LockAgrees}
use Rattle.lk_law.proofs.Names.{SnapshotAgrees, Stays, Step, halts, CnaAgrees, ListsAgree}
use Rattle.lk_law.proofs.Names.{moves_aside, Phase, Holds, Idle, Rewrites, Snapshot, Stage, Counts}
use Rattle.lk_law.proofs.Names.{Flushing, Picked, Picks, Promoting}
use Rattle.lk_law.proofs.{cna.Ends.{c9_flush, c10_promote}, cna.Front.{owner_next, owner_tail}}
use Rattle.lk_law.proofs.{cna.Steps.{HandsOver, LetsReturn}, cna.Turn.{c8_move, c8_plain}}
use Rattle.lk_law.proofs.{common.Cases.waiter_cases, common.Families.{Last, lists_front}}
use Rattle.lk_law.proofs.common.Frame.{LeavesOthers, nodes_stay, nodes_leave, agrees_after}
use Rattle.lk_law.proofs.{common.Frame.no_posts, common.Told.{told_lock, told_others}}
use Rattle.lk_law.proofs.{queue.Laws.{apart_on, rewrite_here, own_is, node_is}, spin.Hold.hold_keep}
use Rattle.lk_law.proofs.{spin.Laws.SameNodes, spin.Pend.pend_still}

-- where waiters are moved aside there are two queues
pub cna_lists : {aside : Bool} {tail : Option NodeName} {phase : Waiter → Phase}
    {own : Waiter → NodeName} {node : NodeName → Node} {local : Waiter → Waiter → Bool}
    {threshold : ℕ}
    {stage : Waiter → Stage} {kept : Waiter
    → Option NodeName} {main second : List Waiter} {passes : List ℕ} → aside ≡ true
    → CnaAgrees tail phase own node local threshold stage kept main second passes
    → ListsAgree aside tail phase own node local threshold stage kept main second passes
cna_lists aside o = record { flat = λ e. absurd (grind (arith, aside, e)); cna = λ e. o }

-- the lists of a lock in such a family
abbrev pub Twofold : Snapshot → LockHistory → LockName → Type 0
Twofold s h l =
    CnaAgrees (s.word l).tail (s.phase l) s.own s.node s.local s.threshold
    (s.stage l) s.kept h.main h.second h.passes

module _ {s : Snapshot} {hs : LockName → LockHistory} {l : LockName}
    (ok : SnapshotAgrees s hs) where
  pub here : moves_aside s.mode ≡ true → Twofold s (hs l) l
  here aside = (ok.locks l).lists.cna aside

  -- who holds the lock as the front is the front
  pub front : {w : Waiter} → s.phase l w ≡ Holds → slice_get (hs l).main 0 ≡ Some w
  front {w = w} was = lists_front (ok.locks l).lists w (grind (arith, was))

  -- a node of one that acts on this lock is none of another's
  pub away : (s' : Snapshot) {n : NodeName} {y : Node} → Last (s.phase l) s.own n
      → Rewrites s.node s'.node n y → LeavesOthers s s' l
  away s' a writes = rewrite_here ok.nodes ok.alone a.by a.noded (sym a.owned) writes

module _ {s s' : Snapshot} {hs : LockName → LockHistory} {w : Waiter} {l : LockName}
    (ok : SnapshotAgrees s hs) (awake : halts s.mode ≡ false)
    (aside : moves_aside s.mode ≡ true) where
  module _ {x : Fields} (step : Step s s' w l Holds Holds x false false)
      (stays : Stays s s' w) where
    phase_same : s'.phase l ≡ s.phase l
    phase_same = (λ i u. one u i)
      where
        one : (u : Waiter) → s'.phase l u ≡ s.phase l u
        one u = elim
            (waiter_cases u w) [
              | inl e ↦ ap (s'.phase l) e ∙ step.acts.now ∙ sym step.acts.was
                  ∙ ap (s.phase l) (sym e)
              | inr ne ↦ step.acts.others u ne
            ]

    -- the lock after a row of the front that goes on: all is had from the lists
    chosen_lock : (main second : List Waiter) (passes : List ℕ) → x.locked ≡ (s.word l).locked
        → x.pending ≡ (s.word l).pending
        → CnaAgrees x.tail (s.phase l) s.own s'.node s.local s.threshold (s'.stage l) s'.kept main
        second passes
        → LockAgrees s' (record (hs l) { main = main; second = second; passes = passes }) l
    chosen_lock main second passes byte pending lists =
        let o = ok.locks l in
        record {
          holder = o.holder;
          holders = o.holders;
          hold =
              rw (step.word, byte) (hold_keep o.hold step.acts step.holds refl (λ q. refl)
              (λ q. absurd (grind arith)));
          pend = rw (step.word, byte, pending) (pend_still o.pend step.acts refl refl refl);
          posts = no_posts step awake;
          lists = cna_lists (ap moves_aside step.mode ∙ aside)
              (rw (step.word, step.local, step.threshold, phase_same, own_is stays step.owns)
              lists);
        }

  -- The front goes on with its choice, and tells nothing.
  pub law_search : Step s s' w l Holds Holds (s.word l) false false → Stays s s' w
      → LeavesOthers s s' l
      → CnaAgrees (s.word l).tail (s.phase l) s.own s'.node s.local s.threshold (s'.stage l) s'.kept
      (hs l).main (hs l).second (hs l).passes
      → SnapshotAgrees s' hs
  law_search step stays others lists =
      agrees_after step ok hs (nodes_stay step ok.nodes stays (λ p. refl)) others (λ k ne. refl)
      (chosen_lock step stays (hs l).main (hs l).second (hs l).passes refl refl lists)

  -- what the rows C8 do, and what C9 and C10 do, in records
  hands_over : {y : NodeName} {x : Node}
      → Step s s' w l Holds Idle (s.word l) false true
      → Rewrites s.node s'.node y x
      → x ≡ record (s.node y) { flag = flag_for (s.kept w) }
      → HandsOver (s.phase l) (s'.phase l) s.own s'.own s.node s'.node (s.stage l)
      (s'.stage l) s.kept
      (hs l).main w y x
  hands_over step writes store =
      record {
        front = front ok step.acts.was;
        moves = step.acts;
        writes = writes;
        store = store;
        owns = step.owns;
        stages = step.stages l;
        rests = step.rests (λ q. grind arith);
        apart = apart_on ok.nodes l;
      }

  lets_return : {y : NodeName} {x : Fields}
      → Step s s' w l Holds Holds x false false
      → s.kept w ≡ Some y
      → s'.kept w ≡ None
      → s'.stage l w ≡ Picks y
      → LetsReturn (s.phase l) s.own (s.stage l) (s'.stage l) s.kept s'.kept (hs l).main w y
  lets_return step named none now =
      record {
        front = front ok step.acts.was;
        holds = step.acts.was;
        names = named;
        forgets = none;
        stages = step.stages l;
        picks = now;
        apart = apart_on ok.nodes l;
      }

  -- The lead goes to the waiter behind those that were passed over, which go aside.
  pub law_move : {a b y : NodeName} {k : ℕ} {x : Node} (to : Waiter)
      → Step s s' w l Holds Idle (s.word l) false true → LeavesSlowPath s s' w
      → Rewrites s.node s'.node y x → x ≡ record (s.node y) { flag = flag_for (s.kept w) }
      → s.stage l w ≡ Counts a b k y
      → SnapshotAgrees s' (λ m. told m (hs m) (record { by = w; what = Pass l to k }))
  law_move {a = a} {b = b} {y = y} {k = k} {x = x} to step goes writes store is =
      let o = ok.locks l in
      let e : Event = record { by = w; what = Pass l to k } in
      let at = front ok step.acts.was in
      let h = here ok aside in
      let lists = c8_move h (hands_over step writes store) is s'.kept in
      agrees_after step ok (λ m. told m (hs m) e) (nodes_leave step ok.nodes goes refl)
      (away ok s' (owner_next h at step.acts.was is k y refl) writes) (told_others hs e refl)
      (told_lock (hs l) e refl (record {
        holder = o.holder;
        holders = o.holders;
        hold =
            rw step.word (hold_keep o.hold step.acts step.holds refl (λ q. absurd (grind arith))
            (λ q. absurd (grind arith)));
        pend = rw step.word (pend_still o.pend step.acts refl refl refl);
        posts = no_posts step awake;
        lists =
            cna_lists (ap moves_aside step.mode ∙ aside)
            (rw (step.word, step.local, step.threshold) lists);
      }))

  -- The lead goes to the waiter right behind the front.
  pub law_hand : {y : NodeName} {x : Node} (to : Waiter)
      → Step s s' w l Holds Idle (s.word l) false true → LeavesSlowPath s s' w
      → Rewrites s.node s'.node y x → x ≡ record (s.node y) { flag = flag_for (s.kept w) }
      → s.stage l w ≡ Picked y
      → SnapshotAgrees s' (λ m. told m (hs m) (record { by = w; what = Pass l to 0 }))
  law_hand {y = y} {x = x} to step goes writes store is =
      let o = ok.locks l in
      let e : Event = record { by = w; what = Pass l to 0 } in
      let at = front ok step.acts.was in
      let h = here ok aside in
      let lists = (c8_plain h (hands_over step writes store) s'.kept is).2 in
      agrees_after step ok (λ m. told m (hs m) e) (nodes_leave step ok.nodes goes refl)
      (away ok s' (owner_next h at step.acts.was is 0 y refl) writes) (told_others hs e refl)
      (told_lock (hs l) e refl (record {
        holder = o.holder;
        holders = o.holders;
        hold =
            rw step.word (hold_keep o.hold step.acts step.holds refl (λ q. absurd (grind arith))
            (λ q. absurd (grind arith)));
        pend = rw step.word (pend_still o.pend step.acts refl refl refl);
        posts = no_posts step awake;
        lists =
            cna_lists (ap moves_aside step.mode ∙ aside)
            (rw (step.word, step.local, step.threshold) lists);
      }))

  -- The second queue returns before the rest.
  pub law_flush : {a t y : NodeName} {x : Node} → Step s s' w l Holds Holds (s.word l) false false
      → Stays s s' w → Rewrites s.node s'.node t x → x ≡ record (s.node t) { next = Some a }
      → s.stage l w ≡ Flushing a t → s'.stage l w ≡ Picks y → s.kept w ≡ Some y → s'.kept w ≡ None
      → SnapshotAgrees s' (λ m. told m (hs m) (record { by = w; what = Flush l }))
  law_flush {a = a} {t = t} {y = y} {x = x} step stays writes store is now named none =
      let e : Event = record { by = w; what = Flush l } in
      let at = front ok step.acts.was in
      let h = here ok aside in
      let lists = c9_flush h (lets_return step named none now) is writes store in
      agrees_after step ok (λ m. told m (hs m) e) (nodes_stay step ok.nodes stays (λ p. refl))
      (away ok s' (owner_tail h at step.acts.was is t refl) writes) (told_others hs e refl)
      (told_lock (hs l) e refl
      (chosen_lock step stays (take 1 (hs l).main ++ ((hs l).second ++ drop 1 (hs l).main)) []
      [] refl refl lists))

  -- The second queue returns as the rest.
  pub law_promote : {t y : NodeName}
      → Step s s' w l Holds Holds
      (record { locked = (s.word l).locked; pending = (s.word l).pending; tail = Some t }) false
      false
      → Stays s s' w → SameNodes s s' → (s.word l).tail ≡ Some (s.own w) → s.stage l w ≡ Promoting t
      → s'.stage l w ≡ Picks y → s.kept w ≡ Some y → s'.kept w ≡ None
      → SnapshotAgrees s' (λ m. told m (hs m) (record { by = w; what = Promote l }))
  law_promote {t = t} {y = y} step stays nodes mine is now named none =
      let e : Event = record { by = w; what = Promote l } in
      let at = front ok step.acts.was in
      let h = here ok aside in
      let lists = c10_promote h (lets_return step named none now) is mine in
      agrees_after step ok (λ m. told m (hs m) e) (nodes_stay step ok.nodes stays (λ p. refl))
      (λ k u ne p. nodes (s.own u)) (told_others hs e refl)
      (told_lock (hs l) e refl
      (chosen_lock step stays (take 1 (hs l).main ++ ((hs l).second ++ drop 1 (hs l).main)) []
      [] refl refl (rw (node_is nodes) lists)))
