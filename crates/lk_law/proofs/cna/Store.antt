use Rattle.std.proofs.Common.{◌≡◌, ◌≢◌, ℕ, suc, Option, Some, None, Bool, true, false, List, []}
use Rattle.std.proofs.Common.{◌∷◌, inl, inr, arith, ap, refl, sym, ◌∙◌, subst, ◌+◌, slice_get}
use Rattle.std.proofs.Common.{if◌then◌else◌}
use Rattle.lk_law.proofs.Names.{NodeName, last_cases, Waiter, Node, CnaAgrees, FrontAgrees}
use Rattle.lk_law.proofs.Names.{SecondAgrees, first_node, is_in, part, same_none, shown, Phase}
use Rattle.lk_law.proofs.Names.{has_node, queues, Holds, Prepared, Waits, QueueAgrees, Rewrites}
use Rattle.lk_law.proofs.Names.{Stage, chosen, cut_of, passed_over, tied, tip_of, Counts, Cuts}
use Rattle.lk_law.proofs.Names.{Hangs, Picked, Picks, Ties, Tips}
use Rattle.lk_law.proofs.cna.Front.{front_lead, front_queue, front_second}
use Rattle.lk_law.proofs.cna.Look.{queue_same, stage_turn}
use Rattle.lk_law.proofs.cna.Parts.{part_cases, part_out, not_in, shown_at, shown_else, shown_flag}
use Rattle.lk_law.proofs.{cna.Parts.shown_same, common.Cases.{node_cases, Apart}}

shown_next : (c : Option (NodeName × NodeName)) (node node' : NodeName → Node) (n : NodeName)
    → (node' n).next ≡ (node n).next → (shown c node' n).next ≡ (shown c node n).next
shown_next None node node' n e = e
shown_next (Some p) node node' n e =
    elim (node_cases n p.0) [
      | inl q ↦ ap (λ (x : Node). x.next) (shown_at p.0 p.1 node' n q)
          ∙ sym (ap (λ (x : Node). x.next) (shown_at p.0 p.1 node n q))
      | inr ne ↦ ap (λ (x : Node). x.next) (shown_else p.0 p.1 node' n ne) ∙ e
          ∙ sym (ap (λ (x : Node). x.next) (shown_else p.0 p.1 node n ne))
    ]

first-of : (own : Waiter → NodeName) (ws : List Waiter) (n : NodeName) → first_node own ws ≡ Some n
    → (u : Waiter) × (slice_get ws 0 ≡ Some u) × (own u ≡ n)
first-of own [] n h = cc h
first-of own (z ∷ ws) n h = (z, refl, (let q : own z ≡ n = cc h in q))

-- the one that leads stores into one node
module _ {tail : Option NodeName} {phase : Waiter → Phase} {own : Waiter → NodeName}
    {node node' : NodeName → Node} {local : Waiter → Waiter → Bool} {threshold : ℕ}
    {stage stage' : Waiter → Stage} {kept : Waiter → Option NodeName} {main second : List Waiter}
    {passes : List ℕ} {w : Waiter} {m : NodeName} {x : Node} (kept' : Waiter → Option NodeName)
    (ok : CnaAgrees tail phase own node local threshold stage kept main second passes)
    (at_w : slice_get main 0 ≡ Some w) (owner : phase w ≡ Holds)
    (stages : (u : Waiter) → u ≢ w → stage' u ≡ stage u) (same : kept' w ≡ kept w)
    (writes : Rewrites node node' m x)
    (apart : Apart phase own) where
  put-lead : (g : Stage) → stage w ≡ g
      → FrontAgrees phase own node local threshold main second passes w g (kept w)
  put-lead g e = front_lead ok at_w owner e

  put-queue : (g : Stage) → stage w ≡ g
      → QueueAgrees tail (part second phase) own (shown (cut_of (own w) g) node) main
  put-queue g e = front_queue ok at_w owner e

  put-second : (g : Stage) → stage w ≡ g → SecondAgrees phase own node second (tip_of g)
  put-second g e = front_second ok at_w owner e

  put-field : {A : Type 0} (F : Node → A) → F x ≡ F (node m) → (n : NodeName)
      → F (node' n) ≡ F (node n)
  put-field F e n = elim (node_cases n m) [
    | inl q ↦ rw q (ap F writes.now ∙ e)
    | inr ne ↦ ap F (writes.others n ne)
  ]

  -- a waiter of the main queue
  put-main : (g : Stage) → stage w ≡ g → (i : ℕ) (u : Waiter) → slice_get main i ≡ Some u
      → (part second phase u ≡ phase u) × (is_in second u ≡ false) × (has_node (phase u) ≡ true)
  put-main g is i u h =
      let q = (put-queue g is).members.inside i u h in let p = part_out second phase u q in
      (p.0, p.1, noded (phase u) (ap queues (sym p.0) ∙ q))
    where
      noded : (r : Phase) → queues r ≡ true → has_node r ≡ true
      noded r p = grind arith

  put-queued : (u : Waiter) → queues (part second phase u) ≡ true
      → (has_node (phase u) ≡ true) × (is_in second u ≡ false)
  put-queued u h =
      let p = part_out second phase u h in (noded (phase u) (ap queues (sym p.0) ∙ h), p.1)
    where
      noded : (r : Phase) → queues r ≡ true → has_node r ≡ true
      noded r p = grind arith

  -- m is the node of z, which waits; a fresh waiter has another
  put-fresh : (z : Waiter) → phase z ≡ Waits → own z ≡ m → (u : Waiter)
      → part second phase u ≡ Prepared → node' (own u) ≡ node (own u)
  put-fresh z wz e u h =
      elim (part_cases second phase u) [
        | inl p ↦ absurd (cc (p.2, h))
        | inr q ↦ let r : phase u ≡ Prepared = sym q.0 ∙ h in
            writes.others (own u) (λ f. let s : u ≡ z =
            apart u z (rw r refl) (rw wz refl) (f ∙ sym e) in cc (ap phase s, r, wz))
      ]

  -- a store that the queues do not read
  put-soft : (g g' : Stage) → stage w ≡ g → stage' w ≡ g' → cut_of (own w) g' ≡ cut_of (own w) g
      → tip_of g' ≡ tip_of g → x.flag ≡ (node m).flag → x.next ≡ (node m).next → (z : Waiter)
      → phase z ≡ Waits → own z ≡ m
      → FrontAgrees phase own node' local threshold main second passes w g' (kept' w)
      → CnaAgrees tail phase own node' local threshold stage' kept' main second passes
  put-soft g g' is now cut tip flag next z wz e lead =
      let fl = put-field (λ (n : Node). n.flag) flag in
      let nx = put-field (λ (n : Node). n.next) next in
      let so = put-second g is in
      stage_turn {node' = node'} {kept' = kept'} ok at_w owner stages
      (rw (now, cut)
      (queue_same (put-queue g is)
      (λ u h. (
        shown_flag (cut_of (own w) g) node' (own u) ∙ fl (own u)
            ∙ sym (shown_flag (cut_of (own w) g) node (own u)),
        shown_next (cut_of (own w) g) node node' (own u) (nx (own u)),
      ))
      (λ u h. shown_same (cut_of (own w) g) node node' (own u) (put-fresh z wz e u h)
      ∙ (put-queue g is).links.fresh u h)))
      (rw (now, tip) (record {
        waits = λ i u h. let q = so.waits i u h in (q.0, fl (own u) ∙ q.1);
        once = so.once;
        linked = λ i u v h k. nx (own u) ∙ so.linked i u v h k;
        last = λ i u h k. nx (own u) ∙ so.last i u h k;
      }))
      (rw now lead)

  -- whom second is named by
  put-named : (a b : NodeName) (k : ℕ) (g : Stage) → stage w ≡ g → passed_over g ≡ Some (a, b, k)
      → tied g ≡ true → (n : NodeName) → kept w ≡ Some n
      → (z : Waiter) × (phase z ≡ Waits) × (own z ≡ n)
  put-named a b k g is sk tie n e =
      let o = put-lead g is in
      elim (last_cases second) [
        | inl em ↦
            let q = o.names_moved a b k tie sk em in
            let s = o.some a b k sk in let s1 = s.1 in
            let f = o.far a b k 0 sk (omega arith) in
            (f.0, f.2, o.near a b k f.0 sk f.1 ∙ (let r : Some a ≡ Some n = sym q ∙ e in cc r))
        | inr p ↦
            let q = o.names (inr (λ em. cc (em, p.2))) in
            let f = first-of own second n (sym q ∙ e) in
            (f.0, ((put-second g is).waits 0 f.0 f.1).0, f.2)
      ]

  put-chosen : (k : ℕ) (y : NodeName) (g : Stage) → stage w ≡ g → chosen g ≡ Some (k, y)
      → (z : Waiter) × (slice_get main (suc k) ≡ Some z) × (phase z ≡ Waits) × (own z ≡ y)
  put-chosen k y g is ch = (put-lead g is).next k y ch

  put-not_w : (z : Waiter) → phase z ≡ Waits → own z ≢ own w
  put-not_w z h e =
      let s : z ≡ w = apart z w (rw h refl) (rw owner refl) e in cc (ap phase s, h, owner)

  -- C6: b becomes the last of second
  pub c6_hang : (a b : NodeName) (k : ℕ) (y : NodeName) → stage w ≡ Cuts a b k y
      → stage' w ≡ Hangs a b k y → kept w ≡ Some m → x ≡ record (node m) { second_tail = Some b }
      → CnaAgrees tail phase own node' local threshold stage' kept' main second passes
  c6_hang a b k y is now named store =
      let o = put-lead (Cuts a b k y) is in
      let z = put-named a b k (Cuts a b k y) is refl refl m named in
      let runs = put-field (λ (n : Node). n.runs) (ap (λ (n : Node). n.runs) store) in
      let nx = put-field (λ (n : Node). n.next) (ap (λ (n : Node). n.next) store) in
      put-soft (Cuts a b k y) (Hangs a b k y) is now refl refl (ap (λ (n : Node). n.flag) store)
      (ap (λ (n : Node). n.next) store) z.0 z.1 z.2 (rw same (
      record {
        names = o.names;
        names_moved = o.names_moved;
        tail_at = λ i u t p. cc p;
        tail_hung = λ c n p q. let e : m ≡ n = (let r : Some m ≡ Some n = sym named ∙ q in cc r) in
            let f : b ≡ c = cc p in
            ap (λ j. (node' j).second_tail) (sym e)
            ∙ ap (λ (j : Node). j.second_tail) (writes.now ∙ store) ∙ ap (λ j. Some j) f;
        tail_met = o.tail_met;
        tail_some = o.tail_some;
        run = rw (runs (own w)) o.run;
        run_none = λ p q. runs (own w) ∙ o.run_none p q;
        run_short = λ c d j p. rw (runs (own w)) (o.run_short c d j p);
        run_picks = λ n p. cc p;
        own_link = λ n p. cc p;
        run_next = λ j p. cc p;
        some = o.some;
        far = o.far;
        near = o.near;
        close = o.close;
        cut = λ c p. nx c ∙ o.cut c p;
        next = o.next;
        kin = o.kin;
        before = o.before;
        lengths = o.lengths;
        oldest = λ n h. o.oldest n h ∙ sym (runs (own w));
        bounded = λ i n h. rw (runs (own w)) (o.bounded i n h);
      }))

  -- C7: the next one gets to know how long the run is
  pub c7_count : (a b : NodeName) (k : ℕ) (y : NodeName) → stage w ≡ Hangs a b k y
      → stage' w ≡ Counts a b k y → y ≡ m
      → x ≡ record (node m) { runs = if same_none (kept w) then 0 else ((node (own w)).runs + 1) }
      → CnaAgrees tail phase own node' local threshold stage' kept' main second passes
  c7_count a b k y is now at store =
      let o = put-lead (Hangs a b k y) is in
      let z = put-chosen k y (Hangs a b k y) is refl in
      let other : own w ≢ m = (λ e. put-not_w z.0 z.2 (z.3 ∙ at ∙ sym e)) in
      let runs : (node' (own w)).runs ≡ (node (own w)).runs =
      ap (λ (n : Node). n.runs) (writes.others (own w) other) in
      let nx = put-field (λ (n : Node). n.next) (ap (λ (n : Node). n.next) store) in
      let tl = put-field (λ (n : Node). n.second_tail) (ap (λ (n : Node). n.second_tail) store) in
      put-soft (Hangs a b k y) (Counts a b k y) is now refl refl (ap (λ (n : Node). n.flag) store)
      (ap (λ (n : Node). n.next) store) z.0 z.2 (z.3 ∙ at) (rw same (
      record {
        names = o.names;
        names_moved = o.names_moved;
        tail_at = λ i u t p. cc p;
        tail_hung = λ c n p q. tl n ∙ o.tail_hung c n p q;
        tail_met = o.tail_met;
        tail_some = o.tail_some;
        run = rw runs o.run;
        run_none = λ p q. runs ∙ o.run_none p q;
        run_short = λ c d j p. rw runs (o.run_short c d j p);
        run_picks = λ n p q. rw runs (o.run_picks n p q);
        own_link = λ n p. cc p;
        run_next = λ j p. let e : y ≡ j = cc p in
            ap (λ n. (node' n).runs) (sym e ∙ at) ∙ ap (λ (n : Node). n.runs) (writes.now ∙ store)
            ∙ ap (λ n. if same_none (kept w) then 0 else (n + 1)) (sym runs);
        some = o.some;
        far = o.far;
        near = o.near;
        close = o.close;
        cut = λ c p. nx c ∙ o.cut c p;
        next = o.next;
        kin = o.kin;
        before = o.before;
        lengths = o.lengths;
        oldest = λ n h. o.oldest n h ∙ sym runs;
        bounded = λ i n h. rw runs (o.bounded i n h);
      }))

  -- C7: the next one gets to know how long the run is
  pub c7_plain : (y : NodeName) → stage w ≡ Picks y → stage' w ≡ Picked y → y ≡ m
      → x ≡ record (node m) { runs = if same_none (kept w) then 0 else ((node (own w)).runs + 1) }
      → CnaAgrees tail phase own node' local threshold stage' kept' main second passes
  c7_plain y is now at store =
      let o = put-lead (Picks y) is in
      let z = put-chosen 0 y (Picks y) is refl in
      let other : own w ≢ m = (λ e. put-not_w z.0 z.2 (z.3 ∙ at ∙ sym e)) in
      let runs : (node' (own w)).runs ≡ (node (own w)).runs =
      ap (λ (n : Node). n.runs) (writes.others (own w) other) in
      let nx = put-field (λ (n : Node). n.next) (ap (λ (n : Node). n.next) store) in
      let tl = put-field (λ (n : Node). n.second_tail) (ap (λ (n : Node). n.second_tail) store) in
      put-soft (Picks y) (Picked y) is now refl refl (ap (λ (n : Node). n.flag) store)
      (ap (λ (n : Node). n.next) store) z.0 z.2 (z.3 ∙ at) (rw same (
      record {
        names = o.names;
        names_moved = o.names_moved;
        tail_at = λ i u t p h g n. tl (own u) ∙ o.tail_at i u t p h g n;
        tail_hung = λ c n p q. tl n ∙ o.tail_hung c n p q;
        tail_met = o.tail_met;
        tail_some = o.tail_some;
        run = rw runs o.run;
        run_none = λ p q. runs ∙ o.run_none p q;
        run_short = λ c d j p. rw runs (o.run_short c d j p);
        run_picks = λ n p q. rw runs (o.run_picks n p q);
        own_link = λ n p e. o.own_link n refl (sym (nx (own w)) ∙ e);
        run_next = λ j p. let e : y ≡ j = cc p in
            ap (λ n. (node' n).runs) (sym e ∙ at) ∙ ap (λ (n : Node). n.runs) (writes.now ∙ store)
            ∙ ap (λ n. if same_none (kept w) then 0 else (n + 1)) (sym runs);
        some = o.some;
        far = o.far;
        near = o.near;
        close = o.close;
        cut = λ c p. nx c ∙ o.cut c p;
        next = o.next;
        kin = o.kin;
        before = o.before;
        lengths = o.lengths;
        oldest = λ n h. o.oldest n h ∙ sym runs;
        bounded = λ i n h. rw runs (o.bounded i n h);
      }))

  -- C4: the first of those passed over stands behind the last of second
  pub c4_tie : (a b : NodeName) (k : ℕ) (y : NodeName) → stage w ≡ Tips a b k y m
      → stage' w ≡ Ties a b k y → x ≡ record (node m) { next = Some a }
      → CnaAgrees tail phase own node' local threshold stage' kept' main second passes
  c4_tie a b k y is now store =
      let o = put-lead (Tips a b k y m) is in
      let so = put-second (Tips a b k y m) is in
      let qu = put-queue (Tips a b k y m) is in
      let there = o.tail_some m refl in
      let z = put-last so (λ i v h g. o.tail_met m i v refl h g) there in
      let wz = (so.waits z.0 z.1 z.2).0 in
      let fl = put-field (λ (n : Node). n.flag) (ap (λ (n : Node). n.flag) store) in
      let runs = put-field (λ (n : Node). n.runs) (ap (λ (n : Node). n.runs) store) in
      let tl = put-field (λ (n : Node). n.second_tail) (ap (λ (n : Node). n.second_tail) store) in
      let keep : (u : Waiter) → queues (part second phase u) ≡ true → node' (own u) ≡ node (own u) =
      λ u h. let p = put-queued u h in
      writes.others (own u)
      (λ e. let s : u ≡ z.1 = apart u z.1 p.0 (rw wz refl) (e ∙ sym z.4) in
      not_in second u p.1 z.0 (z.2 ∙ ap (λ v. Some v) (sym s))) in
      stage_turn {node' = node'} {kept' = kept'} ok at_w owner stages
      (rw now (queue_same qu
      (λ u h. (ap (λ (n : Node). n.flag) (keep u h), ap (λ (n : Node). n.next) (keep u h)))
      (λ u h. put-fresh z.1 wz z.4 u h ∙ qu.links.fresh u h)))
      (rw now (record {
        waits = λ i u h. let q = so.waits i u h in (q.0, fl (own u) ∙ q.1);
        once = so.once;
        linked = λ i u v h g. let ne : own u ≢ m = (λ e.
            let s : u ≡ z.1 = apart u z.1 (rw (so.waits i u h).0 refl) (rw wz refl) (e ∙ sym z.4) in
            let j = so.once i z.0 z.1 (h ∙ ap (λ v. Some v) s) z.2 in
            let g' : slice_get second (suc z.0) ≡ Some v =
            subst (λ (n : ℕ). slice_get second (suc n) ≡ Some v) j g in cc (g', z.3)) in
            ap (λ (n : Node). n.next) (writes.others (own u) ne) ∙ so.linked i u v h g;
        last = λ i u h g. let e = o.tail_met m i u refl h g in
            ap (λ n. (node' n).next) (sym e) ∙ ap (λ (n : Node). n.next) (writes.now ∙ store);
      }))
      (rw (now, same) (
      record {
        names = λ p. o.names (inl refl);
        names_moved = λ c d j p q r. absurd (there r);
        tail_at = λ i u t p h g n. tl (own u) ∙ o.tail_at i u t refl h g n;
        tail_hung = λ c n p. cc p;
        tail_met = λ t i v p. cc p;
        tail_some = λ t p. cc p;
        run = rw (runs (own w)) o.run;
        run_none = λ p q. absurd (there p);
        run_short = λ c d j p. rw (runs (own w)) (o.run_short c d j p);
        run_picks = λ n p. cc p;
        own_link = λ n p. cc p;
        run_next = λ j p. cc p;
        some = o.some;
        far = o.far;
        near = o.near;
        close = o.close;
        cut = λ c p. cc p;
        next = o.next;
        kin = o.kin;
        before = o.before;
        lengths = o.lengths;
        oldest = λ n h. o.oldest n h ∙ sym (runs (own w));
        bounded = λ i n h. rw (runs (own w)) (o.bounded i n h);
      }))
    where
      put-last : SecondAgrees phase own node second None
          → ((i : ℕ) (v : Waiter) → slice_get second i ≡ Some v → slice_get second (suc i) ≡ None
          → m ≡ own v)
          → second ≢ []
          → (i : ℕ) × (z : Waiter) × (slice_get second i ≡ Some z)
          × (slice_get second (suc i) ≡ None) × (own z ≡ m)
      put-last so met there =
          elim (last_cases second) [
            | inl e ↦ absurd (there e)
            | inr p ↦ (p.0, p.1, p.2, p.3, sym (met p.0 p.1 p.2 p.3))
          ]

  -- C5: nothing stands behind the last of those passed over
  pub c5_cut : (a b : NodeName) (k : ℕ) (y : NodeName) → stage w ≡ Ties a b k y
      → stage' w ≡ Cuts a b k y → b ≡ m → x ≡ record (node m) { next = None }
      → CnaAgrees tail phase own node' local threshold stage' kept' main second passes
  c5_cut a b k y is now at store =
      let o = put-lead (Ties a b k y) is in
      let so = put-second (Ties a b k y) is in
      let qu = put-queue (Ties a b k y) is in
      let s = o.some a b k refl in
      let f = o.far a b k s.0 refl (let e = s.1 in omega arith) in
      let at_b : slice_get main k ≡ Some f.0 = ap (slice_get main) s.1 ∙ f.1 in
      let fb : own f.0 ≡ m = o.close a b k f.0 refl at_b ∙ at in
      let v = put-chosen k y (Ties a b k y) is refl in
      let link : (node m).next ≡ Some y = ap (λ n. (node n).next) (sym fb)
      ∙ qu.links.linked k f.0 v.0 at_b v.1 ((put-main (Ties a b k y) is (suc k) v.0 v.1).0 ∙ v.2)
      ∙ ap (λ n. Some n) v.3 in
      let runs = put-field (λ (n : Node). n.runs) (ap (λ (n : Node). n.runs) store) in
      let tl = put-field (λ (n : Node). n.second_tail) (ap (λ (n : Node). n.second_tail) store) in
      let all : (n : NodeName) → shown (Some (b, y)) node' n ≡ node n =
      λ n. elim (node_cases n b) [
        | inl e ↦ shown_at b y node' n e
            ∙ ap (λ (z : Node). record z { next = Some y }) (ap node' (e ∙ at) ∙ writes.now ∙ store)
            ∙ rw (e, at, sym link) refl
        | inr ne ↦ shown_else b y node' n ne ∙ writes.others n (λ e. ne (e ∙ sym at))
      ] in
      let side : (i : ℕ) (u : Waiter) → slice_get second i ≡ Some u → node' (own u) ≡ node (own u) =
      λ i u h.
      writes.others (own u) (λ e.
      let t : u ≡ f.0 = apart u f.0 (rw (so.waits i u h).0 refl) (rw f.2 refl) (e ∙ sym fb) in
      not_in second f.0 (put-main (Ties a b k y) is k f.0 at_b).1 i (h ∙ ap (λ v. Some v) t)) in
      stage_turn {node' = node'} {kept' = kept'} ok at_w owner stages
      (rw now (queue_same qu
      (λ u h. (ap (λ (n : Node). n.flag) (all (own u)), ap (λ (n : Node). n.next) (all (own u))))
      (λ u h. all (own u) ∙ qu.links.fresh u h)))
      (rw now (record {
        waits = λ i u h.
            let q = so.waits i u h in (q.0, ap (λ (n : Node). n.flag) (side i u h) ∙ q.1);
        once = so.once;
        linked = λ i u t h g. ap (λ (n : Node). n.next) (side i u h) ∙ so.linked i u t h g;
        last = λ i u h g. ap (λ (n : Node). n.next) (side i u h) ∙ so.last i u h g;
      }))
      (rw (now, same) (
      record {
        names = o.names;
        names_moved = o.names_moved;
        tail_at = λ i u t p h g n. tl (own u) ∙ o.tail_at i u t p h g n;
        tail_hung = λ c n p. cc p;
        tail_met = o.tail_met;
        tail_some = o.tail_some;
        run = rw (runs (own w)) o.run;
        run_none = λ p q. runs (own w) ∙ o.run_none p q;
        run_short = λ c d j p. rw (runs (own w)) (o.run_short c d j p);
        run_picks = λ n p. cc p;
        own_link = λ n p. cc p;
        run_next = λ j p. cc p;
        some = o.some;
        far = o.far;
        near = o.near;
        close = o.close;
        cut = λ c p. let e : b ≡ c = cc p in
            ap (λ n. (node' n).next) (sym e ∙ at) ∙ ap (λ (n : Node). n.next) (writes.now ∙ store);
        next = o.next;
        kin = o.kin;
        before = o.before;
        lengths = o.lengths;
        oldest = λ n h. o.oldest n h ∙ sym (runs (own w));
        bounded = λ i n h. rw (runs (own w)) (o.bounded i n h);
      }))
