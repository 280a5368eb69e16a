use Rattle.std.proofs.Common.{◌≡◌, ◌≢◌, ℕ, suc, Option, Some, None, Bool, true, List, [], ◌∷◌, ◌++◌}
use Rattle.std.proofs.Common.{inl, inr, arith, ap, refl, sym, ◌∙◌, subst, slice_get, drop, take}
use Rattle.std.proofs.Common.{length, ◌+◌}
use Rattle.lk_law.proofs.Names.{NodeName, get-drop_one, last_cases, Waiter, rest_node, Node}
use Rattle.lk_law.proofs.Names.{CnaAgrees, FrontAgrees, SecondAgrees, first_node, front_cut}
use Rattle.lk_law.proofs.Names.{front_tip, named_by, part, shown, Phase, has_node, queues, Holds}
use Rattle.lk_law.proofs.Names.{Prepared, Waits, QueueAgrees, Stage, cut_of, Picks}
use Rattle.lk_law.proofs.cna.Joined.{get-join_left, get-join_right, nonempty}
use Rattle.lk_law.proofs.cna.Parts.{part_cases, part_in, part_out, not_in, outside_part, shown_at}
use Rattle.lk_law.proofs.{cna.Parts.shown_else, cna.Steps.{LetsReturn, JoinsAt}}
use Rattle.lk_law.proofs.common.Cases.{node_cases}
use Rattle.lk_law.proofs.queue.Insert.{queue_insert, insert-lists, PutsBack}

-- rows C9 and C10: second is put right behind the one that leads
module _ {tail tail' : Option NodeName} {phase : Waiter → Phase} {own : Waiter → NodeName}
    {node node' : NodeName → Node} {local : Waiter → Waiter → Bool} {threshold : ℕ}
    {stage stage' : Waiter → Stage} {kept kept' : Waiter → Option NodeName}
    {main second : List Waiter} {passes : List ℕ} {w : Waiter} {y t : NodeName} {x : Node}
    (ok : CnaAgrees tail phase own node local threshold stage kept main second passes)
    (step : LetsReturn phase own stage stage' kept kept' main w y)
    (at : JoinsAt tail tail' phase own node node' main (own w) t (stage w) x) where
  join-queue : QueueAgrees tail (part second phase) own node main
  join-queue = let e : front_cut own stage (slice_get main 0) ≡ None = rw step.front at.uncut in
      rw e at ok.queue

  join-second : SecondAgrees phase own node second None
  join-second = let e : front_tip stage (slice_get main 0) ≡ None = rw step.front at.no_tip in
      rw e at ok.second_ok

  join-lead : FrontAgrees phase own node local threshold main second passes w (stage w) (kept w)
  join-lead =
      let P : Option NodeName → Type 0 =
      λ o. FrontAgrees phase own node local threshold main second passes w (stage w) o in
      let e : named_by (phase w) ((node (own w)).flag) (kept w) ≡ kept w =
      ap (λ r. named_by r ((node (own w)).flag) (kept w)) step.holds in
      subst P e (ok.lead w step.front)

  -- the first and the last of second
  join-s : (s : Waiter) × (slice_get second 0 ≡ Some s) × (own s ≡ y)
  join-s =
      let p = nonempty second (join-lead.tail_some t at.met) in
      let e = join-lead.names (inl at.loose) in (
        p.0,
        p.1,
        (let f : Some (own p.0) ≡ Some y = sym (head second p.0 p.1) ∙ sym e ∙ step.names in cc f),
      )
    where
      head : (ws : List Waiter) (u : Waiter) → slice_get ws 0 ≡ Some u
          → first_node own ws ≡ Some (own u)
      head [] u h = cc
      head (t ∷ ws) u h = let e : t ≡ u = grind arith in ap (λ m. Some (own m)) e

  join-z : (i : ℕ) × (z : Waiter) × (slice_get second i ≡ Some z)
      × (slice_get second (suc i) ≡ None) × (own z ≡ t)
  join-z =
      elim (last_cases second) [
        | inl e ↦ absurd (join-lead.tail_some t at.met e)
        | inr p ↦ (p.0, p.1, p.2, p.3, sym (join-lead.tail_met t p.0 p.1 at.met p.2 p.3))
      ]

  join-noded : (u : Waiter) → phase u ≡ Waits → has_node (phase u) ≡ true
  join-noded u h = rw h refl

  -- only z has t
  join-other : (u : Waiter) → has_node (phase u) ≡ true → u ≢ join-z.1
      → node' (own u) ≡ node (own u)
  join-other u h ne =
      at.writes.others (own u)
      (λ e. let q = join-second.waits join-z.0 join-z.1 join-z.2 in
      ne (step.apart u join-z.1 h (join-noded join-z.1 q.0) (e ∙ sym join-z.4)))

  join-flag : (n : NodeName) → (node' n).flag ≡ (node n).flag
  join-flag n =
      elim (node_cases n t) [
        | inl e ↦ rw e (ap (λ (x : Node). x.flag) at.writes.now ∙ at.flag)
        | inr ne ↦ ap (λ (x : Node). x.flag) (at.writes.others n ne)
      ]

  join-runs : (n : NodeName) → (node' n).runs ≡ (node n).runs
  join-runs n =
      elim (node_cases n t) [
        | inl e ↦ rw e (ap (λ (x : Node). x.runs) at.writes.now ∙ at.runs)
        | inr ne ↦ ap (λ (x : Node). x.runs) (at.writes.others n ne)
      ]

  join-not_w : (u : Waiter) → phase u ≡ Waits → u ≢ w
  join-not_w u h e = cc (ap phase e, h, step.holds)

  -- a node of another than w is shown as it is
  join-shown : (u : Waiter) → has_node (phase u) ≡ true → u ≢ w
      → shown (Some (own w, y)) node' (own u) ≡ node' (own u)
  join-shown u h ne =
      shown_else (own w) y node' (own u) (λ e. ne (step.apart u w h (rw step.holds refl) e))

  join-in : (i : ℕ) (u : Waiter) → slice_get second i ≡ Some u
      → (phase u ≡ Waits) × (u ≢ w) × (shown (Some (own w, y)) node' (own u) ≡ node' (own u))
  join-in i u h = let q = join-second.waits i u h in let ne = join-not_w u q.0 in
      (q.0, ne, join-shown u (rw q.0 refl) ne)

  join-roled : (u : Waiter) → queues (part second phase u) ≡ true
      → (part second phase u ≡ phase u) × (queues (phase u) ≡ true) × (has_node (phase u) ≡ true)
      × (u ≢ join-z.1)
  join-roled u h =
      let p = part_out second phase u h in
      let q : queues (phase u) ≡ true = grind (arith, p.0, h) in (
        p.0,
        q,
        noded (phase u) q,
        λ e. not_in second u p.1 join-z.0 (join-z.2 ∙ ap (λ z. Some z) (sym e)),
      )
    where
      noded : (r : Phase) → queues r ≡ true → has_node r ≡ true
      noded r p = grind arith

  join-old : (u : Waiter) → queues (part second phase u) ≡ true → u ≢ w
      → (phase u ≡ part second phase u)
      × ((shown (Some (own w, y)) node' (own u)).flag ≡ (node (own u)).flag)
      × ((shown (Some (own w, y)) node' (own u)).next ≡ (node (own u)).next)
  join-old u h ne =
      let r = join-roled u h in
      let e = join-shown u r.2 ne ∙ join-other u r.2 r.3 in
      (sym r.0, ap (λ (x : Node). x.flag) e, ap (λ (x : Node). x.next) e)

  join-links : (i : ℕ) (u v : Waiter) → slice_get second i ≡ Some u
      → slice_get second (suc i) ≡ Some v
      → (shown (Some (own w, y)) node' (own u)).next ≡ Some (own v)
  join-links i u v h k =
      let q = join-in i u h in
      let ne : u ≢ join-z.1 =
      (λ e. let o = join-second.once i join-z.0 join-z.1 (h ∙ ap (λ z. Some z) e) join-z.2 in
      let k' : slice_get second (suc join-z.0) ≡ Some v =
      subst (λ (j : ℕ). slice_get second (suc j) ≡ Some v) o k in cc (k', join-z.3)) in
      ap (λ (x : Node). x.next) (q.2 ∙ join-other u (rw q.0 refl) ne) ∙ join-second.linked i u v h k

  join-last : (i : ℕ) (z : Waiter) → slice_get second i ≡ Some z → slice_get second (suc i) ≡ None
      → (shown (Some (own w, y)) node' (own z)) ≡ x
  join-last i z h k =
      let q = join-in i z h in
      let e = join-lead.tail_met t i z at.met h k in
      q.2 ∙ ap node' (sym e) ∙ at.writes.now

  join-all : QueueAgrees tail' phase own (shown (Some (own w, y)) node')
      (w ∷ (second ++ drop 1 main))
  join-all =
      let back : PutsBack tail tail' (part second phase) phase own node
      (shown (Some (own w, y)) node') main second w join-s.0 =
      record {
        front = step.front;
        held = owner-part;
        holds = step.holds;
        first = join-s.1;
        waits = λ i u h. let q = join-in i u h in (
          q.0,
          ap queues (part_in second phase i u h),
          ap (λ (x : Node). x.flag) q.2
              ∙ join-flag (own u) ∙ (join-second.waits i u h).1,
        );
        once = join-second.once;
        links = join-links;
        head = ap (λ (x : Node). x.next) (shown_at (own w) y node' (own w) refl)
            ∙ ap (λ n. Some n) (sym join-s.2);
        seam = λ i z v h k g. elim at.way [
          | inl p ↦ let same : p.0 ≡ v = grind (arith, p.1, g) in (
            p.4,
            subst (λ (q : Waiter). part second phase q ≡ Waits) same (main-waits p.0 p.1 p.2),
            ap (λ (x : Node). x.next) (join-last i z h k) ∙ p.3 ∙ ap (λ q. Some (own q)) same,
          )
          | inr p ↦ absurd (cc (p.0, g))
        ];
        ends = λ i z h k g. elim at.way [
          | inl p ↦ absurd (cc (p.1, g))
          | inr p ↦ (
            p.2 ∙ ap (λ n. Some n) (join-lead.tail_met t i z at.met h k),
            ap (λ (x : Node). x.next) (join-last i z h k) ∙ p.1,
          )
        ];
        same = join-old;
        back = λ u h. elim (part_cases second phase u) [
          | inl p ↦ inr (p.0, p.1)
          | inr q ↦ inl (ap queues q.0 ∙ h)
        ];
        fresh = fresh;
      } in
      queue_insert join-queue back
    where
      main-waits : (v : Waiter) → slice_get main 1 ≡ Some v → phase v ≡ Waits
          → part second phase v ≡ Waits
      main-waits v h r = (join-roled v (join-queue.members.inside 1 v h)).0 ∙ r

      owner-part : part second phase w ≡ Holds
      owner-part = (join-roled w (join-queue.members.inside 0 w step.front)).0 ∙ step.holds

      fresh : (u : Waiter) → phase u ≡ Prepared → shown (Some (own w, y)) node' (own u) ≡ rest_node
      fresh u h =
          let ne : u ≢ w = (λ e. cc (ap phase e, h, step.holds)) in
          let q = join-second.waits join-z.0 join-z.1 join-z.2 in
          let nz : u ≢ join-z.1 = (λ e. cc (ap phase e, h, q.0)) in
          let out : part second phase u ≡ phase u =
          outside_part second phase u (λ i g. cc (h, (join-second.waits i u g).0)) in
          join-shown u (rw h refl) ne ∙ join-other u (rw h refl) nz
          ∙ join-queue.links.fresh u (out ∙ h)

  join-leader : FrontAgrees phase own node' local threshold (w ∷ (second ++ drop 1 main)) [] [] w
      (Picks y) None
  join-leader =
      record {
        names = λ p. refl;
        names_moved = λ a c j p q r. cc p;
        tail_at = λ i u z p h. cc h;
        tail_hung = λ c n p. cc p;
        tail_met = λ t i z p. cc p;
        tail_some = λ t p. cc p;
        run = rw join-runs join-lead.run;
        run_none = λ p q. cc q;
        run_short = λ a c j p. cc p;
        run_picks = λ n p q. cc q;
        own_link = λ n p e.
            let z = join-second.waits join-z.0 join-z.1 join-z.2 in
            let nz : w ≢ join-z.1 = (λ e. cc (ap phase e, z.0, step.holds)) in
            let here : (node (own w)).next ≡ Some n =
            ap (λ (x : Node). x.next) (sym (join-other w (rw step.holds refl) nz)) ∙ e in
            elim at.way [
              | inl v ↦
                  let out = part_out second phase v.0 (join-queue.members.inside 1 v.0 v.1) in
                  let is : Some n ≡ Some (own v.0) =
                  sym here ∙ join-queue.links.linked 0 w v.0 step.front v.1 (out.0 ∙ v.2) in
                  let q : n ≡ own v.0 = cc is in (
                    length second + 0,
                    v.0,
                    get-join_right second (drop 1 main) 0 ∙ (get-drop_one main 0 ∙ v.1),
                    v.2,
                    sym q,
                  )
              | inr none ↦
                  let is : None ≡ Some n =
                  sym (join-queue.links.last 0 w step.front none.0) ∙ here in absurd (cc is)
            ];
        run_next = λ z p. cc p;
        some = λ a c j p. cc p;
        far = λ a c j i p. cc p;
        near = λ a c j u p. cc p;
        close = λ a c j u p. cc p;
        cut = λ c p. cc p;
        next = λ j z p.
            let pq : ◌≡◌ {A = ℕ × NodeName} (j, z) (0, y) = cc p in
            let e : j ≡ 0 = ap (λ (r : ℕ × NodeName). r.0) pq in
            let f : y ≡ z = sym (ap (λ (r : ℕ × NodeName). r.1) pq) in
            let g = get-join_left second (drop 1 main) 0 join-s.0 join-s.1 in (
              join-s.0,
              subst
                  (λ (n : ℕ). slice_get (w ∷ (second ++ drop 1 main)) (suc n) ≡ Some join-s.0)
                  (sym e)
                  g,
              (join-in 0 join-s.0 join-s.1).0,
              join-s.2 ∙ f,
            );
        kin = λ c d j m z p q. cc p;
        before = λ a p. cc p;
        lengths = refl;
        oldest = λ n h. cc h;
        bounded = λ i n h. cc h;
      }

  pub c9_c10 : CnaAgrees tail' phase own node' local threshold stage' kept'
      (take 1 main ++ (second ++ drop 1 main)) [] []
  c9_c10 =
      rw (insert-lists main w (second ++ drop 1 main) step.front) (record {
        queue = let e : front_cut own stage' (Some w) ≡ Some (own w, y) =
            ap (cut_of (own w)) step.picks in
            rw e join-all;
        second_ok = record {
          waits = λ i u h. cc h;
          once = λ i j u h. cc h;
          linked = λ i u v h. cc h;
          last = λ i u h. cc h;
        };
        moved = λ i u h. cc h;
        lead = λ u h.
            let same : w ≡ u = grind (arith, h) in
            let P : Waiter → Type 0 =
            λ z. FrontAgrees phase own node' local threshold (w ∷ (second ++ drop 1 main)) []
            [] z (stage' z) (named_by (phase z) ((node' (own z)).flag) (kept' z)) in
            subst P same (rw (step.picks, step.holds, step.forgets) join-leader);
        lengths = refl;
        empty = λ h. refl;
        calm = λ u h.
            let ne : u ≢ w = (λ e. h (ap phase e ∙ step.holds)) in step.stages u ne ∙ ok.calm u h;
      })
