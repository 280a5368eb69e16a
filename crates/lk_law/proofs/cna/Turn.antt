use Rattle.std.proofs.Common.{◌≡◌, ◌≢◌, ℕ, suc, Option, Some, None, Bool, true, false, List, []}
use Rattle.std.proofs.Common.{◌∷◌, ◌++◌, inl, inr, arith, ap, refl, sym, ◌∙◌, subst, ◌<◌, slice_get}
use Rattle.std.proofs.Common.{drop, take, replicate, map}
use Rattle.lk_law.proofs.Names.{NodeName, get-drop_one, last_cases, Waiter, Node, CnaAgrees}
use Rattle.lk_law.proofs.Names.{FrontAgrees, SecondAgrees, first_node, front_cut, front_tip, is_in}
use Rattle.lk_law.proofs.Names.{named_by, part, shown, Phase, has_node, queues, Waits, QueueAgrees}
use Rattle.lk_law.proofs.Names.{Stage, chosen, cut_of, hangs, parted, passed_over, picks, tied}
use Rattle.lk_law.proofs.Names.{tip_of, Counts, Picked}
use Rattle.lk_law.proofs.cna.Hand.{second_keep, append-nil, c8_all}
use Rattle.lk_law.proofs.cna.Joined.{get-take_none, get_below}
use Rattle.lk_law.proofs.cna.Parts.{part_out, not_in, shown_else, shown_flag}
use Rattle.lk_law.proofs.cna.Pass.{get-skip, skip-in, c8-main, c8-same}
use Rattle.lk_law.proofs.cna.SecondJoin.{second_join, IsAppended}
use Rattle.lk_law.proofs.cna.Steps.{HandsOver, IsHandedTo, KnowsMoved}
use Rattle.lk_law.specs.Stage.{told_runs}

-- rows C8, with the registers of the one that leads
module _ {tail : Option NodeName} {phase phase' : Waiter → Phase} {own own' : Waiter → NodeName}
    {node node' : NodeName → Node} {local : Waiter → Waiter → Bool} {threshold : ℕ}
    {stage stage' : Waiter → Stage} {kept : Waiter → Option NodeName}
    {main second : List Waiter} {passes : List ℕ} {w : Waiter} {y : NodeName} {x : Node}
    (ok : CnaAgrees tail phase own node local threshold stage kept main second passes)
    (step : HandsOver phase phase' own own' node node' stage stage' kept main w y x) where
  turn-lead : FrontAgrees phase own node local threshold main second passes w (stage w) (kept w)
  turn-lead =
      let P : Option NodeName → Type 0 =
      λ o. FrontAgrees phase own node local threshold main second passes w (stage w) o in
      let e : named_by (phase w) ((node (own w)).flag) (kept w) ≡ kept w =
      ap (λ r. named_by r ((node (own w)).flag) (kept w)) step.moves.was in
      subst P e (ok.lead w step.front)

  -- nobody is moved
  pub c8_plain : (kept' : Waiter → Option NodeName)
      → stage w ≡ Picked y
      → (v : Waiter) × (slice_get main 1 ≡ Some v)
      × CnaAgrees tail phase' own' node' local threshold stage' kept' (drop 1 main)
      (second ++ take 0 (drop 1 main)) (map (λ n. suc n) (passes ++ replicate 0 0))
  c8_plain kept' is =
      let v = turn-lead.next 0 y (ap chosen is) in
      let ps : picks (stage w) ≡ true = ap picks is in
      let named : kept w ≡ first_node own second = turn-lead.names (inl (ap tied is)) in
      let not_w : v.0 ≢ w = (λ e. cc (ap phase e, v.2, step.moves.was)) in
      let tip : SecondAgrees phase own node second None =
      let e : front_tip stage (slice_get main 0) ≡ None = rw step.front (ap tip_of is) in
      rw e at ok.second_ok in
      let in_main : is_in second v.0 ≡ false =
      (part_out second phase v.0 (ok.queue.members.inside 1 v.0 v.1)).1 in
      let joined : SecondAgrees phase' own' node' second None =
      second_keep tip (λ i u h.
      let q = tip.waits i u h in
      let ne : u ≢ w = (λ e. cc (ap phase e, q.0, step.moves.was)) in
      let no_y : own u ≢ y =
      (λ e. let s : u ≡ v.0 = step.apart u v.0 (rw q.0 refl) (rw v.2 refl) (e ∙ sym v.3) in
      not_in second v.0 in_main i (h ∙ ap (λ z. Some z) s)) in (
        step.moves.others u ne,
        step.owns u ne,
        rw (step.owns u ne) (step.writes.others (own u) no_y),
      )) in
      let knows : KnowsMoved own node threshold main second w (stage w) (kept w) 0 y (own w) x =
      record {
        cut = ap (cut_of (own w)) is;
        last = λ u h. let e : u ≡ w = grind (arith, h, step.front) in ap own e;
        runs = ap (λ (n : Node). n.runs) step.store ∙ turn-lead.run_next y (ap told_runs is);
        short = λ n e. turn-lead.run_picks n ps e;
        plain = λ z. (named, λ i u t h g n. turn-lead.tail_at i u t (ap hangs is) h g n);
        moved = λ lt. absurd (omega arith);
      } in (
        v.0,
        v.1,
        c8_all ok step (record { place = v.1; waits = v.2; owned = v.3 }) knows
            (rw (append-nil second) joined) (λ i u lt. absurd (omega (arith, lt))) kept',
      )

  -- k waiters are moved
  module _ {a b : NodeName} {k : ℕ} (is : stage w ≡ Counts a b k y) where
    move-v : (v : Waiter) × (slice_get main (suc k) ≡ Some v) × (phase v ≡ Waits) × (own v ≡ y)
    move-v = turn-lead.next k y (ap chosen is)

    move-to : IsHandedTo phase own main k move-v.0 y
    move-to = record { place = move-v.1; waits = move-v.2; owned = move-v.3 }

    move-skipped : passed_over (stage w) ≡ Some (a, b, k)
    move-skipped = ap passed_over is

    move-queue : QueueAgrees tail (part second phase) own (shown (Some (b, y)) node) main
    move-queue = let e : front_cut own stage (slice_get main 0) ≡ Some (b, y) =
        rw step.front (ap (cut_of (own w)) is) in rw e at ok.queue

    move-tip : SecondAgrees phase own node second (Some a)
    move-tip = let e : front_tip stage (slice_get main 0) ≡ Some a = rw step.front (ap tip_of is) in
        rw e at ok.second_ok

    move-b : (u : Waiter) → slice_get main k ≡ Some u → own u ≡ b
    move-b u h = turn-lead.close a b k u move-skipped h

    move-main : (i : ℕ) (u : Waiter) → slice_get main i ≡ Some u
        → (part second phase u ≡ phase u) × (is_in second u ≡ false) × (queues (phase u) ≡ true)
        × (has_node (phase u) ≡ true)
    move-main i u h =
        c8-main second move-queue step move-to move-b i u h

    move-same : (u : Waiter) → phase u ≡ Waits → u ≢ move-v.0
        → (u ≢ w) × (node' (own' u) ≡ node (own u))
    move-same u h nv =
        let ne : u ≢ w = (λ e. cc (ap phase e, h, step.moves.was)) in (
          ne,
          c8-same second move-queue step move-to move-b u (rw h refl) ne nv,
        )

    -- one of those that are moved
    move-part : (i : ℕ) (u : Waiter) → slice_get (take k (drop 1 main)) i ≡ Some u
        → (i < k) × (slice_get main (suc i) ≡ Some u) × (phase u ≡ Waits) × (u ≢ w) × (u ≢ move-v.0)
        × (own' u ≡ own u) × (node' (own' u) ≡ node (own u)) × (phase' u ≡ Waits)
    move-part i u h =
        let s = get-skip k main i u h in
        let f = turn-lead.far a b k i move-skipped s.0 in
        let same : f.0 ≡ u = grind (arith, f.1, s.1) in
        let r : phase u ≡ Waits = ap phase (sym same) ∙ f.2 in
        let nv : u ≢ move-v.0 =
        (λ e. let o =
        move-queue.members.once (suc i) (suc k) move-v.0 (s.1 ∙ ap (λ z. Some z) e) move-v.1 in
        let lt = s.0 in omega arith) in
        let q = move-same u r nv in
        (s.0, s.1, r, q.0, nv, step.owns u q.0, q.1, step.moves.others u q.0 ∙ r)

    move-k : (i : ℕ) × (k ≡ suc i)
    move-k = turn-lead.some a b k move-skipped

    move-first : (z : Waiter) × (slice_get main 1 ≡ Some z) × (own z ≡ a)
        × (slice_get (take k (drop 1 main)) 0 ≡ Some z)
    move-first =
        let e = move-k.1 in
        let p = get_below main 1 (suc k) move-v.0 move-v.1 (omega arith) in (
          p.0,
          p.1,
          turn-lead.near a b k p.0 move-skipped p.1,
          skip-in k main 0 p.0 (omega arith) p.1,
        )

    move-links : (i : ℕ) (u t : Waiter) → slice_get (take k (drop 1 main)) i ≡ Some u
        → slice_get (take k (drop 1 main)) (suc i) ≡ Some t → (node' (own' u)).next ≡ Some (own' t)
    move-links i u t h g =
        let p = move-part i u h in let q = move-part (suc i) t g in
        let m = move-main (suc i) u p.1 in let n = move-main (suc (suc i)) t q.1 in
        let l = move-queue.links.linked (suc i) u t p.1 q.1 (n.0 ∙ q.2) in
        let bw = get_below main k (suc k) move-v.0 move-v.1 (omega arith) in
        let nb : own u ≢ b = (λ e.
        let same : u ≡ bw.0 =
        step.apart u bw.0 m.3 (move-main k bw.0 bw.1).3 (e ∙ sym (move-b bw.0 bw.1)) in
        let o = move-queue.members.once (suc i) k bw.0 (p.1 ∙ ap (λ z. Some z) same) bw.1 in
        let lt = q.0 in omega arith) in
        ap (λ (x : Node). x.next) (p.6 ∙ sym (shown_else b y node (own u) nb)) ∙ l
        ∙ ap (λ z. Some z) (sym q.5)

    move-ends : (i : ℕ) (u : Waiter) → slice_get (take k (drop 1 main)) i ≡ Some u
        → slice_get (take k (drop 1 main)) (suc i) ≡ None → (node' (own' u)).next ≡ None
    move-ends i u h g =
        let p = move-part i u h in
        let e : suc i ≡ k = elim (get-take_none k (drop 1 main) (suc i) g) [
          | inl le ↦ let lt = p.0 in omega arith
          | inr past ↦ absurd (let nn : slice_get main (suc (suc i)) ≡ None =
              sym (get-drop_one main (suc i)) ∙ past in
              let lt = p.0 in
              let z = get_below main (suc (suc i)) (suc k) move-v.0 move-v.1 (omega arith) in
              cc (nn, z.1))
        ] in
        ap (λ (x : Node). x.next) p.6
        ∙ ap (λ n. (node n).next) (move-b u (ap (slice_get main) (sym e) ∙ p.1))
        ∙ turn-lead.cut b (ap parted is)

    move-joined : SecondAgrees phase' own' node' (second ++ take k (drop 1 main)) None
    move-joined =
        let f = move-first in
        let z = move-part 0 f.0 f.3 in
        let e : a ≡ own' f.0 = sym f.2 ∙ sym z.5 in
        let part_on : IsAppended phase phase' own own' node node' second
        (take k (drop 1 main)) f.0 =
        record {
          first = f.3;
          old = λ i u h. let q = move-tip.waits i u h in
              let nv : u ≢ move-v.0 = (λ e.
              not_in second move-v.0 (move-main (suc k) move-v.0 move-v.1).1 i
              (h ∙ ap (λ z. Some z) e)) in
              let s = move-same u q.0 nv in (step.moves.others u s.0, step.owns u s.0, s.1);
          waits = λ i u h. let p = move-part i u h in let q = move-queue.ends.behind i u p.1 in (
            p.7,
            ap (λ (x : Node). x.flag) p.6 ∙ sym (shown_flag (Some (b, y)) node (own u)) ∙ q.1,
          );
          once = λ i j u h g. let p = move-part i u h in let q = move-part j u g in
              let o = move-queue.members.once (suc i) (suc j) u p.1 q.1 in omega arith;
          links = move-links;
          ends = move-ends;
          apart = λ i j u h g. let q = move-part j u g in
              not_in second u (move-main (suc j) u q.1).1 i h;
        } in
        second_join
        (let P : NodeName → Type 0 = λ n. SecondAgrees phase own node second (Some n) in
        subst P e move-tip) part_on

    move-named : kept w ≡ first_node own (second ++ take k (drop 1 main))
    move-named =
        elim (last_cases second) [
          | inl e ↦
              let f = move-first in
              let n = turn-lead.names_moved a b k (ap tied is) move-skipped e in
              n ∙ ap (λ m. Some m) (sym f.2)
              ∙ sym (ap (λ ws. first_node own (ws ++ take k (drop 1 main))) e
              ∙ head (take k (drop 1 main)) f.0 f.3)
          | inr p ↦
              turn-lead.names (inr (λ e. cc (e, p.2)))
              ∙ front second (take k (drop 1 main)) (λ e. cc (e, p.2))
        ]
      where
        head : (ws : List Waiter) (u : Waiter) → slice_get ws 0 ≡ Some u
            → first_node own ws ≡ Some (own u)
        head [] u h = cc
        head (t ∷ ws) u h = let e : t ≡ u = grind arith in ap (λ m. Some (own m)) e

        front : (ws zs : List Waiter) → ws ≢ [] → first_node own ws ≡ first_node own (ws ++ zs)
        front [] zs ne = absurd (ne refl)
        front (w ∷ ws) zs ne = refl

    move-knows : KnowsMoved own node threshold main second w (stage w) (kept w) k y b x
    move-knows =
        record {
          cut = ap (cut_of (own w)) is;
          last = move-b;
          runs = ap (λ (n : Node). n.runs) step.store ∙ turn-lead.run_next y (ap told_runs is);
          short = λ n e. turn-lead.run_short a b k move-skipped;
          plain = λ e. absurd (let f = move-k.1 in omega arith);
          moved = λ lt. (
            move-named,
            λ n e. turn-lead.tail_hung b n (ap hangs is) e,
            λ e. turn-lead.run_none e (ap picks is),
          );
        }

    pub c8_move : (kept' : Waiter → Option NodeName)
        → CnaAgrees tail phase' own' node' local threshold stage' kept' (drop (suc k) main)
        (second ++ take k (drop 1 main)) (map (λ n. suc n) (passes ++ replicate k 0))
    c8_move kept' =
        c8_all ok step move-to move-knows move-joined
        (λ i u lt h. let f = turn-lead.far a b k i move-skipped lt in
        let same : f.0 ≡ u = grind (arith, f.1, h) in
        (w, ap (local w) (sym same) ∙ f.3)) kept'
