-- The queue, where one that gives up leaves it between two others.
use Rattle.std.proofs.Common.{◌≡◌, ◌≢◌, ◌⊎◌, ◌<◌, ℕ, suc, Option, Some, None, List, inl, inr, arith}
use Rattle.std.proofs.Common.{slice_get, sym, ◌∙◌}
use Rattle.lk_osq.specs.Phase.{Phase, link_before, link_behind}
use Rattle.lk_osq.specs.Phase.Phase.{Outside, Bridges}
use Rattle.lk_osq.specs.declared.nodes.Node.{Node}
use Rattle.lk_osq.specs.Queue.{Pair, OsqQueueAgrees, Moves}
use Rattle.lk_osq.proofs.Cases.{cpu_cases}
use Rattle.lk_osq.proofs.Links.{pair_same}
use Rattle.lk_osq.proofs.Leave.{Drops, dropped, leave-other, leave-inside, leave-place, leave-once}
use Rattle.lk_names.proofs.ByIndex.{get_cases, get-some_down}

-- Q9: it links the one before it to the one behind it, and leaves
module _ {tail : Option ℕ} {phase phase' : ℕ → Phase} {node node' : ℕ
    → Node} {main main' : List ℕ} {w a b : ℕ} {x : Node}
    (ok : OsqQueueAgrees tail phase node main) (moves : Moves phase phase' w (Bridges a b) Outside)
    (writes : Moves node node' a (node a) x)
    (flag : x.flag ≡ (node a).flag) (next : x.next ≡ Some b)
    (j : ℕ) (at_a : slice_get main j ≡ Some a) (at_w : slice_get main (suc j) ≡ Some w)
    (drops : Drops main main' (suc j)) where
  -- b stands behind it
  pub unlink-at_b : slice_get main (suc (suc j)) ≡ Some b
  unlink-at_b =
      elim (get_cases main (suc (suc j))) [
        | inl n ↦ absurd (grind (arith, ok.last (suc j) w at_w n, moves.was))
        | inr v ↦ let p = ok.pair (suc j) w v.0 at_w v.1 in grind (arith, p.behind, moves.was, v.1)
      ]

  unlink-first_pair : Pair a w (phase a) (phase w) (node a)
  unlink-first_pair = ok.pair j a w at_a at_w

  unlink-second_pair : Pair w b (phase w) (phase b) (node w)
  unlink-second_pair = ok.pair (suc j) w b at_w unlink-at_b

  unlink-apart : a ≢ w
  unlink-apart e = grind (arith, ok.once j (suc j) w, at_a, at_w, e)

  unlink-apart_b : b ≢ w
  unlink-apart_b e = grind (arith, ok.once (suc (suc j)) (suc j) w, unlink-at_b, at_w, e)

  unlink-flag : (u : ℕ) → (node' u).flag ≡ (node u).flag
  unlink-flag u = grind (arith, cpu_cases u a, writes.others u, writes.now)

  unlink-other : (i u : ℕ) → slice_get main' i ≡ Some u → u ≢ w
  unlink-other = leave-other ok moves at_w drops

  -- one that stands elsewhere than a has the next that it had
  unlink-next : (i u : ℕ) → slice_get main i ≡ Some u → i ≢ j → (node' u).next ≡ (node u).next
  unlink-next i u h n =
      let d : u ≢ a = (λ e. n (grind (arith, ok.once i j a, h, at_a, e))) in grind
      (arith, writes.others u d)

  -- the new neighbours
  unlink-new : Pair a b (phase' a) (phase' b) (node' a)
  unlink-new =
      let p = unlink-first_pair in let q = unlink-second_pair in
      let none : link_behind (phase a) ≡ None = grind (arith, p.before, moves.was) in
      let free : link_before (phase b) ≡ None = grind (arith, q.before, moves.was) in
      let pa = moves.others a unlink-apart in let pb = moves.others b unlink-apart_b in
      record {
        next = grind (arith, writes.now, next, pa, pb, none, free);
        before = inl (grind (arith, pb, free));
        behind = inl (grind (arith, pa, none));
      }

  unlink-pair : (i u v : ℕ) → slice_get main' i ≡ Some u → slice_get main' (suc i) ≡ Some v
      → Pair u v (phase' u) (phase' v) (node' u)
  unlink-pair i u v h l = elim (three i j) [
    | inl c ↦
        let hu : slice_get main i ≡ Some u = grind (arith, drops.low i (omega (arith, c))) in
        let hv : slice_get main (suc i) ≡ Some v =
        grind (arith, drops.low (suc i) (omega (arith, c))) in
        pair_same (ok.pair i u v hu hv) (moves.others u (unlink-other i u h))
        (moves.others v (unlink-other (suc i) v l))
        (unlink-next i u hu (λ e. omega (arith, c, e)))
    | inr d ↦ elim d [
      | inl e ↦
          let hu : u ≡ a = grind (arith, drops.low i (omega (arith, e)), e, at_a, h) in
          let hv : v ≡ b =
          grind (arith, drops.high (suc i) (omega (arith, e)), e, unlink-at_b, l) in
          rw (hu, hv) unlink-new
      | inr g ↦
          let hu : slice_get main (suc i) ≡ Some u =
          grind (arith, drops.high i (omega (arith, g))) in
          let hv : slice_get main (suc (suc i)) ≡ Some v =
          grind (arith, drops.high (suc i) (omega (arith, g))) in
          pair_same (ok.pair (suc i) u v hu hv) (moves.others u (unlink-other i u h))
          (moves.others v (unlink-other (suc i) v l))
          (unlink-next (suc i) u hu (λ e. omega (arith, g, e)))
    ]
  ]
    where
      three : (i j : ℕ) → (i < j) ⊎ (i ≡ j) ⊎ (j < i)
      three i j = grind arith

  -- the last place stays the last one's, and is not a's
  unlink-last : (i u : ℕ) → slice_get main' i ≡ Some u → slice_get main' (suc i) ≡ None
      → (slice_get main (suc i) ≡ Some u) × (slice_get main (suc (suc i)) ≡ None) × (j < i)
  unlink-last i u h l = elim (three i j) [
    | inl c ↦ absurd
        (get-some_down main (suc i) (suc j) w (omega (arith, c)) at_w
        (grind (arith, drops.low (suc i) (omega (arith, c)))))
    | inr d ↦ elim d [
      | inl e ↦ absurd (grind (arith, drops.high (suc i) (omega (arith, e)), e, unlink-at_b, l))
      | inr g ↦ (
        grind (arith, drops.high i (omega (arith, g))),
        grind
            (arith, drops.high (suc i) (omega (arith, g))),
        g,
      )
    ]
  ]
    where
      three : (i j : ℕ) → (i < j) ⊎ (i ≡ j) ⊎ (j < i)
      three i j = grind arith

  pub queue_unlinks : OsqQueueAgrees tail phase' node' main'
  queue_unlinks =
      record {
        inside = leave-inside ok moves at_w drops;
        place = leave-place ok moves at_w drops;
        once = leave-once ok moves at_w drops;
        no_tail =
            λ h. absurd
            (get-some_down main 0 j a (omega arith) at_a (sym (drops.low 0 (omega arith)) ∙ h));
        tail_is = λ i u h l. let s = unlink-last i u h l in ok.tail_is (suc i) u s.0 s.1;
        first = λ u h. let s : slice_get main 0 ≡ Some u =
            grind (arith, drops.low 0 (omega arith)) in
            grind (arith, ok.first u s, moves.others u (unlink-other 0 u h), unlink-flag u);
        behind = λ i u h. elim (dropped drops (suc i) u h) [
          | inl c ↦ grind
              (arith, ok.behind i u c.1, moves.others u (unlink-other (suc i) u h), unlink-flag u)
          | inr c ↦ grind (
            arith,
            ok.behind (suc i) u c.1,
            moves.others u
                (unlink-other (suc i) u h),
            unlink-flag u,
          )
        ];
        pair = unlink-pair;
        last = λ i u h l. let s = unlink-last i u h l in
            grind (
              arith,
              ok.last (suc i) u s.0 s.1,
              moves.others u
                  (unlink-other i u h),
              unlink-next (suc i) u s.0 (λ e. omega (arith, s.2, e)),
            );
        outside = λ u h.
            let d : u ≢ a =
            (λ e. grind (arith, ok.inside j a at_a, moves.others a unlink-apart, e)) in
            grind (
              arith,
              ok.outside u,
              cpu_cases u w,
              moves.others u,
              moves.was,
              unlink-second_pair.next,
              writes.others u d,
            );
        fresh = λ u h. grind
            (arith, ok.fresh u, cpu_cases u w, moves.others u, moves.now, unlink-flag u);
      }
