-- The queue, where a node is written and nobody comes or goes.
use Rattle.std.proofs.Common.{◌≡◌, ◌≢◌, ◌⊎◌, ℕ, suc, Option, Some, None, Bool, true, false, List}
use Rattle.std.proofs.Common.{inl, inr, arith, slice_get, refl, sym, ◌∙◌}
use Rattle.lk_osq.specs.Phase.{Phase, queues, leads, follows, link_before, link_behind}
use Rattle.lk_osq.specs.Phase.Phase.{Outside, Fresh, Links, Waits, Cuts, Bridges, Holds, Hands}
use Rattle.lk_osq.specs.declared.nodes.Node.{Node}
use Rattle.lk_osq.specs.Queue.{Pair, OsqQueueAgrees, Moves}
use Rattle.lk_osq.proofs.Cases.{cpu_cases}
use Rattle.lk_osq.proofs.Turn.{turn}
use Rattle.lk_names.proofs.ByIndex.{get_cases}

-- a pair whose phases and next stay
pub pair_same : {u v : ℕ} {p q p' q' : Phase} {n n' : Node} → Pair u v p q n
    → p' ≡ p → q' ≡ q → n'.next ≡ n.next → Pair u v p' q' n'
pair_same o e f g =
    record {
      next = grind (arith, o.next, e, f, g);
      before = grind (arith, o.before, e, f);
      behind = grind (arith, o.behind, e);
    }

-- whom a node names stands behind it, and the link is in nobody's hand
pub named : {tail : Option ℕ} {phase : ℕ → Phase} {node : ℕ → Node} {main : List ℕ}
    → OsqQueueAgrees tail phase node main
    → (a w : ℕ) → (node a).next ≡ Some w
    → (j : ℕ) × (slice_get main j ≡ Some a) × (slice_get main (suc j) ≡ Some w)
    × (link_behind (phase a) ≡ None) × (link_before (phase w) ≡ None)
named {phase = phase} {node = node} {main = main} ok a w e =
    go (ok.place a inside).0 (ok.place a inside).1
  where
    inside : queues (phase a) ≡ true
    inside = grind (arith, ok.outside a)

    next : (i v : ℕ) → slice_get main i ≡ Some a → slice_get main (suc i) ≡ Some v
        → (j : ℕ) × (slice_get main j ≡ Some a) × (slice_get main (suc j) ≡ Some w)
        × (link_behind (phase a) ≡ None) × (link_before (phase w) ≡ None)
    next i v h k =
        let p = (ok.pair i a v h k).next in
        let s : (v ≡ w) × (link_behind (phase a) ≡ None) × (link_before (phase v) ≡ None) =
        grind (arith, p) in
        (i, h, grind (arith, s), s.1, grind (arith, s))

    go : (i : ℕ) → slice_get main i ≡ Some a
        → (j : ℕ) × (slice_get main j ≡ Some a) × (slice_get main (suc j) ≡ Some w)
        × (link_behind (phase a) ≡ None) × (link_before (phase w) ≡ None)
    go i h = elim
        (get_cases main (suc i)) [
          | inl n ↦ absurd
              (grind (arith, ok.last i a h n))
          | inr v ↦ next i v.0 h v.1
        ]

-- O1: its node is fresh
module _ {tail : Option ℕ} {phase phase' : ℕ → Phase} {node node' : ℕ
    → Node} {main : List ℕ} {w : ℕ} {x : Node}
    (ok : OsqQueueAgrees tail phase node main) (moves : Moves phase phase' w Outside Fresh)
    (writes : Moves node node' w (node w) x)
    (flag : x.flag ≡ false) (next : x.next ≡ None) where
  enters-other : (i u : ℕ) → slice_get main i ≡ Some u → u ≢ w
  enters-other i u h e = grind (arith, ok.inside i u h, moves.was)

  pub queue_enters : OsqQueueAgrees tail phase' node' main
  queue_enters =
      turn ok moves refl
      (λ u h. grind (arith, ok.first u h, enters-other 0 u h, moves.others u, writes.others u))
      (λ i u h. grind
      (arith, ok.behind i u h, enters-other (suc i) u h, moves.others u, writes.others u))
      (λ i u v h k. let a = enters-other i u h in let b = enters-other (suc i) v k in
      pair_same (ok.pair i u v h k) (moves.others u a) (moves.others v b)
      (grind (arith, writes.others u a)))
      (λ i u h k. grind
      (arith, ok.last i u h k, enters-other i u h, moves.others u, writes.others u))
      (λ u h. grind
      (arith, ok.outside u, cpu_cases u w, moves.others u, writes.others u, writes.now))
      (λ u h. grind (arith, ok.fresh u, cpu_cases u w, moves.others u, writes.others u, writes.now))

-- O4, Q1 swapped: the link to it is given, or cut
module _ {tail : Option ℕ} {phase phase' : ℕ → Phase} {node node' : ℕ
    → Node} {main : List ℕ} {w a : ℕ} {r r' : Phase} {x : Node}
    (ok : OsqQueueAgrees tail phase node main) (moves : Moves phase phase' w r r')
    (writes : Moves node node' a (node a) x)
    (flag : x.flag ≡ (node a).flag) (j : ℕ) (at_a : slice_get main j ≡ Some a)
    (at_w : slice_get main (suc j) ≡ Some w) (none : link_behind (phase a) ≡ None)
    (way : (r ≡ Links a) × (r' ≡ Waits) × (x.next ≡ Some w) ⊎ (r ≡ Waits) × (r' ≡ Cuts a)
    × (x.next ≡ None)) where
  link-flag : (u : ℕ) → (node' u).flag ≡ (node u).flag
  link-flag u = grind (arith, cpu_cases u a, writes.others u, writes.now)

  link-behind : (u : ℕ) → link_behind (phase' u) ≡ link_behind (phase u)
  link-behind u = grind (arith, cpu_cases u w, moves.others u, moves.now, moves.was, way)

  link-queues : queues r' ≡ queues r
  link-queues = grind (arith, way)

  link-in : queues (phase a) ≡ true
  link-in = ok.inside j a at_a

  link-pair : (i u v : ℕ) → slice_get main i ≡ Some u → slice_get main (suc i) ≡ Some v
      → Pair u v (phase' u) (phase' v) (node' u)
  link-pair i u v h k =
      let p = ok.pair i u v h k in
      elim (cpu_cases v w) [
        | inl e ↦ let s : u ≡ a = grind (arith, ok.once (suc i) (suc j) w, at_w, k, h, at_a) in
            record {
              next = grind (arith, s, e, writes.now, moves.now, none, link-behind u, way);
              before = grind (arith, s, e, moves.now, none, link-behind u, way);
              behind = grind (arith, p.behind, link-behind u);
            }
        | inr ne ↦ let d : u ≢ a = (λ e. ne (grind (arith, ok.once i j a, e))) in
            record {
              next = grind (arith, p.next, writes.others u d, moves.others v ne, link-behind u);
              before = grind (arith, p.before, moves.others v ne, link-behind u);
              behind = grind (arith, p.behind, link-behind u);
            }
      ]

  pub queue_links : OsqQueueAgrees tail phase' node' main
  queue_links =
      turn ok moves link-queues
      (λ u h. let d : u ≢ w = (λ e. grind (arith, ok.once (suc j) 0 w, e)) in grind
      (arith, ok.first u h, moves.others u d, link-flag u))
      (λ i u h. grind
      (arith, ok.behind i u h, cpu_cases u w, moves.others u, moves.now, link-flag u, way))
      link-pair
      (λ i u h k. let d : u ≢ a = (λ e. grind (arith, ok.once i j a, e)) in grind
      (arith, ok.last i u h k, link-behind u, writes.others u d))
      (λ u h. let d : u ≢ a =
      (λ e. grind (arith, link-in, cpu_cases u w, moves.others u, moves.now, way, e)) in
      grind (arith, ok.outside u, cpu_cases u w, moves.others u, moves.now, way, writes.others u d))
      (λ u h. grind (arith, ok.fresh u, cpu_cases u w, moves.others u, moves.now, link-flag u, way))

-- Q7, X2, X7: it takes the link to the one behind it
module _ {tail : Option ℕ} {phase phase' : ℕ → Phase} {node node' : ℕ
    → Node} {main : List ℕ} {w b : ℕ} {r r' : Phase} {x : Node}
    (ok : OsqQueueAgrees tail phase node main) (moves : Moves phase phase' w r r')
    (writes : Moves node node' w (node w) x)
    (flag : x.flag ≡ (node w).flag) (next : x.next ≡ None)
    (j : ℕ) (at_w : slice_get main j ≡ Some w) (at_b : slice_get main (suc j) ≡ Some b)
    (free : link_before (phase b) ≡ None)
    (way : ((a : ℕ) × (r ≡ Cuts a) × (r' ≡ Bridges a b)) ⊎ (r ≡ Holds) × (r' ≡ Hands b)) where
  grab-flag : (u : ℕ) → (node' u).flag ≡ (node u).flag
  grab-flag u = grind (arith, cpu_cases u w, writes.others u, writes.now)

  grab-before : (u : ℕ) → link_before (phase' u) ≡ link_before (phase u)
  grab-before u = grind (arith, cpu_cases u w, moves.others u, moves.now, moves.was, way)

  grab-leads : (u : ℕ) (f : Bool) → leads (phase' u) f ≡ leads (phase u) f
  grab-leads u f = grind (arith, cpu_cases u w, moves.others u, moves.now, moves.was, way)

  grab-follows : (u : ℕ) → follows (phase' u) ≡ follows (phase u)
  grab-follows u = grind (arith, cpu_cases u w, moves.others u, moves.now, moves.was, way)

  grab-queues : queues r' ≡ queues r
  grab-queues = grind (arith, way)

  grab-behind : link_behind r' ≡ Some b
  grab-behind = grind (arith, way)

  grab-inside : queues r ≡ true
  grab-inside = grind (arith, way)

  grab-pair : (i u v : ℕ) → slice_get main i ≡ Some u → slice_get main (suc i) ≡ Some v
      → Pair u v (phase' u) (phase' v) (node' u)
  grab-pair i u v h k =
      let p = ok.pair i u v h k in
      elim (cpu_cases u w) [
        | inl e ↦ let s : v ≡ b = grind (arith, ok.once i j w, at_w, at_b, k, h, e) in
            record {
              next = grind (arith, s, e, writes.now, moves.now, grab-behind, grab-before v, free);
              before = inl (grind (arith, s, grab-before v, free));
              behind = inr (grind (arith, s, e, moves.now, grab-behind));
            }
        | inr ne ↦
            record {
              next = grind (arith, p.next, writes.others u ne, moves.others u ne, grab-before v);
              before = grind (arith, p.before, moves.others u ne, grab-before v);
              behind = grind (arith, p.behind, moves.others u ne);
            }
      ]

  pub queue_grabs : OsqQueueAgrees tail phase' node' main
  queue_grabs =
      turn ok moves grab-queues
      (λ u h. rw (grab-flag u, grab-leads u) (ok.first u h))
      (λ i u h. grind (arith, ok.behind i u h, grab-follows u, grab-flag u))
      grab-pair
      (λ i u h k. let d : u ≢ w = (λ e. grind (arith, ok.once i j w, e)) in grind
      (arith, ok.last i u h k, moves.others u d, writes.others u d))
      (λ u h. let d : u ≢ w = (λ e. grind (arith, grab-queues, grab-inside, moves.now, e)) in
      grind (arith, ok.outside u, moves.others u d, writes.others u d))
      (λ u h. let d : u ≢ w = (λ e. grind (arith, grab-behind, moves.now, e)) in
      grind (arith, ok.fresh u, moves.others u d, grab-flag u))

-- O3, Q8: a node is told whom it stands behind, which nothing here reads
module _ {tail : Option ℕ} {phase phase' : ℕ → Phase} {node node' : ℕ
    → Node} {main : List ℕ} {w a : ℕ} {r : Phase} {x : Node}
    (ok : OsqQueueAgrees tail phase node main) (moves : Moves phase phase' w r r)
    (writes : Moves node node' a (node a) x)
    (flag : x.flag ≡ (node a).flag) (next : x.next ≡ (node a).next) where
  pub tell-phase : (u : ℕ) → phase' u ≡ phase u
  tell-phase u = elim (cpu_cases u w) [
    | inl e ↦ rw e (moves.now ∙ sym moves.was)
    | inr ne ↦ moves.others u ne
  ]

  tell-flag : (u : ℕ) → (node' u).flag ≡ (node u).flag
  tell-flag u = grind (arith, cpu_cases u a, writes.others u, writes.now)

  tell-next : (u : ℕ) → (node' u).next ≡ (node u).next
  tell-next u = grind (arith, cpu_cases u a, writes.others u, writes.now)

  pub queue_tells : OsqQueueAgrees tail phase' node' main
  queue_tells =
      turn ok moves refl
      (λ u h. rw (tell-phase u, tell-flag u) (ok.first u h))
      (λ i u h. rw (tell-phase u, tell-flag u) (ok.behind i u h))
      (λ i u v h k. pair_same (ok.pair i u v h k) (tell-phase u) (tell-phase v) (tell-next u))
      (λ i u h k. rw (tell-phase u, tell-next u) (ok.last i u h k))
      (λ u h. tell-next u ∙ ok.outside u (grind (arith, tell-phase u, h)))
      (λ u h. tell-flag u ∙ ok.fresh u (grind (arith, tell-phase u, h)))
