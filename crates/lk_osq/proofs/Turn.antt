-- The queue, where one processor goes on within it, or outside it.
use Rattle.std.proofs.Common.{◌≡◌, ◌≢◌, ◌⊎◌, ℕ, zero, suc, Option, Some, None, true, false, List}
use Rattle.std.proofs.Common.{inl, inr, arith, slice_get, refl}
use Rattle.lk_osq.specs.Phase.{Phase, queues, leads, follows, link_behind}
use Rattle.lk_osq.specs.Phase.Phase.{Fresh, Waits, Holds}
use Rattle.lk_osq.specs.declared.nodes.Node.{Node}
use Rattle.lk_osq.specs.Queue.{Pair, OsqQueueAgrees, Moves}
use Rattle.lk_osq.proofs.Cases.{cpu_cases}
use Rattle.lk_names.proofs.ByIndex.{get_cases, get-none_up}

-- who stands in the queue and does not lead it stands behind another
pub stands_behind : {tail : Option ℕ} {phase : ℕ → Phase} {node : ℕ → Node} {main : List ℕ}
    → OsqQueueAgrees tail phase node main
    → (w : ℕ) → queues (phase w) ≡ true → leads (phase w) ((node w).flag) ≡ false
    → (j : ℕ) × (a : ℕ) × (slice_get main j ≡ Some a) × (slice_get main (suc j) ≡ Some w)
stands_behind {phase = phase} {node = node} {main = main} ok w q l = let at =
    ok.place w q in go at.0 at.1
  where
    go : (i : ℕ) → slice_get main i ≡ Some w
        → (j : ℕ) × (a : ℕ) × (slice_get main j ≡ Some a) × (slice_get main (suc j) ≡ Some w)
    go zero h = absurd (grind (arith, ok.first w h))
    go (suc j) h =
        elim (get_cases main j) [
          | inl n ↦ absurd (grind (arith, get-none_up main j n))
          | inr a ↦
              (j, a.0, a.1, h)
        ]

-- who leads is the first
pub leads_first : {tail : Option ℕ} {phase : ℕ → Phase} {node : ℕ → Node} {main : List ℕ}
    → OsqQueueAgrees tail phase node main
    → (w : ℕ) → queues (phase w) ≡ true → (follows (phase w) ≡ false) ⊎ ((node w).flag ≡ true)
    → slice_get main 0 ≡ Some w
leads_first {phase = phase} {main = main} ok w q l = let at = ok.place w q in go at.0 at.1
  where
    go : (i : ℕ) → slice_get main i ≡ Some w → slice_get main 0 ≡ Some w
    go zero h = h
    go (suc i) h = let b = ok.behind i w h in absurd (grind (arith, b, l))

-- one moves, and the queue stays
module _ {tail : Option ℕ} {phase phase' : ℕ → Phase} {node node' : ℕ
    → Node} {main : List ℕ} {w : ℕ} {r r' : Phase}
    (ok : OsqQueueAgrees tail phase node main) (moves : Moves phase phase' w r r')
    (stays : queues r' ≡ queues r) where
  pub turn : ((u : ℕ) → slice_get main 0 ≡ Some u → leads (phase' u) ((node' u).flag) ≡ true)
      → ((i u : ℕ) → slice_get main (suc i) ≡ Some u
      → (follows (phase' u) ≡ true) × ((node' u).flag ≡ false))
      → ((i u v : ℕ) → slice_get main i ≡ Some u → slice_get main (suc i) ≡ Some v
      → Pair u v (phase' u) (phase' v) (node' u))
      → ((i u : ℕ) → slice_get main i ≡ Some u → slice_get main (suc i) ≡ None
      → ((node' u).next ≡ None) × (link_behind (phase' u) ≡ None))
      → ((u : ℕ) → queues (phase' u) ≡ false → (node' u).next ≡ None)
      → ((u : ℕ) → phase' u ≡ Fresh → (node' u).flag ≡ false)
      → OsqQueueAgrees tail phase' node' main
  turn f b p l o x =
      record {
        inside = λ i u h. grind
            (arith, ok.inside i u h, cpu_cases u w, moves.others u, moves.now, moves.was);
        place = λ u h. ok.place u
            (grind (arith, cpu_cases u w, moves.others u, moves.was, moves.now));
        once = ok.once;
        no_tail = ok.no_tail;
        tail_is = ok.tail_is;
        first = f;
        behind = b;
        pair = p;
        last = l;
        outside = o;
        fresh = x;
      }

-- its own flag is set, and it takes the lock
module _ {tail : Option ℕ} {phase phase' : ℕ → Phase} {node : ℕ → Node} {main : List ℕ} {w : ℕ}
    (ok : OsqQueueAgrees tail phase node main) (moves : Moves phase phase' w Waits Holds)
    (flag : (node w).flag ≡ true) where
  takes-at : slice_get main 0 ≡ Some w
  takes-at = leads_first ok w (grind (arith, moves.was)) (inr flag)

  takes-other : (i u : ℕ) → slice_get main (suc i) ≡ Some u → u ≢ w
  takes-other i u h e = grind (arith, ok.once (suc i) 0 w, takes-at)

  takes-pair : (i u v : ℕ) → slice_get main i ≡ Some u → slice_get main (suc i) ≡ Some v
      → Pair u v (phase' u) (phase' v) (node u)
  takes-pair i u v h k =
      let p = ok.pair i u v h k in let e = moves.others v (takes-other i v k) in
      record {
        next = grind (arith, p.next, e, cpu_cases u w, moves.others u, moves.now, moves.was);
        before = grind (arith, p.before, e, cpu_cases u w, moves.others u, moves.now, moves.was);
        behind = grind (arith, p.behind, e, cpu_cases u w, moves.others u, moves.now, moves.was);
      }

  pub queue_takes : OsqQueueAgrees tail phase' node main
  queue_takes =
      turn ok moves refl
      (λ u h. grind (arith, takes-at, moves.now))
      (λ i u h. grind (arith, ok.behind i u h, moves.others u (takes-other i u h)))
      takes-pair
      (λ i u h k. grind (arith, ok.last i u h k, cpu_cases u w, moves.others u, moves.now))
      (λ u h. grind (arith, ok.outside u, cpu_cases u w, moves.others u, moves.now))
      (λ u h. grind (arith, ok.fresh u, cpu_cases u w, moves.others u, moves.now))
