-- The queue, where a processor takes the tail: behind another, or first.
use Rattle.std.proofs.Common.{◌≡◌, ◌≢◌, ℕ, zero, suc, Option, Some, None, true, List, [], ◌∷◌, ◌++◌}
use Rattle.std.proofs.Common.{length, inl, inr, arith, slice_get, refl}
use Rattle.lk_osq.specs.Phase.{Phase, queues, leads}
use Rattle.lk_osq.specs.Phase.Phase.{Fresh, Links, Holds}
use Rattle.lk_osq.specs.declared.nodes.Node.{Node}
use Rattle.lk_osq.specs.Queue.{Pair, OsqQueueAgrees, Moves}
use Rattle.lk_osq.proofs.Cases.{cpu_cases}
use Rattle.lk_osq.proofs.Links.{pair_same}
use Rattle.lk_names.proofs.ByIndex.{get-append, get-append_old, get-append_new, get-append_none}
use Rattle.lk_names.proofs.ByIndex.{get-append_last, get-append_two, get_cases, last_cases}

-- O2 behind another
module _ {tail : Option ℕ} {phase phase' : ℕ → Phase} {node : ℕ → Node} {main : List ℕ} {w a : ℕ}
    (ok : OsqQueueAgrees tail phase node main) (moves : Moves phase phase' w Fresh (Links a))
    (met : tail ≡ Some a) where
  behind-not_in : (i : ℕ) → slice_get main i ≡ Some w → ⊥
  behind-not_in i h = grind (arith, ok.inside i w, moves.was)

  behind-place : (u : ℕ) → queues (phase' u) ≡ true
      → (i : ℕ) × (slice_get (main ++ w ∷ []) i ≡ Some u)
  behind-place u h =
      elim (cpu_cases u w) [
        | inl e ↦ (length main, grind (arith, get-append_new main w, e))
        | inr ne ↦ let s : queues (phase u) ≡ true = grind (arith, moves.others u) in
            ((ok.place u s).0, get-append_old main w (ok.place u s).0 u (ok.place u s).1)
      ]

  behind-first : (u : ℕ) → slice_get (main ++ w ∷ []) 0 ≡ Some u
      → leads (phase' u) ((node u).flag) ≡ true
  behind-first u h =
      elim (get_cases main 0) [
        | inl e ↦ absurd (grind (arith, ok.no_tail e, met))
        | inr q ↦ let s : slice_get main 0 ≡ Some u =
            grind (arith, get-append_old main w 0 q.0 q.1, h) in
            grind (arith, ok.first u s, moves.others u, behind-not_in 0, s)
      ]

  behind-pair : (i u v : ℕ) → slice_get (main ++ w ∷ []) i ≡ Some u
      → slice_get (main ++ w ∷ []) (suc i) ≡ Some v
      → Pair u v (phase' u) (phase' v) (node u)
  behind-pair i u v h k =
      elim (get-append_two main w i u v h k) [
        | inl p ↦
            let du : u ≢ w = (λ e. behind-not_in i (grind (arith, p.0, e))) in
            let dv : v ≢ w = (λ e. behind-not_in (suc i) (grind (arith, p.1, e))) in
            pair_same (ok.pair i u v p.0 p.1) (moves.others u du) (moves.others v dv) refl
        | inr p ↦
            let du : u ≢ w = (λ e. behind-not_in i (grind (arith, p.0, e))) in
            let l = ok.last i u p.0 p.1 in
            let s : a ≡ u = grind (arith, ok.tail_is i u p.0 p.1, met) in
            record {
              next = grind (arith, l, p.2, moves.now, moves.others u du);
              before = inr (grind (arith, p.2, moves.now, s), grind (arith, l, moves.others u du));
              behind = inl (grind (arith, l, moves.others u du));
            }
      ]

  pub queue_arrives_behind : OsqQueueAgrees (Some w) phase' node (main ++ w ∷ [])
  queue_arrives_behind =
      record {
        inside = λ i u h. grind (
          arith,
          get-append main w i u h,
          ok.inside i u,
          moves.others u,
          moves.now,
          behind-not_in i,
        );
        place = behind-place;
        once = λ i j u h k. grind (
          arith,
          get-append main w i u h,
          get-append main w j u k,
          ok.once i j u,
          behind-not_in i,
          behind-not_in j,
        );
        no_tail = λ h. grind (arith, get-append_none main w 0 h, ok.no_tail);
        tail_is = λ i u h k. grind (arith, get-append_last main w i u h k);
        first = behind-first;
        behind = λ i u h. grind (
          arith,
          get-append main w
              (suc i) u h,
          ok.behind i u,
          ok.fresh w moves.was,
          moves.others u,
          moves.now,
          behind-not_in (suc i),
        );
        pair = behind-pair;
        last = λ i u h k. let l = get-append_last main w i u h k in
            (grind (arith, l, ok.outside w, moves.was), grind (arith, l, moves.now));
        outside = λ u h. grind (arith, ok.outside u, cpu_cases u w, moves.others u, moves.now);
        fresh = λ u h. grind (arith, ok.fresh u, cpu_cases u w, moves.others u, moves.now);
      }

-- O2 where nobody is there
module _ {tail : Option ℕ} {phase phase' : ℕ → Phase} {node : ℕ → Node} {main : List ℕ} {w : ℕ}
    (ok : OsqQueueAgrees tail phase node main) (moves : Moves phase phase' w Fresh Holds)
    (met : tail ≡ None) where
  pub first-empty : main ≡ []
  first-empty =
      elim (last_cases main) [
        | inl e ↦ e
        | inr s ↦ absurd
            (grind (arith, ok.tail_is s.0 s.1 s.2 s.3))
      ]

  first-outside : (u : ℕ) → queues (phase u) ≡ true → ⊥
  first-outside u h = let at = ok.place u h in grind (arith, first-empty, at)

  first-only : (u : ℕ) → queues (phase' u) ≡ true → u ≡ w
  first-only u h =
      elim (cpu_cases u w) [
        | inl e ↦ e
        | inr ne ↦ absurd
            (first-outside u (grind (arith, moves.others u ne)))
      ]

  first-get : (i u : ℕ) → slice_get (w ∷ []) i ≡ Some u → (i ≡ 0) × (u ≡ w)
  first-get zero u h = (refl, grind arith)
  first-get (suc i) u h = cc

  pub queue_arrives_first : OsqQueueAgrees (Some w) phase' node (w ∷ [])
  queue_arrives_first =
      record {
        inside = λ i u h. grind (arith, first-get i u h, moves.now);
        place = λ u h. (0, grind (arith, first-only u h));
        once = λ i j u h k. grind (arith, first-get i u h, first-get j u k);
        no_tail = λ h. grind arith;
        tail_is = λ i u h k. grind (arith, first-get i u h);
        first = λ u h. grind (arith, first-get 0 u h, moves.now);
        behind = λ i u h. absurd (grind (arith, first-get (suc i) u h));
        pair = λ i u v h k. absurd (grind (arith, first-get (suc i) v k));
        last = λ i u h k. (
          grind (arith, first-get i u h, ok.outside w, moves.was),
          grind
              (arith, first-get i u h, moves.now),
        );
        outside = λ u h. grind (arith, ok.outside u, cpu_cases u w, moves.others u, moves.now);
        fresh = λ u h. grind (arith, ok.fresh u, cpu_cases u w, moves.others u, moves.now);
      }
