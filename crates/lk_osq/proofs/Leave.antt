-- The queue, where a processor leaves it: the first, one in the middle, or the last.
use Rattle.std.proofs.Common.{◌≡◌, ◌≢◌, ◌⊎◌, ◌<◌, ◌≤◌, ℕ, zero, suc, Option, Some, None, true, List}
use Rattle.std.proofs.Common.{[], ◌∷◌, inl, inr, arith, slice_get, refl, sym, ◌∙◌}
use Rattle.lk_osq.specs.Phase.{Phase, queues, follows, link_before}
use Rattle.lk_osq.specs.Phase.Phase.{Outside, Waits, Cuts, Holds, Hands}
use Rattle.lk_osq.specs.declared.nodes.Node.{Node}
use Rattle.lk_osq.specs.Queue.{Pair, OsqQueueAgrees, Moves}
use Rattle.lk_osq.proofs.Cases.{cpu_cases}
use Rattle.lk_osq.proofs.Links.{pair_same}
use Rattle.lk_osq.proofs.Turn.{leads_first}
use Rattle.lk_names.proofs.ByIndex.{get_cases, last_cases, get-none_up, get-some_down}

-- who is the tail stands last
pub tail_last : {tail : Option ℕ} {phase : ℕ → Phase} {node : ℕ → Node} {main : List ℕ}
    → OsqQueueAgrees tail phase node main
    → (k w : ℕ) → slice_get main k ≡ Some w → tail ≡ Some w → slice_get main (suc k) ≡ None
tail_last {main = main} ok k w h t =
    elim (last_cases main) [
      | inl e ↦ absurd (grind (arith, e, h))
      | inr s ↦ let u : s.1 ≡ w = grind (arith, ok.tail_is s.0 s.1 s.2 s.3, t) in
          let i : s.0 ≡ k = ok.once s.0 k w (grind (arith, s.2, u)) h in grind (arith, s.3, i)
    ]

-- the list without its place k
pub record Drops (main main' : List ℕ) (k : ℕ) : Type 0 where
  pub low : (i : ℕ) → i < k → slice_get main' i ≡ slice_get main i
  pub high : (i : ℕ) → k ≤ i → slice_get main' i ≡ slice_get main (suc i)

-- where an element of the shorter list stands in the longer one
pub dropped : {main main' : List ℕ} {k : ℕ} → Drops main main' k → (i u : ℕ)
    → slice_get main' i ≡ Some u
    → ((i < k) × (slice_get main i ≡ Some u)) ⊎ (k ≤ i) × (slice_get main (suc i) ≡ Some u)
dropped {k = k} drops i u h = grind (arith, lt_cases i k, drops.low i, drops.high i)
  where
    lt_cases : (i k : ℕ) → (i < k) ⊎ (k ≤ i)
    lt_cases i k = grind arith

-- what holds in each case
module _ {tail : Option ℕ} {phase phase' : ℕ → Phase} {node : ℕ
    → Node} {main main' : List ℕ} {w : ℕ} {r : Phase} {k : ℕ}
    (ok : OsqQueueAgrees tail phase node main) (moves : Moves phase phase' w r Outside)
    (at_w : slice_get main k ≡ Some w) (drops : Drops main main' k) where
  pub leave-other : (i u : ℕ) → slice_get main' i ≡ Some u → u ≢ w
  leave-other i u h e =
      grind (arith, dropped drops i u h, ok.once i k w, ok.once (suc i) k w, at_w, e)

  pub leave-inside : (i u : ℕ) → slice_get main' i ≡ Some u → queues (phase' u) ≡ true
  leave-inside i u h =
      grind (
        arith,
        dropped drops i u h,
        ok.inside i u,
        ok.inside (suc i) u,
        moves.others u
            (leave-other i u h),
      )

  leave-where : (i u : ℕ) → u ≢ w → slice_get main i ≡ Some u
      → (i < k) ⊎ (j : ℕ) × (i ≡ suc j) × (k ≤ j)
  leave-where i u ne h = pick i (at_most i k) (λ e. ne (grind (arith, at_w, h, e)))
    where
      at_most : (i k : ℕ) → (i < k) ⊎ (i ≡ k) ⊎ (k < i)
      at_most i k = grind arith

      pick : (i : ℕ) → (i < k) ⊎ (i ≡ k) ⊎ (k < i) → (i ≢ k)
          → (i < k) ⊎ (j : ℕ) × (i ≡ suc j) × (k ≤ j)
      pick zero c n =
          elim c [
            | inl l ↦ inl l
            | inr m ↦ elim m [
              | inl e ↦ absurd (n e)
              | inr g ↦ absurd
                  (omega arith)
            ]
          ]
      pick (suc i) c n =
          elim c [
            | inl l ↦ inl l
            | inr m ↦ elim m [
              | inl e ↦ absurd (n e)
              | inr g ↦ inr
                  (i, refl, omega arith)
            ]
          ]

  pub leave-place : (u : ℕ) → queues (phase' u) ≡ true → (i : ℕ) × (slice_get main' i ≡ Some u)
  leave-place u h =
      let ne : u ≢ w = (λ e. grind (arith, moves.now, e)) in
      let at = ok.place u (grind (arith, moves.others u ne)) in
      elim (leave-where at.0 u ne at.1) [
        | inl l ↦ (at.0, drops.low at.0 l ∙ at.1)
        | inr m ↦ (m.0, drops.high m.0 m.2 ∙ grind (arith, at.1, m.1))
      ]

  pub leave-once : (i j u : ℕ) → slice_get main' i ≡ Some u → slice_get main' j ≡ Some u → i ≡ j
  leave-once i j u h l =
      grind (
        arith,
        dropped drops i u h,
        dropped drops j u l,
        ok.once i j u,
        ok.once
            (suc i) j u,
        ok.once i (suc j) u,
        ok.once (suc i) (suc j) u,
      )

-- X1, X5 swapped: the only one releases
module _ {tail : Option ℕ} {phase phase' : ℕ → Phase} {node : ℕ
    → Node} {main main' : List ℕ} {w : ℕ}
    (ok : OsqQueueAgrees tail phase node main) (moves : Moves phase phase' w Holds Outside)
    (tail_is : tail ≡ Some w) (drops : Drops main main' 0) where
  frees-at : slice_get main 0 ≡ Some w
  frees-at = leads_first ok w (grind (arith, moves.was)) (inl (grind (arith, moves.was)))

  frees-end : slice_get main 1 ≡ None
  frees-end = tail_last ok 0 w frees-at tail_is

  frees-first : slice_get main' 0 ≡ None
  frees-first = drops.high 0 (omega arith) ∙ frees-end

  frees-none : (i u : ℕ) → slice_get main' i ≡ Some u → ⊥
  frees-none zero u h = grind (arith, frees-first, h)
  frees-none (suc i) u h =
      frees-none i
      (elim (get_cases main' i) [
        | inl n ↦ absurd
            (grind (arith, get-none_up main' i n, h))
        | inr v ↦ v.0
      ])
      (elim (get_cases main' i) as
      (λ c. slice_get main' i ≡ Some
      (elim c [ inl n ↦ absurd (grind (arith, get-none_up main' i n, h)) | inr v ↦ v.0 ]))
      [ inl n ↦ absurd (grind (arith, get-none_up main' i n, h)) | inr v ↦ v.1 ])

  pub queue_frees : OsqQueueAgrees None phase' node main'
  queue_frees =
      record {
        inside = λ i u h. absurd (frees-none i u h);
        place = leave-place ok moves frees-at drops;
        once = λ i j u h l. absurd (frees-none i u h);
        no_tail = λ h. refl;
        tail_is = λ i u h l. absurd (frees-none i u h);
        first = λ u h. absurd (frees-none 0 u h);
        behind = λ i u h. absurd (frees-none (suc i) u h);
        pair = λ i u v h l. absurd (frees-none i u h);
        last = λ i u h l. absurd (frees-none i u h);
        outside =
            λ u h. grind
            (arith, ok.outside u, cpu_cases u w, moves.others u, ok.last 0 w frees-at frees-end);
        fresh = λ u h. grind (arith, ok.fresh u, cpu_cases u w, moves.others u, moves.now);
      }

-- X3: the first hands the lock to the one behind it
module _ {tail : Option ℕ} {phase phase' : ℕ → Phase} {node node' : ℕ
    → Node} {main main' : List ℕ} {w b : ℕ} {x : Node}
    (ok : OsqQueueAgrees tail phase node main) (moves : Moves phase phase' w (Hands b) Outside)
    (writes : Moves node node' b (node b) x)
    (flag : x.flag ≡ true) (next : x.next ≡ (node b).next) (drops : Drops main main' 0) where
  hands-at : slice_get main 0 ≡ Some w
  hands-at = leads_first ok w (grind (arith, moves.was)) (inl (grind (arith, moves.was)))

  hands-up : (i : ℕ) → slice_get main' i ≡ slice_get main (suc i)
  hands-up i = drops.high i (omega arith)

  -- the second is b, and waits with no link in its hand
  pub hands-second : slice_get main 1 ≡ Some b
  hands-second =
      elim (get_cases main 1) [
        | inl n ↦ absurd (grind (arith, ok.last 0 w hands-at n, moves.was))
        | inr v ↦ let p = ok.pair 0 w v.0 hands-at v.1 in grind (arith, p.behind, moves.was, v.1)
      ]

  pub hands-waits : phase b ≡ Waits
  hands-waits =
      let p = ok.pair 0 w b hands-at hands-second in
      let f = ok.behind 0 b hands-second in
      waits_is (phase b) f.0 (grind (arith, p.before, moves.was))
    where
      waits_is : (q : Phase) → follows q ≡ true → link_before q ≡ None → q ≡ Waits
      waits_is q f e = grind (arith, f, e)

  hands-other : (i u : ℕ) → slice_get main' i ≡ Some u → u ≢ w
  hands-other = leave-other ok moves hands-at drops

  hands-next : (u : ℕ) → (node' u).next ≡ (node u).next
  hands-next u = grind (arith, cpu_cases u b, writes.others u, writes.now)

  hands-apart : b ≢ w
  hands-apart e = grind (arith, ok.once 1 0 w, hands-second, hands-at, e)

  pub queue_hands : OsqQueueAgrees tail phase' node' main'
  queue_hands =
      record {
        inside = leave-inside ok moves hands-at drops;
        place = leave-place ok moves hands-at drops;
        once = leave-once ok moves hands-at drops;
        no_tail = λ h. absurd (grind (arith, hands-up 0, hands-second));
        tail_is =
            λ i u h l. ok.tail_is (suc i) u (grind (arith, hands-up i))
            (grind (arith, hands-up (suc i)));
        first = λ u h. let s : u ≡ b = grind (arith, hands-up 0, hands-second) in
            grind (arith, s, moves.others b hands-apart, hands-waits, writes.now);
        behind = λ i u h.
            let at : slice_get main (suc (suc i)) ≡ Some u = grind (arith, hands-up (suc i)) in
            let d : u ≢ b = (λ e. grind (arith, ok.once (suc (suc i)) 1 u at, hands-second, e)) in
            grind (
              arith,
              ok.behind (suc i) u at,
              moves.others u
                  (hands-other (suc i) u h),
              writes.others u d,
            );
        pair = λ i u v h l. pair_same
            (ok.pair (suc i) u v (grind (arith, hands-up i)) (grind (arith, hands-up (suc i))))
            (moves.others u (hands-other i u h)) (moves.others v (hands-other (suc i) v l))
            (hands-next u);
        last = λ i u h l.
            let o = ok.last (suc i) u (grind (arith, hands-up i))
            (grind (arith, hands-up (suc i))) in
            grind (arith, o, moves.others u (hands-other i u h), hands-next u);
        outside = λ u h.
            let n = ok.pair 0 w b hands-at hands-second in
            grind
            (arith, ok.outside u, cpu_cases u w, moves.others u, moves.was, n.next, hands-next u);
        fresh = λ u h.
            let d : u ≢ b = (λ e. grind (arith, moves.others b hands-apart, hands-waits, e)) in
            grind (arith, ok.fresh u, cpu_cases u w, moves.others u, moves.now, writes.others u d);
      }

-- Q5 swapped: the last gives up
module _ {tail : Option ℕ} {phase phase' : ℕ → Phase} {node : ℕ
    → Node} {main main' : List ℕ} {w a : ℕ}
    (ok : OsqQueueAgrees tail phase node main) (moves : Moves phase phase' w (Cuts a) Outside)
    (tail_is : tail ≡ Some w)
    (j : ℕ) (at_a : slice_get main j ≡ Some a) (at_w : slice_get main (suc j) ≡ Some w)
    (drops : Drops main main' (suc j)) where
  withdraws-end : slice_get main (suc (suc j)) ≡ None
  withdraws-end = tail_last ok (suc j) w at_w tail_is

  withdraws-low : (i u : ℕ) → slice_get main' i ≡ Some u → (i < suc j) × (slice_get main i ≡ Some u)
  withdraws-low i u h = elim (dropped drops i u h) [
    | inl l ↦ l
    | inr g ↦ absurd (past main (suc (suc j)) (suc i) u (omega (arith, g.0)) withdraws-end g.1)
  ]
    where
      past : (xs : List ℕ) (k i u : ℕ) → k ≤ i → slice_get xs k ≡ None → slice_get xs i ≡ Some u → ⊥
      past [] k i u l n h = cc
      past (x ∷ xs) zero i u l n h = cc
      past (x ∷ xs) (suc k) zero u l n h = omega arith
      past (x ∷ xs) (suc k) (suc i) u l n h = past xs k i u (omega arith) n h

  withdraws-pair : Pair a w (phase a) (phase w) (node a)
  withdraws-pair = ok.pair j a w at_a at_w

  -- the last one now is a
  withdraws-last : (i u : ℕ) → slice_get main' i ≡ Some u → slice_get main' (suc i) ≡ None
      → (i ≡ j) × (u ≡ a)
  withdraws-last i u h l =
      let s = withdraws-low i u h in
      let c : (suc i < suc j) ⊎ (i ≡ j) = grind (arith, s.0) in
      elim c [
        | inl m ↦ absurd
            (get-some_down main (suc i) (suc j) w (omega (arith, m)) at_w
            (grind (arith, drops.low (suc i) m)))
        | inr e ↦ (e, grind (arith, s.1, e))
      ]

  pub queue_withdraws : OsqQueueAgrees (Some a) phase' node main'
  queue_withdraws =
      record {
        inside = leave-inside ok moves at_w drops;
        place = leave-place ok moves at_w drops;
        once = leave-once ok moves at_w drops;
        no_tail =
            λ h. absurd
            (get-some_down main 0 j a (omega arith) at_a (sym (drops.low 0 (omega arith)) ∙ h));
        tail_is = λ i u h l. grind (arith, withdraws-last i u h l);
        first = λ u h. grind (
          arith,
          ok.first u (withdraws-low 0 u h).1,
          moves.others u
              (leave-other ok moves at_w drops 0 u h),
        );
        behind = λ i u h. grind (
          arith,
          ok.behind i u (withdraws-low (suc i) u h).1,
          moves.others u
              (leave-other ok moves at_w drops (suc i) u h),
        );
        pair = λ i u v h l. pair_same
            (ok.pair i u v (withdraws-low i u h).1 (withdraws-low (suc i) v l).1)
            (moves.others u (leave-other ok moves at_w drops i u h))
            (moves.others v (leave-other ok moves at_w drops (suc i) v l)) refl;
        last = λ i u h l.
            let s = withdraws-last i u h l in
            grind (
              arith,
              s,
              withdraws-pair.next,
              withdraws-pair.before,
              moves.was,
              moves.others u
                  (leave-other ok moves at_w drops i u h),
            );
        outside =
            λ u h. grind (
              arith,
              ok.outside u,
              cpu_cases u w,
              moves.others u,
              ok.last
                  (suc j) w at_w withdraws-end,
            );
        fresh = λ u h. grind (arith, ok.fresh u, cpu_cases u w, moves.others u, moves.now);
      }
