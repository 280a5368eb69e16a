use Rattle.std.proofs.Common.{◌≡◌, ◌≢◌, ℕ, zero, suc, Option, Some, None, true, false, List, []}
use Rattle.std.proofs.Common.{◌∷◌, ◌++◌, length, ◌⊎◌, inl, inr, arith, ap, refl, sym, ◌∙◌, ◌+◌}
use Rattle.std.proofs.Common.{slice_get, drop, take}
use Rattle.lk_law.proofs.Names.{NodeName, get-drop_one, get-none_up, get_cases, last_cases, Waiter}
use Rattle.lk_law.proofs.Names.{rest_node, Unset, Node, Phase, follows, queues, Hands, Holds, Links}
use Rattle.lk_law.proofs.Names.{Prepared, Waits, QueueAgrees}
use Rattle.lk_law.proofs.cna.Joined.{get-join, get-join_left, get-join_right, get-join_two}
use Rattle.lk_law.proofs.cna.Joined.{get-join_last}

pub insert-lists : {A : Type 0} (main : List A) (w : A) (ys : List A) → slice_get main 0 ≡ Some w
    → take 1 main ++ ys ≡ w ∷ ys
insert-lists [] w ys h = cc
insert-lists (x ∷ xs) w ys h = let e : x ≡ w = grind arith in ap (λ z. z ∷ ys) e

-- The second queue, which begins with s, is put right behind the front w.
pub record PutsBack (tail tail' : Option NodeName) (phase phase' : Waiter → Phase)
    (own : Waiter → NodeName) (node node' : NodeName → Node) (main second : List Waiter)
    (w s : Waiter) : Type 0 where
  pub front : slice_get main 0 ≡ Some w
  pub held : phase w ≡ Holds
  pub holds : phase' w ≡ Holds
  pub first : slice_get second 0 ≡ Some s
  pub waits : (i : ℕ) (u : Waiter)
      → slice_get second i ≡ Some u
      → (phase' u ≡ Waits) × (queues (phase u) ≡ false) × ((node' (own u)).flag ≡ Unset)
  pub once : (i j : ℕ) (u : Waiter)
      → slice_get second i ≡ Some u
      → slice_get second j ≡ Some u
      → i ≡ j
  pub links : (i : ℕ) (u v : Waiter)
      → slice_get second i ≡ Some u
      → slice_get second (suc i) ≡ Some v
      → (node' (own u)).next ≡ Some (own v)
  pub head : (node' (own w)).next ≡ Some (own s)
  -- its last names the one that stood behind w, or is the last of all
  pub seam : (i : ℕ) (z v : Waiter)
      → slice_get second i ≡ Some z
      → slice_get second (suc i) ≡ None
      → slice_get main 1 ≡ Some v
      → (tail' ≡ tail) × (phase v ≡ Waits) × ((node' (own z)).next ≡ Some (own v))
  pub ends : (i : ℕ) (z : Waiter)
      → slice_get second i ≡ Some z
      → slice_get second (suc i) ≡ None
      → slice_get main 1 ≡ None
      → (tail' ≡ Some (own z)) × ((node' (own z)).next ≡ None)
  pub same : (u : Waiter)
      → queues (phase u) ≡ true
      → u ≢ w
      → (phase' u ≡ phase u) × ((node' (own u)).flag ≡ (node (own u)).flag)
      × ((node' (own u)).next ≡ (node (own u)).next)
  pub back : (u : Waiter)
      → queues (phase' u) ≡ true
      → (queues (phase u) ≡ true) ⊎ ((i : ℕ) × (slice_get second i ≡ Some u))
  pub fresh : (u : Waiter) → phase' u ≡ Prepared → node' (own u) ≡ rest_node

module _ {tail tail' : Option NodeName} {phase phase' : Waiter → Phase} {own : Waiter → NodeName}
    {node node' : NodeName → Node} {main second : List Waiter} {w s : Waiter}
    (ok : QueueAgrees tail phase own node main)
    (step : PutsBack tail tail' phase phase' own node node' main second w s) where
  -- where an element of the step.fresh queue comes from
  insert-cases : (i : ℕ) (u : Waiter) → slice_get (w ∷ (second ++ drop 1 main)) i ≡ Some u
      → ((i ≡ 0) × (u ≡ w)) ⊎ ((j : ℕ) × (i ≡ suc j) × (slice_get second j ≡ Some u))
      ⊎ ((j : ℕ) × (i ≡ suc (length second + j)) × (slice_get main (suc j) ≡ Some u))
  insert-cases zero u h = inl (refl, grind arith)
  insert-cases (suc i) u h =
      elim (get-join second (drop 1 main) i u h) [
        | inl e ↦ inr (inl (i, refl, e))
        | inr p ↦ inr (inr (p.0, ap suc p.1, sym (get-drop_one main p.0) ∙ p.2))
      ]

  insert-two : (i : ℕ) (u v : Waiter) → slice_get (w ∷ (second ++ drop 1 main)) i ≡ Some u
      → slice_get (w ∷ (second ++ drop 1 main)) (suc i) ≡ Some v
      → ((u ≡ w) × (v ≡ s))
      ⊎ ((j : ℕ) × (slice_get second j ≡ Some u) × (slice_get second (suc j) ≡ Some v))
      ⊎ ((j : ℕ) × (slice_get second j ≡ Some u) × (slice_get second (suc j) ≡ None)
      × (slice_get main 1 ≡ Some v))
      ⊎ ((j : ℕ) × (slice_get main (suc j) ≡ Some u) × (slice_get main (suc (suc j)) ≡ Some v))
  insert-two zero u v h k =
      let e = get-join_left second (drop 1 main) 0 s step.first in inl (grind arith, grind arith)
  insert-two (suc i) u v h k =
      elim (get-join_two second (drop 1 main) i u v h k) [
        | inl a ↦ inr (inl (i, a.0, a.1))
        | inr b ↦ elim b [
          | inl c ↦ inr (inr (inl (i, c.0, c.1, sym (get-drop_one main 0) ∙ c.2)))
          | inr d ↦
              inr
              (inr (inr (
                d.0,
                sym (get-drop_one main d.0) ∙ d.2,
                sym (get-drop_one main (suc d.0)) ∙ d.3,
              )))
        ]
      ]

  insert-last : (i : ℕ) (u : Waiter) → slice_get (w ∷ (second ++ drop 1 main)) i ≡ Some u
      → slice_get (w ∷ (second ++ drop 1 main)) (suc i) ≡ None
      → ((j : ℕ) × (slice_get second j ≡ Some u) × (slice_get second (suc j) ≡ None)
      × (slice_get main 1 ≡ None))
      ⊎ ((j : ℕ) × (slice_get main (suc j) ≡ Some u) × (slice_get main (suc (suc j)) ≡ None))
  insert-last zero u h k =
      let e = get-join_left second (drop 1 main) 0 s step.first in absurd (grind arith)
  insert-last (suc i) u h k =
      elim (get-join_last second (drop 1 main) i u h k) [
        | inl a ↦ inl (i, a.0, a.1, sym (get-drop_one main 0) ∙ ap (λ xs. slice_get xs 0) a.2)
        | inr d ↦
            inr (d.0, sym (get-drop_one main d.0) ∙ d.2, sym (get-drop_one main (suc d.0)) ∙ d.3)
      ]

  -- one behind the step.head in the old queue
  insert-old : (j : ℕ) (u : Waiter) → slice_get main (suc j) ≡ Some u
      → (u ≢ w) × (phase' u ≡ phase u) × ((node' (own u)).flag ≡ (node (own u)).flag)
      × ((node' (own u)).next ≡ (node (own u)).next) × (queues (phase u) ≡ true)
  insert-old j u h =
      let ne : u ≢ w =
      (λ e. let at : slice_get main (suc j) ≡ Some w = h ∙ ap (λ z. Some z) e in
      grind (arith, ok.members.once (suc j) 0 w at step.front)) in
      let q = ok.members.inside (suc j) u h in
      let r = step.same u q ne in
      (ne, r.0, r.1, r.2, q)

  insert-inside : (i : ℕ) (u : Waiter) → slice_get (w ∷ (second ++ drop 1 main)) i ≡ Some u
      → queues (phase' u) ≡ true
  insert-inside i u h =
      elim (insert-cases i u h) [
        | inl a ↦ grind (arith, a, step.holds)
        | inr b ↦ elim
            b [
              | inl c ↦ let r = step.waits c.0 u c.2 in
                  grind (arith, r.0)
              | inr d ↦ let r = insert-old d.0 u d.2 in grind (arith, r.1, r.4)
            ]
      ]

  insert-place : (u : Waiter) → queues (phase' u) ≡ true
      → (i : ℕ) × (slice_get (w ∷ (second ++ drop 1 main)) i ≡ Some u)
  insert-place u h =
      elim (step.back u h) [
        | inl q ↦ let p = ok.members.place u q in go u p.0 p.1
        | inr b ↦ (suc b.0, get-join_left second (drop 1 main) b.0 u b.1)
      ]
    where
      go : (u : Waiter) (i : ℕ) → slice_get main i ≡ Some u
          → (i : ℕ) × (slice_get (w ∷ (second ++ drop 1 main)) i ≡ Some u)
      go u zero p = (0, grind (arith, p, step.front))
      go u (suc j) p =
          (suc (length second + j), get-join_right second (drop 1 main) j ∙ get-drop_one main j ∙ p)

  -- the parts have nobody in common
  insert-apart : (i j : ℕ) (u : Waiter) → slice_get second i ≡ Some u → slice_get main j ≡ Some u
      → ⊥
  insert-apart i j u h k =
      let r = step.waits i u h in let q = ok.members.inside j u k in grind (arith, r.1, q)

  insert-once : (i j : ℕ) (u : Waiter) → slice_get (w ∷ (second ++ drop 1 main)) i ≡ Some u
      → slice_get (w ∷ (second ++ drop 1 main)) j ≡ Some u → i ≡ j
  insert-once i j u h k =
      elim (insert-cases i u h) [
        | inl a ↦ elim (insert-cases j u k) [
          | inl a' ↦ a.0 ∙ sym a'.0
          | inr b' ↦ elim b' [
            | inl c' ↦ absurd (insert-apart c'.0 0 u c'.2 (step.front ∙ ap (λ z. Some z) (sym a.1)))
            | inr d' ↦ absurd ((insert-old d'.0 u d'.2).0 a.1)
          ]
        ]
        | inr b ↦ elim b [
          | inl c ↦ elim (insert-cases j u k) [
            | inl a' ↦ absurd (insert-apart c.0 0 u c.2 (step.front ∙ ap (λ z. Some z) (sym a'.1)))
            | inr b' ↦ elim b' [
              | inl c' ↦ c.1 ∙ ap suc (step.once c.0 c'.0 u c.2 c'.2) ∙ sym c'.1
              | inr d' ↦ absurd (insert-apart c.0 (suc d'.0) u c.2 d'.2)
            ]
          ]
          | inr d ↦ elim (insert-cases j u k) [
            | inl a' ↦ absurd ((insert-old d.0 u d.2).0 a'.1)
            | inr b' ↦ elim b' [
              | inl c' ↦ absurd (insert-apart c'.0 (suc d.0) u c'.2 d.2)
              | inr d' ↦ let e = ok.members.once (suc d.0) (suc d'.0) u d.2 d'.2 in let f = d.1 in
                  let g = d'.1 in omega arith
            ]
          ]
        ]
      ]

  insert-tail : (i : ℕ) (u : Waiter) → slice_get (w ∷ (second ++ drop 1 main)) i ≡ Some u
      → slice_get (w ∷ (second ++ drop 1 main)) (suc i) ≡ None → tail' ≡ Some (own u)
  insert-tail i u h k =
      elim (insert-last i u h k) [
        | inl a ↦ (step.ends a.0 u a.1 a.2 a.3).0
        | inr d ↦ tail-same d.0 u d.1 d.2
      ]
    where
      tail-same : (j : ℕ) (u : Waiter) → slice_get main (suc j) ≡ Some u
          → slice_get main (suc (suc j)) ≡ None → tail' ≡ Some (own u)
      tail-same j u h k =
          let z = (last-of second) in
          let one = one-there j u h in
          (step.seam z.0 z.1 one.0 z.2 z.3 one.1).0 ∙ ok.ends.tail_is (suc j) u h k
        where
          last-of : (xs : List Waiter)
              → (i : ℕ) × (z : Waiter) × (slice_get second i ≡ Some z)
              × (slice_get second (suc i) ≡ None)
          last-of xs = elim (last_cases second) [
            | inl e ↦ absurd (grind (arith, e, step.first))
            | inr p ↦ (p.0, p.1, p.2, p.3)
          ]

          one-there : (j : ℕ) (u : Waiter) → slice_get main (suc j) ≡ Some u
              → (v : Waiter) × (slice_get main 1 ≡ Some v)
          one-there zero u h = (u, h)
          one-there (suc j) u h =
              elim (get_cases main (suc j)) [
                | inl n ↦ absurd
                    (let e = get-none_up main (suc j) n in grind (arith, e, h))
                | inr p ↦ one-there j p.0 p.1
              ]

  insert-behind : (i : ℕ) (u : Waiter) → slice_get (w ∷ (second ++ drop 1 main)) (suc i) ≡ Some u
      → (follows (phase' u) ≡ true) × ((node' (own u)).flag ≡ Unset)
  insert-behind i u h =
      elim (insert-cases (suc i) u h) [
        | inl a ↦ absurd (grind (arith, a))
        | inr b ↦ elim b [
          | inl c ↦ let r = step.waits c.0 u c.2 in (grind (arith, r.0), r.2)
          | inr d ↦ let r = insert-old d.0 u d.2 in let q = ok.ends.behind d.0 u d.2 in
              (grind (arith, r.1, q.0), r.2 ∙ q.1)
        ]
      ]

  insert-linked : (i : ℕ) (u v : Waiter) → slice_get (w ∷ (second ++ drop 1 main)) i ≡ Some u
      → slice_get (w ∷ (second ++ drop 1 main)) (suc i) ≡ Some v → phase' v ≡ Waits
      → (node' (own u)).next ≡ Some (own v)
  insert-linked i u v h k p =
      elim (insert-two i u v h k) [
        | inl a ↦ rw (a.0, a.1) step.head
        | inr b ↦ elim b [
          | inl c ↦ step.links c.0 u v c.1 c.2
          | inr d ↦ elim d [
            | inl e ↦ (step.seam e.0 u v e.1 e.2 e.3).2
            | inr f ↦ let r = insert-old f.0 u f.1 in let t = insert-old (suc f.0) v f.2 in
                r.3 ∙ ok.links.linked (suc f.0) u v f.1 f.2 (sym t.1 ∙ p)
          ]
        ]
      ]

  insert-linking : (i : ℕ) (u v : Waiter) (n : NodeName)
      → slice_get (w ∷ (second ++ drop 1 main)) i ≡ Some u
      → slice_get (w ∷ (second ++ drop 1 main)) (suc i) ≡ Some v → phase' v ≡ Links n
      → (n ≡ own u) × ((node' (own u)).next ≡ None)
  insert-linking i u v n h k p =
      elim (insert-two i u v h k) [
        | inl a ↦ absurd (let r = step.waits 0 s step.first in
            let e : phase' v ≡ phase' s = ap phase' a.1 in grind (arith, r.0, e, p))
        | inr b ↦ elim b [
          | inl c ↦ absurd (let r = step.waits (suc c.0) v c.2 in grind (arith, r.0, p))
          | inr d ↦ elim d [
            | inl e ↦ absurd (let r = (step.seam e.0 u v e.1 e.2 e.3).1 in
                let t = insert-old 0 v e.3 in grind (arith, r, t.1, p))
            | inr f ↦ let r = insert-old f.0 u f.1 in let t = insert-old (suc f.0) v f.2 in
                let q = ok.links.linking (suc f.0) u v n f.1 f.2 (sym t.1 ∙ p) in (q.0, r.3 ∙ q.1)
          ]
        ]
      ]

  insert-end : (i : ℕ) (u : Waiter) → slice_get (w ∷ (second ++ drop 1 main)) i ≡ Some u
      → slice_get (w ∷ (second ++ drop 1 main)) (suc i) ≡ None → (node' (own u)).next ≡ None
  insert-end i u h k =
      elim (insert-last i u h k) [
        | inl a ↦ (step.ends a.0 u a.1 a.2 a.3).1
        | inr d ↦ let r = insert-old d.0 u d.1 in r.3 ∙ ok.links.last (suc d.0) u d.1 d.2
      ]

  insert-hand : (u : Waiter) (n : NodeName) → phase' u ≡ Hands n → ⊥
  insert-hand u n p =
      let at = insert-place u (grind (arith, p)) in
      elim (insert-cases at.0 u at.1) [
        | inl a ↦ let e : phase' u ≡ phase' w = ap phase' a.1 in grind (arith, e, step.holds, p)
        | inr b ↦ elim b [
          | inl c ↦ let r = step.waits c.0 u c.2 in grind (arith, r.0, p)
          | inr d ↦ let r = insert-old d.0 u d.2 in let q = ok.ends.behind d.0 u d.2 in
              grind (arith, r.1, q.0, p)
        ]
      ]

  pub queue_insert : QueueAgrees tail' phase' own node' (w ∷ (second ++ drop 1 main))
  queue_insert =
      record {
        members = record {
          inside = insert-inside;
          place = insert-place;
          once = insert-once;
        };
        ends = record {
          no_tail = λ h. grind arith;
          tail_is = insert-tail;
          first = λ u h. let e : u ≡ w = grind arith in
              let f : phase' u ≡ Holds = ap phase' e ∙ step.holds in grind (arith, f);
          behind = insert-behind;
        };
        links = record {
          linked = insert-linked;
          linking = insert-linking;
          last = insert-end;
          hand = λ u n p. absurd (insert-hand u n p);
          fresh = step.fresh;
        };
      }
