-- The queue, where a waiter takes the tail: behind another, or first.
use Rattle.std.proofs.Common.{◌≡◌, ℕ, suc, Option, Some, None, true, List, [], ◌∷◌, ◌++◌, length}
use Rattle.std.proofs.Common.{inl, inr, arith, ap, slice_get, refl, zero, subst, sym}
use Rattle.lk_law.proofs.Names.{NodeName, get-append_old, get_cases, last_cases, Waiter, rest_node}
use Rattle.lk_law.proofs.Names.{Unset, Node, Phase, follows, leads, queues, Hands, Leads, Links}
use Rattle.lk_law.proofs.Names.{Prepared, Waits, Moves, QueueAgrees}
use Rattle.lk_names.proofs.ByIndex.{get-append, get-append_new, get-append_none, get-append_last}
use Rattle.lk_names.proofs.ByIndex.{get-append_two}
use Rattle.lk_law.proofs.common.Cases.{waiter_cases}

-- a waiter seeks the tail and meets another node there
module _ {tail : Option NodeName} {phase phase' : Waiter → Phase} {own : Waiter → NodeName}
    {node : NodeName → Node} {main : List Waiter} {w : Waiter}
    {p : NodeName}
    (ok : QueueAgrees tail phase own node main) (moves : Moves phase phase' w Prepared (Links p))
    (met : tail ≡ Some p) where
  behind-not_in : (i : ℕ) → slice_get main i ≡ Some w → ⊥
  behind-not_in i h = grind (arith, ok.members.inside i w, moves.was)

  behind-inside : (i : ℕ) (u : Waiter) → slice_get (main ++ w ∷ []) i ≡ Some u
      → queues (phase' u) ≡ true
  behind-inside i u h =
      grind (
        arith,
        get-append main w i u h,
        ok.members.inside i u,
        moves.others u,
        moves.now,
        behind-not_in i,
      )

  behind-place : (u : Waiter) → queues (phase' u) ≡ true
      → (i : ℕ) × (slice_get (main ++ w ∷ []) i ≡ Some u)
  behind-place u h =
      elim (waiter_cases u w) [
        | inl e ↦ (length main, grind (arith, get-append_new main w, e))
        | inr ne ↦ let s : queues (phase u) ≡ true = grind (arith, moves.others u) in (
          (ok.members.place u s).0,
          get-append_old main w (ok.members.place u s).0 u (ok.members.place u s).1,
        )
      ]

  behind-once : (i j : ℕ) (u : Waiter) → slice_get (main ++ w ∷ []) i ≡ Some u
      → slice_get (main ++ w ∷ []) j ≡ Some u → i ≡ j
  behind-once i j u h k =
      grind (
        arith,
        get-append main w i u h,
        get-append main w j u k,
        ok.members.once i j u,
        behind-not_in i,
        behind-not_in j,
      )

  behind-no_tail : slice_get (main ++ w ∷ []) 0 ≡ None → Some (own w) ≡ None
  behind-no_tail h = grind (arith, get-append_none main w 0 h, ok.ends.no_tail)

  behind-tail_is : (i : ℕ) (u : Waiter) → slice_get (main ++ w ∷ []) i ≡ Some u
      → slice_get (main ++ w ∷ []) (suc i) ≡ None → Some (own w) ≡ Some (own u)
  behind-tail_is i u h k = grind (arith, get-append_last main w i u h k)

  behind-first : (u : Waiter) → slice_get (main ++ w ∷ []) 0 ≡ Some u
      → leads (phase' u) ((node (own u)).flag) ≡ true
  behind-first u h =
      elim (get_cases main 0) [
        | inl e ↦ absurd (grind (arith, ok.ends.no_tail e, met))
        | inr q ↦ let s : slice_get main 0 ≡ Some u =
            grind (arith, get-append_old main w 0 q.0 q.1, h) in
            grind (arith, ok.ends.first u s, moves.others u, behind-not_in 0, s)
      ]

  behind-behind : (node (own w)).flag ≡ Unset → (i : ℕ) (u : Waiter)
      → slice_get (main ++ w ∷ []) (suc i) ≡ Some u
      → (follows (phase' u) ≡ true) × ((node (own u)).flag ≡ Unset)
  behind-behind f i u h =
      grind (
        arith,
        get-append main w (suc i) u h,
        ok.ends.behind i u,
        moves.others u,
        moves.now,
        behind-not_in (suc i),
      )

  behind-linked : (i : ℕ) (u v : Waiter) → slice_get (main ++ w ∷ []) i ≡ Some u
      → slice_get (main ++ w ∷ []) (suc i) ≡ Some v → phase' v ≡ Waits
      → (node (own u)).next ≡ Some (own v)
  behind-linked i u v h k r =
      grind (
        arith,
        get-append_two main w i u v h k,
        ok.links.linked i u v,
        moves.others v,
        moves.now,
        behind-not_in (suc i),
      )

  behind-linking : (i : ℕ) (u v : Waiter) (n : NodeName) → slice_get (main ++ w ∷ []) i ≡ Some u
      → slice_get (main ++ w ∷ []) (suc i) ≡ Some v → phase' v ≡ Links n
      → (n ≡ own u) × ((node (own u)).next ≡ None)
  behind-linking i u v n h k r =
      grind (
        arith,
        get-append_two main w i u v h k,
        ok.links.linking i u v n,
        moves.others v,
        moves.now,
        behind-not_in (suc i),
        ok.ends.tail_is i u,
        ok.links.last i u,
        met,
      )

  behind-last : (node (own w)).next ≡ None → (i : ℕ) (u : Waiter)
      → slice_get (main ++ w ∷ []) i ≡ Some u → slice_get (main ++ w ∷ []) (suc i) ≡ None
      → (node (own u)).next ≡ None
  behind-last f i u h k = grind (arith, get-append_last main w i u h k)

  behind-hand : (u : Waiter) (n : NodeName) → phase' u ≡ Hands n
      → (v : Waiter) × (slice_get (main ++ w ∷ []) 1 ≡ Some v) × (phase' v ≡ Waits) × (own v ≡ n)
  behind-hand u n h =
      let s : phase u ≡ Hands n = grind (arith, waiter_cases u w, moves.others u, moves.now) in
      let r = ok.links.hand u n s in (
        r.0,
        get-append_old main w 1 r.0 r.1,
        grind (arith, waiter_cases r.0 w, moves.others r.0, behind-not_in 1, r),
        r.3,
      )

  behind-fresh : (u : Waiter) → phase' u ≡ Prepared → node (own u) ≡ rest_node
  behind-fresh u h = grind (arith, waiter_cases u w, moves.others u, moves.now, ok.links.fresh u)

  pub arrive_behind : QueueAgrees (Some (own w)) phase' own node (main ++ w ∷ [])
  arrive_behind =
      let f = ok.links.fresh w moves.was in
      record {
        members = record {
          inside = behind-inside;
          place = behind-place;
          once = behind-once;
        };
        ends = record {
          no_tail = behind-no_tail;
          tail_is = behind-tail_is;
          first = behind-first;
          behind = behind-behind (ap (λ (n : Node). n.flag) f);
        };
        links = record {
          linked = behind-linked;
          linking = behind-linking;
          last = behind-last (ap (λ (n : Node). n.next) f);
          hand = behind-hand;
          fresh = behind-fresh;
        };
      }

-- a waiter seeks the tail of an empty queue
module _ {tail : Option NodeName} {phase phase' : Waiter → Phase} {own : Waiter → NodeName}
    {node : NodeName → Node} {main : List Waiter} {w : Waiter}
    (ok : QueueAgrees tail phase own node main) (moves : Moves phase phase' w Prepared Leads)
    (met : tail ≡ None) where
  first-empty : main ≡ []
  first-empty = elim (last_cases main) [
    | inl e ↦ e
    | inr s ↦ absurd (grind (arith, ok.ends.tail_is s.0 s.1 s.2 s.3))
  ]

  first-outside : (u : Waiter) → queues (phase u) ≡ true → ⊥
  first-outside u h = let at = ok.members.place u h in grind (arith, first-empty, at)

  first-only : (u : Waiter) → queues (phase' u) ≡ true → u ≡ w
  first-only u h = elim (waiter_cases u w) [
    | inl e ↦ e
    | inr ne ↦ absurd (first-outside u (grind (arith, moves.others u ne)))
  ]

  first-get : (i : ℕ) (u : Waiter) → slice_get (w ∷ []) i ≡ Some u → (i ≡ 0) × (u ≡ w)
  first-get zero u h = (refl, grind arith)
  first-get (suc i) u h = cc

  first-is : QueueAgrees (Some (own w)) phase' own node (w ∷ [])
  first-is =
      record {
        members = record {
          inside = λ i u h. grind (arith, first-get i u h, moves.now);
          place = λ u h. (0, grind (arith, first-only u h));
          once = λ i j u h k. grind (arith, first-get i u h, first-get j u k);
        };
        ends = record {
          no_tail = λ h. grind arith;
          tail_is = λ i u h k. grind (arith, first-get i u h);
          first = λ u h. grind (arith, first-get 0 u h, moves.now);
          behind = λ i u h. absurd (grind (arith, first-get (suc i) u h));
        };
        links = record {
          linked = λ i u v h k p. absurd (grind (arith, first-get (suc i) v k));
          linking = λ i u v n h k p. absurd (grind (arith, first-get (suc i) v k));
          last = λ i u h k. grind (arith, first-get i u h, ok.links.fresh w moves.was);
          hand = λ u n p. absurd (grind (arith, first-only u, moves.now));
          fresh =
              λ u p. grind (arith, waiter_cases u w, moves.others u, moves.now, ok.links.fresh u);
        };
      }

  pub arrive_first : QueueAgrees (Some (own w)) phase' own node (main ++ w ∷ [])
  arrive_first = let P : List Waiter → Type 0 =
      λ ws. QueueAgrees (Some (own w)) phase' own node (ws ++ w ∷ []) in
      subst P (sym first-empty) first-is

-- without a tail nobody stands in the queue
pub no_queue : {phase : Waiter → Phase} {own : Waiter → NodeName} {node : NodeName → Node}
    {main : List Waiter}
    → QueueAgrees None phase own node main → (u : Waiter) → queues (phase u) ≡ true → ⊥
no_queue {main = main} ok u h =
    let at = ok.members.place u h in
    elim (last_cases main) [
      | inl e ↦ grind (arith, e, at)
      | inr s ↦ grind (arith, ok.ends.tail_is s.0 s.1 s.2 s.3)
    ]
