-- The queue, where the front hands the lead to the second.
use Rattle.std.proofs.Common.{◌≡◌, ◌≢◌, ℕ, zero, suc, Option, Some, None, true, List, inl, inr}
use Rattle.std.proofs.Common.{arith, slice_get, drop}
use Rattle.lk_law.proofs.Names.{NodeName, get-drop_one, Waiter, rest_node, Go, Unset, Node, Phase}
use Rattle.lk_law.proofs.Names.{follows, has_node, leads, queues, Hands, Idle, Links, Prepared}
use Rattle.lk_law.proofs.Names.{Waits, Moves, QueueAgrees, Rewrites}
use Rattle.lk_law.proofs.{common.Cases.{Apart, waiter_cases, node_cases}, queue.Lead.lead_first}

-- the head hands the lead to the second waiter, and leaves
module _ {tail : Option NodeName} {phase phase' : Waiter → Phase} {own own' : Waiter → NodeName}
    {node node' : NodeName → Node} {main : List Waiter}
    {w : Waiter} {y : NodeName} {x : Node}
    (ok : QueueAgrees tail phase own node main) (moves : Moves phase phase' w (Hands y) Idle)
    (writes : Rewrites node node' y x)
    (flag : x.flag ≡ Go) (next : x.next ≡ (node y).next)
    (owns : (u : Waiter) → u ≢ w → own' u ≡ own u)
    (apart : Apart phase own) where
  pass-at : slice_get main 0 ≡ Some w
  pass-at = lead_first ok w (grind (arith, moves.was))

  pass-second : (v : Waiter) × (slice_get main 1 ≡ Some v) × (phase v ≡ Waits) × (own v ≡ y)
  pass-second = ok.links.hand w y moves.was

  -- a place after the head's is another waiter's
  pass-other : (i : ℕ) (u : Waiter) → slice_get main (suc i) ≡ Some u → u ≢ w
  pass-other i u h e = grind (arith, ok.members.once (suc i) 0 w, pass-at)

  pass-next : (u : Waiter) → u ≢ w → (node' (own' u)).next ≡ (node (own u)).next
  pass-next u ne = let e = owns u ne in
      elim (node_cases (own u) y) [
        | inl m ↦ grind (arith, writes.now)
        | inr n ↦ grind (arith, writes.others (own u) n)
      ]

  pass-same : (u : Waiter) → u ≢ w → has_node (phase u) ≡ true → u ≢ pass-second.0
      → node' (own' u) ≡ node (own u)
  pass-same u ne h other =
      let e = owns u ne in
      elim (node_cases (own u) y) [
        | inl m ↦
            absurd
            (other (apart u pass-second.0 h (grind (arith, pass-second))
            (grind (arith, pass-second))))
        | inr n ↦ grind (arith, writes.others (own u) n)
      ]

  pass-inside : (i : ℕ) (u : Waiter) → slice_get main (suc i) ≡ Some u → queues (phase' u) ≡ true
  pass-inside i u h = grind (arith, ok.members.inside (suc i) u h, moves.others u, pass-other i u h)

  pass-place : (u : Waiter) → queues (phase' u) ≡ true → (i : ℕ) × (slice_get main (suc i) ≡ Some u)
  pass-place u h =
      let at = ok.members.place u (grind (arith, waiter_cases u w, moves.others u, moves.now)) in
      go u (grind (arith, waiter_cases u w, moves.others u, moves.now)) at.0 at.1
    where
      go : (u : Waiter) → u ≢ w → (i : ℕ) → slice_get main i ≡ Some u
          → (i : ℕ) × (slice_get main (suc i) ≡ Some u)
      go u ne zero p = absurd (grind (arith, pass-at))
      go u ne (suc i) p = (i, p)

  pass-first : (u : Waiter) → slice_get main 1 ≡ Some u
      → leads (phase' u) ((node' (own' u)).flag) ≡ true
  pass-first u h = grind (arith, pass-second, moves.others u, pass-other 0 u h, owns u, writes.now)

  pass-behind : (i : ℕ) (u : Waiter) → slice_get main (suc (suc i)) ≡ Some u
      → (follows (phase' u) ≡ true) × ((node' (own' u)).flag ≡ Unset)
  pass-behind i u h =
      let ne = pass-other (suc i) u h in
      let other : u ≢ pass-second.0 =
      (λ e. grind (arith, ok.members.once (suc (suc i)) 1 u h, pass-second, e)) in
      grind (
        arith,
        ok.ends.behind (suc i) u h,
        ok.members.inside (suc (suc i)) u h,
        moves.others u ne,
        pass-same u ne,
      )

  pass-linked : (i : ℕ) (u v : Waiter) → slice_get main (suc i) ≡ Some u
      → slice_get main (suc (suc i)) ≡ Some v → phase' v ≡ Waits
      → (node' (own' u)).next ≡ Some (own' v)
  pass-linked i u v h k p =
      let ne = pass-other i u h in let nf = pass-other (suc i) v k in
      grind (arith, ok.links.linked (suc i) u v h k, pass-next u ne, owns v nf, moves.others v nf)

  pass-linking : (i : ℕ) (u v : Waiter) (n : NodeName) → slice_get main (suc i) ≡ Some u
      → slice_get main (suc (suc i)) ≡ Some v → phase' v ≡ Links n
      → (n ≡ own' u) × ((node' (own' u)).next ≡ None)
  pass-linking i u v n h k p =
      let ne = pass-other i u h in let nf = pass-other (suc i) v k in
      grind (
        arith,
        ok.links.linking
            (suc i) u v n h k,
        pass-next u ne,
        owns u ne,
        moves.others v nf,
      )

  pass-fresh : (u : Waiter) → phase' u ≡ Prepared → node' (own' u) ≡ rest_node
  pass-fresh u h =
      let ne : u ≢ w = (λ e. grind (arith, moves.now)) in
      let f = moves.others u ne in
      let other : u ≢ pass-second.0 = (λ e. grind (arith, pass-second, e)) in
      grind (arith, ok.links.fresh u, pass-same u ne)

  pub queue_pass : QueueAgrees tail phase' own' node' (drop 1 main)
  queue_pass =
      record {
        members = record {
          inside = λ i u h. pass-inside i u (rw get-drop_one at h);
          place = λ u h. ((pass-place u h).0, rw get-drop_one (pass-place u h).1);
          once = λ i j u h k.
              grind (
                arith,
                ok.members.once (suc i)
                    (suc j) u,
                get-drop_one main i,
                get-drop_one main j,
              );
        };
        ends = record {
          no_tail = λ h. absurd (grind (arith, pass-second, get-drop_one main 0));
          tail_is = λ i u h k. let h' = rw get-drop_one at h in let k' = rw get-drop_one at k in
              grind (arith, ok.ends.tail_is (suc i) u h' k', owns u (pass-other i u h'));
          first = λ u h. pass-first u (rw get-drop_one at h);
          behind = λ i u h. pass-behind i u (rw get-drop_one at h);
        };
        links = record {
          linked = λ i u v h k p. pass-linked i u v (rw get-drop_one at h) (rw get-drop_one at k) p;
          linking =
              λ i u v n h k p. pass-linking i u v n (rw get-drop_one at h) (rw get-drop_one at k) p;
          last = λ i u h k. let h' = rw get-drop_one at h in let k' = rw get-drop_one at k in
              grind (arith, ok.links.last (suc i) u h' k', pass-next u (pass-other i u h'));
          hand = λ u n p. absurd (pass-no_hand u n p);
          fresh = pass-fresh;
        };
      }
    where
      pass-no_hand : (u : Waiter) (n : NodeName) → phase' u ≡ Hands n → ⊥
      pass-no_hand u n p =
          let ne : u ≢ w = (λ e. grind (arith, moves.now)) in
          let e : phase u ≡ Hands n = grind (arith, moves.others u ne) in
          let at = lead_first ok u (grind arith) in
          grind (arith, pass-at)
