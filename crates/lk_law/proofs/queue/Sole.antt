-- The queue, where its only waiter leaves.
use Rattle.std.proofs.Common.{◌≡◌, ◌≢◌, ℕ, zero, suc, Option, Some, None, true, List, [], length}
use Rattle.std.proofs.Common.{◌⊎◌, inl, inr, arith, slice_get, drop, refl}
use Rattle.lk_law.proofs.Names.{NodeName, get-drop_one, get-none_up, last_cases, Waiter, Node}
use Rattle.lk_law.proofs.Names.{Phase, leads, queues, Idle, Moves, QueueAgrees}
use Rattle.lk_law.proofs.{common.Cases.{Apart, waiter_cases}, queue.Lead.lead_first}

-- the only waiter of the queue leaves
module _ {tail : Option NodeName} {phase phase' : Waiter → Phase} {own own' : Waiter → NodeName}
    {node : NodeName → Node} {main : List Waiter} {w : Waiter}
    {r : Phase}
    (ok : QueueAgrees tail phase own node main) (moves : Moves phase phase' w r Idle)
    (lead : leads r ((node (own w)).flag) ≡ true)
    (owns : (u : Waiter) → u ≢ w → own' u ≡ own u)
    (mine : tail ≡ Some (own w))
    (apart : Apart phase own) where
  sole-at : slice_get main 0 ≡ Some w
  sole-at = lead_first ok w (grind (arith, moves.was))

  sole-end : (main ≡ [])
      ⊎ ((i : ℕ) × (u : Waiter) × (slice_get main i ≡ Some u) × (slice_get main (suc i) ≡ None)
      × (length main ≡ suc i))
      → slice_get main 1 ≡ None
  sole-end (inl e) = grind (arith, sole-at)
  sole-end (inr s) =
      let t = ok.ends.tail_is s.0 s.1 s.2 s.3 in
      let same : s.1 ≡ w =
      apart s.1 w (grind (arith, ok.members.inside s.0 s.1 s.2))
      (grind (arith, ok.members.inside 0 w sole-at)) (grind arith) in
      let here : slice_get main s.0 ≡ Some w = grind (arith, s.2) in
      let zero_is : s.0 ≡ 0 = ok.members.once s.0 0 w here sole-at in
      grind (arith, s.3, zero_is)

  -- nobody stands behind it
  pub sole_second : slice_get main 1 ≡ None
  sole_second = sole-end (last_cases main)

  sole-none : (i : ℕ) → slice_get main (suc i) ≡ None
  sole-none zero = sole-end (last_cases main)
  sole-none (suc i) = get-none_up main (suc i) (sole-none i)

  sole-out : (u : Waiter) → queues (phase' u) ≡ true → ⊥
  sole-out u h = let ne : u ≢ w = (λ e. grind (arith, moves.now)) in
      let at = ok.members.place u (grind (arith, moves.others u ne)) in go u ne at.0 at.1
    where
      go : (u : Waiter) → u ≢ w → (i : ℕ) → slice_get main i ≡ Some u → ⊥
      go u ne zero p = grind (arith, sole-at)
      go u ne (suc i) p = grind (arith, sole-none i)

  pub sole_empty : (i : ℕ) → slice_get (drop 1 main) i ≡ None
  sole_empty i = rw get-drop_one (sole-none i)

  pub queue_sole : QueueAgrees None phase' own' node (drop 1 main)
  queue_sole =
      record {
        members = record {
          inside = λ i u h. grind (arith, sole_empty i);
          place = λ u h. absurd (sole-out u h);
          once = λ i j u h k. grind (arith, sole_empty i);
        };
        ends = record {
          no_tail = λ h. refl;
          tail_is = λ i u h k. grind (arith, sole_empty i);
          first = λ u h. grind (arith, sole_empty 0);
          behind = λ i u h. absurd (grind (arith, sole_empty (suc i)));
        };
        links = record {
          linked = λ i u v h k p. grind (arith, sole_empty i);
          linking = λ i u v n h k p. absurd (grind (arith, sole_empty i));
          last = λ i u h k. grind (arith, sole_empty i);
          hand = λ u n p. absurd (sole-out u (grind arith));
          fresh = λ u p.
              grind (arith, waiter_cases u w, moves.now, moves.others u, owns u, ok.links.fresh u);
        };
      }
