-- The queue, where a waiter links its node behind the one that it met.
use Rattle.std.proofs.Common.{◌≡◌, ◌≢◌, ℕ, suc, Option, Some, None, true, List, inl, inr, arith}
use Rattle.std.proofs.Common.{slice_get}
use Rattle.lk_law.proofs.Names.{NodeName, Waiter, rest_node, Unset, Node, Phase, follows, has_node}
use Rattle.lk_law.proofs.Names.{leads, queues, Hands, Links, Prepared, Waits, Moves, QueueAgrees}
use Rattle.lk_law.proofs.Names.{Rewrites}
use Rattle.lk_law.proofs.common.Cases.{Apart, waiter_cases, node_cases}

-- a waiter links the node that it met to its own
module _ {tail : Option NodeName} {phase phase' : Waiter → Phase} {own : Waiter → NodeName}
    {node node' : NodeName → Node} {main : List Waiter} {w : Waiter}
    {p : NodeName} {x : Node}
    (ok : QueueAgrees tail phase own node main) (moves : Moves phase phase' w (Links p) Waits)
    (writes : Rewrites node node' p x)
    (flag : x.flag ≡ (node p).flag) (next : x.next ≡ Some (own w))
    (apart : Apart phase own)
    (j : ℕ) (a : Waiter) (at_a : slice_get main j ≡ Some a)
    (at_w : slice_get main (suc j) ≡ Some w) where
  link-met : p ≡ own a
  link-met = grind (arith, ok.links.linking j a w p, moves.was)

  link-flag : (u : Waiter) → (node' (own u)).flag ≡ (node (own u)).flag
  link-flag u = elim (node_cases (own u) p) [
    | inl e ↦ grind (arith, writes.now, e)
    | inr n ↦ grind (arith, writes.others (own u) n)
  ]

  -- another waiter's node stays
  link-same : (u : Waiter) → has_node (phase u) ≡ true → u ≢ a → node' (own u) ≡ node (own u)
  link-same u h ne =
      elim (node_cases (own u) p) [
        | inl e ↦
            absurd
            (ne (apart u a h (grind (arith, ok.members.inside j a)) (grind (arith, link-met))))
        | inr n ↦ writes.others (own u) n
      ]

  link-inside : (i : ℕ) (u : Waiter) → slice_get main i ≡ Some u → queues (phase' u) ≡ true
  link-inside i u h =
      grind (arith, ok.members.inside i u, waiter_cases u w, moves.others u, moves.now)

  link-place : (u : Waiter) → queues (phase' u) ≡ true → (i : ℕ) × (slice_get main i ≡ Some u)
  link-place u h = ok.members.place u (grind (arith, waiter_cases u w, moves.others u, moves.was))

  link-first : (u : Waiter) → slice_get main 0 ≡ Some u
      → leads (phase' u) ((node' (own u)).flag) ≡ true
  link-first u h =
      grind (arith, ok.ends.first u h, waiter_cases u w, moves.others u, moves.was, link-flag u)

  link-behind : (i : ℕ) (u : Waiter) → slice_get main (suc i) ≡ Some u
      → (follows (phase' u) ≡ true) × ((node' (own u)).flag ≡ Unset)
  link-behind i u h =
      grind (arith, ok.ends.behind i u h, waiter_cases u w, moves.others u, moves.now, link-flag u)

  link-linked : (i : ℕ) (u v : Waiter) → slice_get main i ≡ Some u → slice_get main (suc i) ≡ Some v
      → phase' v ≡ Waits → (node' (own u)).next ≡ Some (own v)
  link-linked i u v h k r =
      elim (waiter_cases v w) [
        | inl e ↦ let at : slice_get main (suc i) ≡ Some w = grind arith in
            let same : u ≡ a = grind (arith, ok.members.once (suc i) (suc j) w at at_w) in
            grind (arith, same, link-met, writes.now)
        | inr ne ↦ let other : u ≢ a = (λ e. ne (grind (arith, ok.members.once i j a, e))) in
            grind (
              arith,
              ok.links.linked i u v h k,
              moves.others v ne,
              link-same u,
              ok.members.inside i u h,
            )
      ]

  link-linking : (i : ℕ) (u v : Waiter) (n : NodeName) → slice_get main i ≡ Some u
      → slice_get main (suc i) ≡ Some v → phase' v ≡ Links n
      → (n ≡ own u) × ((node' (own u)).next ≡ None)
  link-linking i u v n h k r =
      elim (waiter_cases v w) [
        | inl e ↦ grind (arith, moves.now)
        | inr ne ↦ let other : u ≢ a = (λ e. ne (grind (arith, ok.members.once i j a, e))) in
            grind (
              arith,
              ok.links.linking i u v n h k,
              moves.others v ne,
              link-same u,
              ok.members.inside i u h,
            )
      ]

  link-last : (i : ℕ) (u : Waiter) → slice_get main i ≡ Some u → slice_get main (suc i) ≡ None
      → (node' (own u)).next ≡ None
  link-last i u h k =
      let other : u ≢ a = (λ e. grind (arith, ok.members.once i j a, e)) in
      grind (arith, ok.links.last i u h k, link-same u, ok.members.inside i u h)

  link-hand : (u : Waiter) (n : NodeName) → phase' u ≡ Hands n
      → (v : Waiter) × (slice_get main 1 ≡ Some v) × (phase' v ≡ Waits) × (own v ≡ n)
  link-hand u n h =
      let s : phase u ≡ Hands n = grind (arith, waiter_cases u w, moves.others u, moves.now) in
      let r = ok.links.hand u n s in
      (r.0, r.1, grind (arith, waiter_cases r.0 w, moves.others r.0, moves.now, r), r.3)

  link-fresh : (u : Waiter) → phase' u ≡ Prepared → node' (own u) ≡ rest_node
  link-fresh u h =
      let s : phase u ≡ Prepared = grind (arith, waiter_cases u w, moves.others u, moves.now) in
      let other : u ≢ a = (λ e. grind (arith, ok.members.inside j a at_a, e)) in
      grind (arith, ok.links.fresh u s, link-same u)

  pub queue_link_at : QueueAgrees tail phase' own node' main
  queue_link_at =
      record {
        members = record {
          inside = link-inside;
          place = link-place;
          once = ok.members.once;
        };
        ends = record {
          no_tail = ok.ends.no_tail;
          tail_is = ok.ends.tail_is;
          first = link-first;
          behind = link-behind;
        };
        links = record {
          linked = link-linked;
          linking = link-linking;
          last = link-last;
          hand = link-hand;
          fresh = link-fresh;
        };
      }
