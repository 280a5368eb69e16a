-- The queue, where its front goes on; and what the front knows.
use Rattle.std.proofs.Common.{◌≡◌, ◌≢◌, ℕ, zero, suc, Option, Some, true, List, ◌⊎◌, inl, inr}
use Rattle.std.proofs.Common.{arith, slice_get, refl}
use Rattle.lk_law.proofs.Names.{NodeName, get_cases, Waiter, Node, Phase, follows, leads, queues}
use Rattle.lk_law.proofs.Names.{Hands, Links, Waits, Moves, QueueAgrees}
use Rattle.lk_law.proofs.common.Cases.{waiter_cases}

-- who leads the queue is its first
pub lead_first : {tail : Option NodeName} {phase : Waiter → Phase} {own : Waiter → NodeName}
    {node : NodeName → Node} {main : List Waiter}
    → QueueAgrees tail phase own node main → (w : Waiter)
    → leads (phase w) ((node (own w)).flag) ≡ true → slice_get main 0 ≡ Some w
lead_first {phase = phase} {main = main} ok w lead =
    let q : queues (phase w) ≡ true = grind arith in
    let at = ok.members.place w q in
    go at.0 at.1
  where
    go : (i : ℕ) → slice_get main i ≡ Some w → slice_get main 0 ≡ Some w
    go zero h = h
    go (suc i) h = let b = ok.ends.behind i w h in absurd (grind (arith, b, lead))

-- the head moves on, and stays the head
module _ {tail : Option NodeName} {phase phase' : Waiter → Phase} {own : Waiter → NodeName}
    {node : NodeName → Node} {main : List Waiter} {w : Waiter}
    {r r' : Phase}
    (ok : QueueAgrees tail phase own node main) (moves : Moves phase phase' w r r')
    (lead : leads r ((node (own w)).flag) ≡ true) (lead' : leads r' ((node (own w)).flag) ≡ true)
    (not_waits : r' ≢ Waits)
    (hand : (n : NodeName) → r' ≡ Hands n
    → (v : Waiter) × (slice_get main 1 ≡ Some v) × (phase v ≡ Waits) × (own v ≡ n)) where
  lead-at : slice_get main 0 ≡ Some w
  lead-at = lead_first ok w (grind (arith, moves.was))

  lead-not_behind : (i : ℕ) → slice_get main (suc i) ≡ Some w → ⊥
  lead-not_behind i h = grind (arith, ok.members.once (suc i) 0 w h lead-at)

  pub queue_lead : QueueAgrees tail phase' own node main
  queue_lead =
      record {
        members = record {
          inside = λ i u h.
              grind (arith, ok.members.inside i u h, waiter_cases u w, moves.others u, moves.now);
          place = λ u h.
              ok.members.place u (grind (arith, waiter_cases u w, moves.others u, moves.was));
          once = ok.members.once;
        };
        ends = record {
          no_tail = ok.ends.no_tail;
          tail_is = ok.ends.tail_is;
          first = λ u h. grind (arith, ok.ends.first u h, lead-at, moves.now);
          behind = λ i u h.
              grind
              (arith, ok.ends.behind i u h, waiter_cases u w, moves.others u, lead-not_behind i);
        };
        links = record {
          linked = λ i u v h k p.
              grind (
                arith,
                ok.links.linked i u v h k,
                waiter_cases v w,
                moves.others v,
                lead-not_behind i,
              );
          linking = λ i u v n h k p.
              grind (
                arith,
                ok.links.linking i u v n h k,
                waiter_cases v w,
                moves.others v,
                lead-not_behind i,
              );
          last = ok.links.last;
          hand = λ u n p. elim (waiter_cases u w) [
            | inl e ↦ let s = hand n (grind (arith, moves.now)) in (
              s.0,
              s.1,
              grind (arith, waiter_cases s.0 w, moves.others s.0, lead-not_behind 0, s),
              s.3,
            )
            | inr ne ↦ let s = ok.links.hand u n (grind (arith, moves.others u)) in (
              s.0,
              s.1,
              grind (arith, waiter_cases s.0 w, moves.others s.0, lead-not_behind 0, s),
              s.3,
            )
          ];
          fresh =
              λ u p. grind (arith, ok.links.fresh u, waiter_cases u w, moves.others u, moves.now);
        };
      }

pub follows_cases : (r : Phase) → follows r ≡ true → ((n : NodeName) × (r ≡ Links n)) ⊎ (r ≡ Waits)
follows_cases Waits h = inr refl
follows_cases (Links n) h = inl (n, refl)
follows_cases _ h = cc

-- the head's next node is that of the second waiter, which waits
pub second_is : {tail : Option NodeName} {phase : Waiter → Phase} {own : Waiter → NodeName}
    {node : NodeName → Node} {main : List Waiter}
    → QueueAgrees tail phase own node main → (w : Waiter) (n : NodeName) → slice_get main 0 ≡ Some w
    → (node (own w)).next ≡ Some n
    → (v : Waiter) × (slice_get main 1 ≡ Some v) × (phase v ≡ Waits) × (own v ≡ n)
second_is {phase = phase} {main = main} ok w n at next =
    elim (get_cases main 1) [
      | inl none ↦ absurd (grind (arith, ok.links.last 0 w at none))
      | inr s ↦ elim (follows_cases (phase s.0) (ok.ends.behind 0 s.0 s.1).0) [
        | inl m ↦ absurd (grind (arith, ok.links.linking 0 w s.0 m.0 at s.1 m.1))
        | inr e ↦ (s.0, s.1, e, grind (arith, ok.links.linked 0 w s.0 at s.1 e))
      ]
    ]
