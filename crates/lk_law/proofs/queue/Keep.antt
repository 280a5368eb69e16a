-- The queue, where nothing changes that it reads.
use Rattle.std.proofs.Common.{◌≡◌, suc, Option, true, List, arith}
use Rattle.lk_law.proofs.Names.{NodeName, Waiter, rest_node, Node, Phase, queues, Prepared}
use Rattle.lk_law.proofs.Names.{QueueAgrees}

-- nothing changes that the queue reads
pub queue_keep : {tail : Option NodeName} {phase phase' : Waiter → Phase}
    {own own' : Waiter → NodeName} {node node' : NodeName → Node} {main : List Waiter}
    → QueueAgrees tail phase own node main
    → ((u : Waiter) → queues (phase u) ≡ true
    → (phase' u ≡ phase u) × (own' u ≡ own u) × (node' (own' u) ≡ node (own u)))
    → ((u : Waiter) → queues (phase' u) ≡ true → phase' u ≡ phase u)
    → ((u : Waiter) → phase' u ≡ Prepared → node' (own' u) ≡ rest_node)
    → QueueAgrees tail phase' own' node' main
queue_keep {phase = phase} {phase' = phase'} ok same back new =
    record {
      members = record {
        inside = λ i u h. grind (arith, ok.members.inside i u, same u);
        place = λ u h. let e = back u h in ok.members.place u (grind arith);
        once = ok.members.once;
      };
      ends = record {
        no_tail = ok.ends.no_tail;
        tail_is = λ i u h k. grind (arith, ok.ends.tail_is i u, ok.members.inside i u, same u);
        first = λ u h. grind (arith, ok.ends.first u, ok.members.inside 0 u, same u);
        behind = λ i u h. grind (arith, ok.ends.behind i u, ok.members.inside (suc i) u, same u);
      };
      links = record {
        linked = λ i u v h k r.
            grind (
              arith,
              ok.links.linked i u v,
              ok.members.inside i u,
              same u,
              ok.members.inside
                  (suc i) v,
              same v,
            );
        linking = λ i u v n h k r.
            grind (
              arith,
              ok.links.linking i u v n,
              ok.members.inside i u,
              same u,
              ok.members.inside (suc i) v,
              same v,
            );
        last = λ i u h k. grind (arith, ok.links.last i u, ok.members.inside i u, same u);
        hand = λ u n h.
            let b : phase' u ≡ phase u = grind (arith, back u) in
            let r = ok.links.hand u n (grind arith) in
            (r.0, r.1, grind (arith, same r.0, r), grind (arith, same r.0, r));
        fresh = new;
      };
    }
