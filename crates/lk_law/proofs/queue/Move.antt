use Rattle.std.proofs.Common.{◌≡◌, ℕ, suc, Option, Some, None, true, false, List, inl, inr, arith}
use Rattle.std.proofs.Common.{ap, sym, ◌∙◌, ◌≤◌, ◌+◌, ◌-◌, slice_get, drop}
use Rattle.lk_law.proofs.Names.{cases_lt, NodeName, Waiter, rest_node, Node, Phase, leads, queues}
use Rattle.lk_law.proofs.Names.{Hands, Prepared, Waits, QueueAgrees}
use Rattle.lk_law.proofs.cna.Joined.{get-drop}

-- The front leaves and the k waiters behind it go aside; v, behind them, leads.
pub record GoesAside (phase phase' : Waiter → Phase) (own own' : Waiter → NodeName)
    (node node' : NodeName → Node) (main : List Waiter) (k : ℕ) (v : Waiter) : Type 0 where
  pub place : slice_get main (k + 1) ≡ Some v
  pub waits : phase v ≡ Waits
  pub told : leads Waits ((node' (own v)).flag) ≡ true
  pub gone : (i : ℕ) (u : Waiter)
      → i ≤ k
      → slice_get main i ≡ Some u
      → queues (phase' u) ≡ false
  pub stays : (i : ℕ) (u : Waiter)
      → slice_get main (k + 1 + i) ≡ Some u
      → (phase' u ≡ phase u) × (own' u ≡ own u) × ((node' (own' u)).next ≡ (node (own u)).next)
  pub flags : (i : ℕ) (u : Waiter)
      → slice_get main (k + 1 + suc i) ≡ Some u
      → (node' (own' u)).flag ≡ (node (own u)).flag
  pub others : (u : Waiter) → queues (phase' u) ≡ true → queues (phase u) ≡ true
  pub fresh : (u : Waiter) → phase' u ≡ Prepared → node' (own' u) ≡ rest_node

module _ {tail : Option NodeName} {phase phase' : Waiter → Phase} {own own' : Waiter → NodeName}
    {node node' : NodeName → Node} {main : List Waiter} {k : ℕ} {v : Waiter}
    (ok : QueueAgrees tail phase own node main)
    (step : GoesAside phase phase' own own' node node' main k v) where
  move-place : (u : Waiter) → queues (phase' u) ≡ true
      → (i : ℕ) × (slice_get main (k + 1 + i) ≡ Some u)
  move-place u h =
      let p = ok.members.place u (step.others u h) in
      elim (cases_lt k p.0) [
        | inl lt ↦ (p.0 - (k + 1), let e : k + 1 + (p.0 - (k + 1)) ≡ p.0 = omega arith in rw e p.1)
        | inr ge ↦ absurd (let z = step.gone p.0 u ge p.1 in grind (arith, z, h))
      ]

  move-first : (u : Waiter) → slice_get main (k + 1 + 0) ≡ Some u
      → leads (phase' u) ((node' (own' u)).flag) ≡ true
  move-first u h =
      let e : k + 1 + 0 ≡ k + 1 = omega arith in
      let h' : slice_get main (k + 1) ≡ Some u = rw e at h in
      let same : u ≡ v = grind (arith, h', step.place) in
      let s = step.stays 0 u h in
      let o : own' u ≡ own v = s.1 ∙ ap own same in
      let r : phase' u ≡ Waits = s.0 ∙ ap phase same ∙ step.waits in
      rw (r, o) step.told

  move-no_hand : (u : Waiter) (n : NodeName) → phase' u ≡ Hands n → ⊥
  move-no_hand u n p =
      let at = move-place u (grind (arith, p)) in
      go u n p at.0 at.1
    where
      go : (u : Waiter) (n : NodeName) → phase' u ≡ Hands n → (i : ℕ)
          → slice_get main (k + 1 + i) ≡ Some u → ⊥
      go u n p i h =
          let s = step.stays i u h in
          let e : k + 1 + i ≡ suc (k + i) = omega arith in
          let h' : slice_get main (suc (k + i)) ≡ Some u = rw e at h in
          let b = ok.ends.behind (k + i) u h' in grind (arith, b, s.0, p)

  move-next : (i : ℕ) → k + 1 + suc i ≡ suc (k + 1 + i)
  move-next i = omega arith

  pub queue_move : QueueAgrees tail phase' own' node' (drop (suc k) main)
  queue_move =
      record {
        members = record {
          inside = λ i u h. let h' = at_drop i u h in let s = step.stays i u h' in
              let q = ok.members.inside (k + 1 + i) u h' in grind (arith, s.0, q);
          place = λ u h. let p = move-place u h in (
            p.0,
            let e : suc k + p.0 ≡ k + 1 + p.0 = omega arith in
                get-drop (suc k) main p.0 ∙ ap (slice_get main) e ∙ p.1,
          );
          once = λ i j u h g.
              let e = ok.members.once (k + 1 + i) (k + 1 + j) u (at_drop i u h) (at_drop j u g) in
              omega arith;
        };
        ends = record {
          no_tail = λ h.
              absurd (let e = get-drop (suc k) main 0 in let f : suc k + 0 ≡ k + 1 = omega arith in
              let g = ap (slice_get main) f in grind (arith, e, g, h, step.place));
          tail_is = λ i u h g. let h' = at_drop i u h in let s = step.stays i u h' in
              let t = ok.ends.tail_is (k + 1 + i) u h' (end_drop i g) in
              t ∙ ap (λ n. Some n) (sym s.1);
          first = λ u h. move-first u (at_drop 0 u h);
          behind = λ i u h.
              let h' = at_drop (suc i) u h in let s = step.stays (suc i) u h' in
              let f = step.flags i u h' in
              let h'' : slice_get main (suc (k + 1 + i)) ≡ Some u = rw move-next at h' in
              let b = ok.ends.behind (k + 1 + i) u h'' in (grind (arith, b.0, s.0), f ∙ b.1);
        };
        links = record {
          linked = λ i u v h g p.
              let h' = at_drop i u h in let g' = at_drop (suc i) v g in let s = step.stays i u h' in
              let t = step.stays (suc i) v g' in
              let g'' : slice_get main (suc (k + 1 + i)) ≡ Some v = rw move-next at g' in
              s.2 ∙ ok.links.linked (k + 1 + i) u v h' g'' (sym t.0 ∙ p)
              ∙ ap (λ n. Some n) (sym t.1);
          linking = λ i u v n h g p.
              let h' = at_drop i u h in let g' = at_drop (suc i) v g in let s = step.stays i u h' in
              let t = step.stays (suc i) v g' in
              let g'' : slice_get main (suc (k + 1 + i)) ≡ Some v = rw move-next at g' in
              let r = ok.links.linking (k + 1 + i) u v n h' g'' (sym t.0 ∙ p) in
              (r.0 ∙ sym s.1, s.2 ∙ r.1);
          last = λ i u h g. let h' = at_drop i u h in let s = step.stays i u h' in
              s.2 ∙ ok.links.last (k + 1 + i) u h' (end_drop i g);
          hand = λ u n p. absurd (move-no_hand u n p);
          fresh = step.fresh;
        };
      }
    where
      at_drop : (i : ℕ) (u : Waiter) → slice_get (drop (suc k) main) i ≡ Some u
          → slice_get main (k + 1 + i) ≡ Some u
      at_drop i u h = let e : k + 1 + i ≡ suc k + i = omega arith in
          ap (slice_get main) e ∙ sym (get-drop (suc k) main i) ∙ h

      end_drop : (i : ℕ) → slice_get (drop (suc k) main) (suc i) ≡ None
          → slice_get main (suc (k + 1 + i)) ≡ None
      end_drop i g = let e : suc (k + 1 + i) ≡ suc k + suc i = omega arith in
          ap (slice_get main) e ∙ sym (get-drop (suc k) main (suc i)) ∙ g
