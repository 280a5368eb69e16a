-- The one that leads looks on in its search: what it knows of the queue, and the lists after a look
-- that stores nothing.
use Rattle.std.proofs.Common.{◌≡◌, ◌≢◌, ℕ, suc, Option, Some, None, Bool, true, false, List, []}
use Rattle.std.proofs.Common.{◌∷◌, ◌⊎◌, inl, inr, arith, ap, refl, sym, ◌∙◌, subst, ◌<◌, slice_get}
use Rattle.lk_law.proofs.Names.{NodeName, get_cases, Waiter, rest_node, Node, CnaAgrees}
use Rattle.lk_law.proofs.Names.{FrontAgrees, SecondAgrees, first_node, front_cut, front_tip}
use Rattle.lk_law.proofs.Names.{named_by, part, shown, Phase, queues, Holds, Prepared, Waits}
use Rattle.lk_law.proofs.Names.{QueueAgrees, Stage, cut_of, hangs, passed_over, tied, tip_of, Picks}
use Rattle.lk_law.proofs.cna.Front.{front_lead, front_queue, front_second}
use Rattle.lk_law.proofs.cna.Parts.{part_out, shown_at, shown_else, shown_flag}
use Rattle.lk_law.proofs.{common.Cases.node_cases, queue.Lead.follows_cases}

-- the flags and links that the queue reads stay
pub queue_same : {tail : Option NodeName} {phase : Waiter → Phase} {own : Waiter → NodeName}
    {node node' : NodeName → Node} {main : List Waiter}
    → QueueAgrees tail phase own node main
    → ((u : Waiter) → queues (phase u) ≡ true
    → ((node' (own u)).flag ≡ (node (own u)).flag)
    × ((node' (own u)).next ≡ (node (own u)).next))
    → ((u : Waiter) → phase u ≡ Prepared → node' (own u) ≡ rest_node)
    → QueueAgrees tail phase own node' main
queue_same ok same new =
    record {
      members = record {
        inside = ok.members.inside;
        place = ok.members.place;
        once = ok.members.once;
      };
      ends = record {
        no_tail = ok.ends.no_tail;
        tail_is = ok.ends.tail_is;
        first = λ u h.
            let q = ok.ends.first u h in let s = same u (ok.members.inside 0 u h) in rw s.0 q;
        behind = λ i u h. let q = ok.ends.behind i u h in
            let s = same u (ok.members.inside (suc i) u h) in (q.0, s.0 ∙ q.1);
      };
      links = record {
        linked = λ i u v h k p. (same u (ok.members.inside i u h)).1 ∙ ok.links.linked i u v h k p;
        linking = λ i u v n h k p. let q = ok.links.linking i u v n h k p in
            (q.0, (same u (ok.members.inside i u h)).1 ∙ q.1);
        last = λ i u h k. (same u (ok.members.inside i u h)).1 ∙ ok.links.last i u h k;
        hand = ok.links.hand;
        fresh = new;
      };
    }

-- whom a node of the queue names next
pub next_at : {tail : Option NodeName} {phase : Waiter → Phase} {own : Waiter → NodeName}
    {node : NodeName → Node} {main : List Waiter}
    → QueueAgrees tail phase own node main → (i : ℕ) (w : Waiter) (n : NodeName)
    → slice_get main i ≡ Some w → (node (own w)).next ≡ Some n
    → (v : Waiter) × (slice_get main (suc i) ≡ Some v) × (phase v ≡ Waits) × (own v ≡ n)
next_at {phase = phase} {own = own} {main = main} ok i w n at next =
    elim (get_cases main (suc i)) [
      | inl none ↦ absurd (let e = ok.links.last i w at none in cc (e, next))
      | inr s ↦ elim (follows_cases (phase s.0) (ok.ends.behind i s.0 s.1).0) [
        | inl m ↦ absurd (let e = (ok.links.linking i w s.0 m.0 at s.1 m.1).1 in cc (e, next))
        | inr e ↦ (
          s.0,
          s.1,
          e,
          (let l = ok.links.linked i w s.0 at s.1 e in
              let q : Some (own s.0) ≡ Some n = sym l ∙ next in cc q),
        )
      ]
    ]

-- the one that leads goes to another place of its search; the lists stay
module _ {tail : Option NodeName} {phase : Waiter → Phase} {own : Waiter → NodeName}
    {node node' : NodeName → Node} {local : Waiter → Waiter → Bool} {threshold : ℕ}
    {stage stage' : Waiter → Stage} {kept kept' : Waiter
    → Option NodeName} {main second : List Waiter}
    {passes : List ℕ} {w : Waiter}
    (ok : CnaAgrees tail phase own node local threshold stage kept main second passes)
    (at_w : slice_get main 0 ≡ Some w) (owner : phase w ≡ Holds)
    (stages : (u : Waiter) → u ≢ w → stage' u ≡ stage u) where
  pub stage_turn : QueueAgrees tail (part second phase) own
      (shown (cut_of (own w) (stage' w)) node') main
      → SecondAgrees phase own node' second (tip_of (stage' w))
      → FrontAgrees phase own node' local threshold main second passes w (stage' w) (kept' w)
      → CnaAgrees tail phase own node' local threshold stage' kept' main second passes
  stage_turn queue second_ok lead =
      record {
        queue = let e : front_cut own stage' (slice_get main 0) ≡ cut_of (own w) (stage' w) =
            rw at_w refl in rw e queue;
        second_ok = let e : front_tip stage' (slice_get main 0) ≡ tip_of (stage' w) =
            rw at_w refl in rw e second_ok;
        moved = ok.moved;
        lead = λ u h.
            let same : w ≡ u = grind (arith, h, at_w) in
            let P : Waiter → Type 0 =
            λ z. FrontAgrees phase own node' local threshold main second passes z (stage' z)
            (named_by (phase z) ((node' (own z)).flag) (kept' z)) in
            subst P same (rw owner lead);
        lengths = ok.lengths;
        empty = ok.empty;
        calm = λ u h. let ne : u ≢ w = (λ e. h (ap phase e ∙ owner)) in stages u ne ∙ ok.calm u h;
      }

pub skip-k : (a b : NodeName) (k : ℕ) (c d : NodeName) (j : ℕ)
    → ◌≡◌ {A = Option (NodeName × NodeName × ℕ)} (Some (a, b, k)) (Some (c, d, j))
    → (a ≡ c) × (b ≡ d) × (k ≡ j)
skip-k a b k c d j p =
    let q : ◌≡◌ {A = NodeName × NodeName × ℕ} (a, b, k) (c, d, j) = cc p in (
      ap (λ (r : NodeName × NodeName × ℕ). r.0) q,
      ap (λ (r : NodeName × NodeName × ℕ). r.1) q,
      ap (λ (r : NodeName × NodeName × ℕ). r.2) q,
    )

pub pick-k : (k : ℕ) (y : NodeName) (j : ℕ) (z : NodeName)
    → ◌≡◌ {A = Option (ℕ × NodeName)} (Some (k, y)) (Some (j, z)) → (k ≡ j) × (y ≡ z)
pick-k k y j z p =
    let q : ◌≡◌ {A = ℕ × NodeName} (k, y) (j, z) = cc p in
    (ap (λ (r : ℕ × NodeName). r.0) q, ap (λ (r : ℕ × NodeName). r.1) q)

pub look-some : (own : Waiter → NodeName) (ws : List Waiter) (n : NodeName)
    → first_node own ws ≡ Some n → ws ≢ []
look-some own [] n h e = cc h
look-some own (z ∷ ws) n h e = cc e

pub look-named : (own : Waiter → NodeName) (ws : List Waiter) (u : Waiter) (n : NodeName)
    → slice_get ws 0 ≡ Some u → first_node own ws ≡ Some n → own u ≡ n
look-named own [] u n h g = cc h
look-named own (z ∷ ws) u n h g =
    let e : z ≡ u = cc h in let f : own z ≡ n = cc g in ap own (sym e) ∙ f

-- what the one that leads knows of the queue and of those that it has passed over
module _ {tail : Option NodeName} {phase : Waiter → Phase} {own : Waiter → NodeName}
    {node : NodeName → Node} {local : Waiter → Waiter → Bool} {threshold : ℕ}
    {stage : Waiter → Stage} {kept : Waiter → Option NodeName} {main second : List Waiter}
    {passes : List ℕ} {w : Waiter}
    (ok : CnaAgrees tail phase own node local threshold stage kept main second passes)
    (at_w : slice_get main 0 ≡ Some w) (owner : phase w ≡ Holds) where
  -- a node behind main's i-th, as the nodes have it
  pub look-next : (g : Stage) → stage w ≡ g → cut_of (own w) g ≡ None
      → (i : ℕ) (u : Waiter) (n : NodeName) → slice_get main i ≡ Some u
      → (node (own u)).next ≡ Some n
      → (v : Waiter) × (slice_get main (suc i) ≡ Some v) × (phase v ≡ Waits) × (own v ≡ n)
  look-next g e cut i u n at next =
      let q : QueueAgrees tail (part second phase) own node main =
      rw cut at (front_queue ok at_w owner e) in
      let r = next_at q i u n at next in
      (r.0, r.1, sym (part_out second phase r.0 (rw r.2 refl)).0 ∙ r.2, r.3)

  -- the first and the last of those passed over
  pub look-a : (a b : NodeName) (k : ℕ) (g : Stage) → stage w ≡ g → passed_over g ≡ Some (a, b, k)
      → (u : Waiter) × (slice_get main 1 ≡ Some u) × (phase u ≡ Waits) × (own u ≡ a)
  look-a a b k g is sk =
      let o = front_lead ok at_w owner is in
      let m = o.some a b k sk in
      let e = m.1 in
      let f = o.far a b k 0 sk (omega arith) in
      (f.0, f.1, f.2, o.near a b k f.0 sk f.1)

  pub look-b : (a b : NodeName) (k : ℕ) (g : Stage) → stage w ≡ g → passed_over g ≡ Some (a, b, k)
      → (u : Waiter) × (slice_get main k ≡ Some u) × (own u ≡ b) × (phase u ≡ Waits)
  look-b a b k g is sk =
      let o = front_lead ok at_w owner is in
      let m = o.some a b k sk in
      let e = m.1 in
      let f = o.far a b k m.0 sk (omega arith) in
      let h : slice_get main k ≡ Some f.0 = ap (slice_get main) e ∙ f.1 in
      (f.0, h, o.close a b k f.0 sk h, f.2)

-- it looks on: no word and no node changes
module _ {tail : Option NodeName} {phase : Waiter → Phase} {own : Waiter → NodeName}
    {node : NodeName → Node} {local : Waiter → Waiter → Bool} {threshold : ℕ}
    {stage stage' : Waiter → Stage} {kept kept' : Waiter
    → Option NodeName} {main second : List Waiter}
    {passes : List ℕ} {w : Waiter}
    (ok : CnaAgrees tail phase own node local threshold stage kept main second passes)
    (at_w : slice_get main 0 ≡ Some w) (owner : phase w ≡ Holds)
    (stages : (u : Waiter) → u ≢ w → stage' u ≡ stage u) where
  -- a look from the stage g to g', both without a cut and with one tip
  pub look-turn : (g g' : Stage) → stage w ≡ g → stage' w ≡ g'
      → cut_of (own w) g' ≡ cut_of (own w) g → (tip_of g' ≡ tip_of g) ⊎ (second ≡ [])
      → FrontAgrees phase own node local threshold main second passes w g' (kept' w)
      → CnaAgrees tail phase own node local threshold stage' kept' main second passes
  look-turn g g' e e' cut tip lead =
      stage_turn {node' = node} {kept' = kept'} ok at_w owner stages
      (rw (e', cut) (front_queue ok at_w owner e))
      (elim tip [
        | inl t ↦ rw (e', t) (front_second ok at_w owner e)
        | inr em ↦
            rw em (record {
              waits = λ i u h. cc h;
              once = λ i j u h. cc h;
              linked = λ i u v h. cc h;
              last = λ i u h. cc h;
            })
      ])
      (rw e' lead)

  -- the next is known, and nobody is moved
  pub look-pick : (g : Stage) (n : NodeName) → stage w ≡ g → stage' w ≡ Picks n
      → cut_of (own w) g ≡ None → tip_of g ≡ None → tied g ≡ false → hangs g ≡ None
      → kept' w ≡ kept w
      → (v : Waiter) × (slice_get main 1 ≡ Some v) × (phase v ≡ Waits) × (own v ≡ n)
      → ((m : NodeName) → kept' w ≡ Some m → (node (own w)).runs < threshold)
      → FrontAgrees phase own node local threshold main second passes w g (kept w)
      → CnaAgrees tail phase own node local threshold stage' kept' main second passes
  look-pick g n is now cut tip tie hang same v short o =
      let q : QueueAgrees tail (part second phase) own node main =
      rw cut at (front_queue ok at_w owner is) in
      let c : SecondAgrees phase own node second None = rw tip at (front_second ok at_w owner is) in
      let there : (node (own w)).next ≡ Some n =
      q.links.linked 0 w v.0 at_w v.1
      ((part_out second phase v.0 (q.members.inside 1 v.0 v.1)).0 ∙ v.2)
      ∙ ap (λ m. Some m) v.3 in
      stage_turn {node' = node} {kept' = kept'} ok at_w owner stages
      (rw now (queue_same q
      (λ u h. (shown_flag (Some (own w, n)) node (own u), next-same n there (own u)))
      (λ u h. all-same n there (own u) ∙ q.links.fresh u h)))
      (rw now c)
      (rw (now, same) (
      record {
        names = λ p. o.names (inl tie);
        names_moved = λ c d j p q r. cc p;
        tail_at = λ i u z p. o.tail_at i u z hang;
        tail_hung = λ c n p q. cc p;
        tail_met = λ t i z p. cc p;
        tail_some = λ t p. cc p;
        run = o.run;
        run_none = λ p q. cc q;
        run_short = λ c d j p. cc p;
        run_picks = λ m p e. short m (same ∙ e);
        own_link = λ m p e.
            (0, v.0, v.1, v.2, v.3 ∙ (let r : Some n ≡ Some m = sym there ∙ e in let f : n ≡ m = cc r in f));
        run_next = λ z p. cc p;
        some = λ c d j p. cc p;
        far = λ c d j i p. cc p;
        near = λ c d j u p. cc p;
        close = λ c d j u p. cc p;
        cut = λ c p. cc p;
        next = λ j z p. let e = pick-k 0 n j z p in
            (v.0, subst (λ (m : ℕ). slice_get main (suc m) ≡ Some v.0) e.0 v.1, v.2, v.3 ∙ e.1);
        kin = λ c d j m z p q. cc p;
        before = λ c p. cc p;
        lengths = o.lengths;
        oldest = o.oldest;
        bounded = o.bounded;
      }))
    where
      all-same : (n : NodeName) → (node (own w)).next ≡ Some n → (m : NodeName)
          → shown (Some (own w, n)) node m ≡ node m
      all-same n there m =
          elim (node_cases m (own w)) [
            | inl e ↦ shown_at (own w) n node m e ∙ rw (e, sym there) refl
            | inr ne ↦ shown_else (own w) n node m ne
          ]

      next-same : (n : NodeName) → (node (own w)).next ≡ Some n → (m : NodeName)
          → (shown (Some (own w, n)) node m).next ≡ (node m).next
      next-same n there m = ap (λ (x : Node). x.next) (all-same n there m)
