-- The lists after C1 and C2: the one that leads passes over waiters, meets a local one, or
-- gives up.
use Rattle.std.proofs.Common.{◌≡◌, ◌≢◌, ℕ, suc, Option, Some, None, Bool, true, false, List, []}
use Rattle.std.proofs.Common.{◌⊎◌, inl, inr, arith, ap, refl, sym, ◌∙◌, subst, ◌<◌, slice_get}
use Rattle.lk_law.proofs.Names.{cases_lt, NodeName, Waiter, Node, CnaAgrees, Phase, Holds, Waits}
use Rattle.lk_law.proofs.Names.{Stage, Flushes, Meets, Picks, Promotes, Rests, Skips, Ties}
use Rattle.lk_law.proofs.cna.Front.{front_lead}
use Rattle.lk_law.proofs.cna.Look.{skip-k, pick-k, look-next, look-a, look-b, look-turn, look-pick}
use Rattle.lk_law.proofs.cna.Parts.{nobody-first}

module _ {tail : Option NodeName} {phase : Waiter → Phase} {own : Waiter → NodeName}
    {node : NodeName → Node} {local : Waiter → Waiter → Bool} {threshold : ℕ}
    {stage stage' : Waiter → Stage} {kept kept' : Waiter
    → Option NodeName} {main second : List Waiter}
    {passes : List ℕ} {w : Waiter}
    (ok : CnaAgrees tail phase own node local threshold stage kept main second passes)
    (at_w : slice_get main 0 ≡ Some w) (owner : phase w ≡ Holds)
    (stages : (u : Waiter) → u ≢ w → stage' u ≡ stage u) where
  -- C1 meets a waiter that is not local
  pub c1_skip : (n : NodeName) → stage w ≡ Rests → stage' w ≡ Skips n n 1 → kept' w ≡ kept w
      → (node (own w)).next ≡ Some n → ((u : Waiter) → phase u ≡ Waits → own u ≡ n → local w u ≡ false)
      → (node (own w)).runs < threshold
      → CnaAgrees tail phase own node local threshold stage' kept' main second passes
  c1_skip n is now same next far short =
      let v = look-next ok at_w owner Rests is refl 0 w n at_w next in
      let o = front_lead ok at_w owner is in
      look-turn ok at_w owner stages Rests (Skips n n 1) is now refl (inl refl) (rw same (
      record {
        names = o.names;
        names_moved = λ c d j p q r. cc p;
        tail_at = o.tail_at;
        tail_hung = λ c n p q. cc p;
        tail_met = λ t i z p. cc p;
        tail_some = λ t p. cc p;
        run = o.run;
        run_none = o.run_none;
        run_short = λ c d j p. short;
        run_picks = λ n p q. cc p;
        own_link = λ n p. cc p;
        run_next = λ z p. cc p;
        some = λ c d j p. let k = skip-k n n 1 c d j p in (0, sym k.2);
        far = λ c d j i p lt. let k = skip-k n n 1 c d j p in
            let z : i ≡ 0 = (let e = k.2 in omega arith) in (v.0, rw z v.1, v.2, far v.0 v.2 v.3);
        near = λ c d j u p h. let k = skip-k n n 1 c d j p in let e : v.0 ≡ u = cc (v.1, h) in
            ap own (sym e) ∙ v.3 ∙ k.0;
        close = λ c d j u p h. let k = skip-k n n 1 c d j p in
            let h1 : slice_get main 1 ≡ Some u =
            subst (λ (z : ℕ). slice_get main z ≡ Some u) (sym k.2) h in
            let e : v.0 ≡ u = cc (v.1, h1) in ap own (sym e) ∙ v.3 ∙ k.1;
        cut = λ c p. cc p;
        next = λ j z p. cc p;
        kin = λ c d j m z p q. cc p;
        before = λ c p. cc p;
        lengths = o.lengths;
        oldest = o.oldest;
        bounded = o.bounded;
      }))

  -- C2 meets a waiter that is not local
  pub c2_skip : (a b n : NodeName) (k : ℕ) → stage w ≡ Skips a b k → stage' w ≡ Skips a n (suc k)
      → kept' w ≡ kept w → (node b).next ≡ Some n
      → ((u : Waiter) → phase u ≡ Waits → own u ≡ n → local w u ≡ false)
      → CnaAgrees tail phase own node local threshold stage' kept' main second passes
  c2_skip a b n k is now same next away =
      let o = front_lead ok at_w owner is in
      let z = look-b ok at_w owner a b k (Skips a b k) is refl in
      let v = look-next ok at_w owner (Skips a b k) is refl k z.0 n z.1 (rw z.2 next) in
      look-turn ok at_w owner stages (Skips a b k) (Skips a n (suc k)) is now refl (inl refl)
      (rw same (
      record {
        names = o.names;
        names_moved = λ c d j p q r. cc p;
        tail_at = o.tail_at;
        tail_hung = λ c n p q. cc p;
        tail_met = λ t i z p. cc p;
        tail_some = λ t p. cc p;
        run = o.run;
        run_none = o.run_none;
        run_short = λ c d j p. o.run_short a b k refl;
        run_picks = λ n p q. cc p;
        own_link = λ n p. cc p;
        run_next = λ z p. cc p;
        some = λ c d j p. let e = skip-k a n (suc k) c d j p in (k, sym e.2);
        far = λ c d j i p lt. let e = skip-k a n (suc k) c d j p in let f = e.2 in
            elim (cases_lt i k) [
              | inl less ↦ o.far a b k i refl less
              | inr ge ↦ let z : i ≡ k = omega arith in (v.0, rw z v.1, v.2, away v.0 v.2 v.3)
            ];
        near = λ c d j u p h. let e = skip-k a n (suc k) c d j p in o.near a b k u refl h ∙ e.0;
        close = λ c d j u p h. let e = skip-k a n (suc k) c d j p in
            let h1 : slice_get main (suc k) ≡ Some u =
            subst (λ (z : ℕ). slice_get main z ≡ Some u) (sym e.2) h in
            let f : v.0 ≡ u = cc (v.1, h1) in ap own (sym f) ∙ v.3 ∙ e.1;
        cut = λ c p. cc p;
        next = λ j z p. cc p;
        kin = λ c d j m z p q. cc p;
        before = λ c p. cc p;
        lengths = o.lengths;
        oldest = o.oldest;
        bounded = o.bounded;
      }))

  -- C2 meets a local waiter, and second has waiters
  pub c2_meet : (a b n : NodeName) (k : ℕ) → stage w ≡ Skips a b k → stage' w ≡ Meets a b k n
      → kept' w ≡ kept w → (node b).next ≡ Some n
      → ((u : Waiter) → phase u ≡ Waits → own u ≡ n → local w u ≡ true)
      → CnaAgrees tail phase own node local threshold stage' kept' main second passes
  c2_meet a b n k is now same next near =
      let o = front_lead ok at_w owner is in
      let z = look-b ok at_w owner a b k (Skips a b k) is refl in
      let v = look-next ok at_w owner (Skips a b k) is refl k z.0 n z.1 (rw z.2 next) in
      look-turn ok at_w owner stages (Skips a b k) (Meets a b k n) is now refl (inl refl) (rw same (
      record {
        names = o.names;
        names_moved = λ c d j p q r. cc p;
        tail_at = o.tail_at;
        tail_hung = λ c n p q. cc p;
        tail_met = λ t i z p. cc p;
        tail_some = λ t p. cc p;
        run = o.run;
        run_none = o.run_none;
        run_short = o.run_short;
        run_picks = λ n p q. cc p;
        own_link = λ n p. cc p;
        run_next = λ z p. cc p;
        some = o.some;
        far = o.far;
        near = o.near;
        close = o.close;
        cut = λ c p. cc p;
        next = λ j z p. let e = pick-k k n j z p in
            (v.0, subst (λ (m : ℕ). slice_get main (suc m) ≡ Some v.0) e.0 v.1, v.2, v.3 ∙ e.1);
        kin = λ c d j m z p q. let e = pick-k k n m z q in
            (v.0, subst (λ (i : ℕ). slice_get main (suc i) ≡ Some v.0) e.0 v.1, near v.0 v.2 v.3);
        before = λ c p. cc p;
        lengths = o.lengths;
        oldest = o.oldest;
        bounded = o.bounded;
      }))

  -- C2 meets a local waiter, and second is empty
  pub c2_first : (a b n : NodeName) (k : ℕ) → stage w ≡ Skips a b k → stage' w ≡ Ties a b k n
      → kept w ≡ None → kept' w ≡ Some a → (node b).next ≡ Some n
      → ((u : Waiter) → phase u ≡ Waits → own u ≡ n → local w u ≡ true)
      → CnaAgrees tail phase own node local threshold stage' kept' main second passes
  c2_first a b n k is now none named next near =
      let o = front_lead ok at_w owner is in
      let z = look-b ok at_w owner a b k (Skips a b k) is refl in
      let v = look-next ok at_w owner (Skips a b k) is refl k z.0 n z.1 (rw z.2 next) in
      let em : second ≡ [] = nobody-first own second (sym (o.names (inl refl)) ∙ none) in
      look-turn ok at_w owner stages (Skips a b k) (Ties a b k n) is now refl (inr em) (rw named (
      record {
        names = λ p. absurd (elim p [ inl q ↦ cc q | inr q ↦ q em ]);
        names_moved = λ c d j p q r. let e = skip-k a b k c d j q in ap (λ m. Some m) e.0;
        tail_at = o.tail_at;
        tail_hung = λ c n p q. cc p;
        tail_met = λ t i z p. cc p;
        tail_some = λ t p. cc p;
        run = o.run;
        run_none = o.run_none;
        run_short = o.run_short;
        run_picks = λ n p q. cc p;
        own_link = λ n p. cc p;
        run_next = λ z p. cc p;
        some = o.some;
        far = o.far;
        near = o.near;
        close = o.close;
        cut = λ c p. cc p;
        next = λ j z p. let e = pick-k k n j z p in
            (v.0, subst (λ (m : ℕ). slice_get main (suc m) ≡ Some v.0) e.0 v.1, v.2, v.3 ∙ e.1);
        kin = λ c d j m z p q. let e = pick-k k n m z q in
            (v.0, subst (λ (i : ℕ). slice_get main (suc i) ≡ Some v.0) e.0 v.1, near v.0 v.2 v.3);
        before = λ c p. cc p;
        lengths = o.lengths;
        oldest = o.oldest;
        bounded = o.bounded;
      }))

  -- C2 meets no more, and second has waiters
  pub c2_flush : (a b : NodeName) (k : ℕ) → stage w ≡ Skips a b k → stage' w ≡ Flushes a
      → kept' w ≡ kept w
      → CnaAgrees tail phase own node local threshold stage' kept' main second passes
  c2_flush a b k is now same =
      let o = front_lead ok at_w owner is in
      let v = look-a ok at_w owner a b k (Skips a b k) is refl in
      look-turn ok at_w owner stages (Skips a b k) (Flushes a) is now refl (inl refl) (rw same (
      record {
        names = o.names;
        names_moved = λ c d j p q r. cc p;
        tail_at = o.tail_at;
        tail_hung = λ c n p q. cc p;
        tail_met = λ t i z p. cc p;
        tail_some = λ t p. cc p;
        run = o.run;
        run_none = o.run_none;
        run_short = λ c d j p. cc p;
        run_picks = λ n p q. cc p;
        own_link = λ n p. cc p;
        run_next = λ z p. cc p;
        some = λ c d j p. cc p;
        far = λ c d j i p. cc p;
        near = λ c d j u p. cc p;
        close = λ c d j u p. cc p;
        cut = λ c p. cc p;
        next = λ j z p. cc p;
        kin = λ c d j m z p q. cc p;
        before = λ c p. (v.0, v.1, v.2, (let q : a ≡ c = cc p in v.3 ∙ q));
        lengths = o.lengths;
        oldest = o.oldest;
        bounded = o.bounded;
      }))

  -- C2 meets no more, and second is empty
  pub c2_pick : (a b : NodeName) (k : ℕ) → stage w ≡ Skips a b k → stage' w ≡ Picks a
      → kept w ≡ None → kept' w ≡ None
      → CnaAgrees tail phase own node local threshold stage' kept' main second passes
  c2_pick a b k is now none none' =
      let o = front_lead ok at_w owner is in
      let v = look-a ok at_w owner a b k (Skips a b k) is refl in
      look-pick ok at_w owner stages (Skips a b k) a is now refl refl refl refl (none' ∙ sym none) v
      (λ n e. absurd (cc (e, none'))) o

  -- C1 meets a local waiter, or has no second at the threshold
  pub c1_pick : (n : NodeName) → stage w ≡ Rests → stage' w ≡ Picks n → kept' w ≡ kept w
      → (node (own w)).next ≡ Some n → ((node (own w)).runs < threshold) ⊎ (kept w ≡ None)
      → CnaAgrees tail phase own node local threshold stage' kept' main second passes
  c1_pick n is now same next way =
      let o = front_lead ok at_w owner is in
      let v = look-next ok at_w owner Rests is refl 0 w n at_w next in
      look-pick ok at_w owner stages Rests n is now refl refl refl refl same v
      (λ m e. elim way [ inl lt ↦ lt | inr none ↦ absurd (cc (e, same, none)) ]) o

  -- C1 at the threshold, with a second
  pub c1_flush : (n : NodeName) → stage w ≡ Rests → stage' w ≡ Flushes n → kept' w ≡ kept w
      → (node (own w)).next ≡ Some n
      → CnaAgrees tail phase own node local threshold stage' kept' main second passes
  c1_flush n is now same next =
      let o = front_lead ok at_w owner is in
      let v = look-next ok at_w owner Rests is refl 0 w n at_w next in
      look-turn ok at_w owner stages Rests (Flushes n) is now refl (inl refl) (rw same (
      record {
        names = o.names;
        names_moved = λ c d j p q r. cc p;
        tail_at = o.tail_at;
        tail_hung = λ c n p q. cc p;
        tail_met = λ t i z p. cc p;
        tail_some = λ t p. cc p;
        run = o.run;
        run_none = o.run_none;
        run_short = λ c d j p. cc p;
        run_picks = λ n p q. cc p;
        own_link = λ n p. cc p;
        run_next = λ z p. cc p;
        some = λ c d j p. cc p;
        far = λ c d j i p. cc p;
        near = λ c d j u p. cc p;
        close = λ c d j u p. cc p;
        cut = λ c p. cc p;
        next = λ j z p. cc p;
        kin = λ c d j m z p q. cc p;
        before = λ c p. (v.0, v.1, v.2, (let q : n ≡ c = cc p in v.3 ∙ q));
        lengths = o.lengths;
        oldest = o.oldest;
        bounded = o.bounded;
      }))

  -- C1 meets nobody, with a second; C10 swaps nothing
  pub c1_promote : stage w ≡ Rests → stage' w ≡ Promotes → kept' w ≡ kept w
      → CnaAgrees tail phase own node local threshold stage' kept' main second passes
  c1_promote is now same =
      let o = front_lead ok at_w owner is in
      look-turn ok at_w owner stages Rests Promotes is now refl (inl refl) (rw same (
      record {
        names = o.names;
        names_moved = λ c d j p q r. cc p;
        tail_at = o.tail_at;
        tail_hung = λ c n p q. cc p;
        tail_met = λ t i z p. cc p;
        tail_some = λ t p. cc p;
        run = o.run;
        run_none = o.run_none;
        run_short = λ c d j p. cc p;
        run_picks = λ n p q. cc p;
        own_link = λ n p. cc p;
        run_next = λ z p. cc p;
        some = λ c d j p. cc p;
        far = λ c d j i p. cc p;
        near = λ c d j u p. cc p;
        close = λ c d j u p. cc p;
        cut = λ c p. cc p;
        next = λ j z p. cc p;
        kin = λ c d j m z p q. cc p;
        before = λ c p. cc p;
        lengths = o.lengths;
        oldest = o.oldest;
        bounded = o.bounded;
      }))
