use Rattle.std.proofs.Common.{◌≡◌, ◌≢◌, ℕ, suc, Option, Some, Bool, true, false, List, [], ◌∷◌, ◌⊎◌}
use Rattle.std.proofs.Common.{inl, inr, arith, ap, refl, sym, ◌∙◌, ◌+◌, slice_get, if◌then◌else◌}
use Rattle.lk_law.proofs.Names.{NodeName, last_cases, Waiter, Node, FrontAgrees, SecondAgrees}
use Rattle.lk_law.proofs.Names.{first_node, same_none, Phase, Waits, Stage, chosen, parted}
use Rattle.lk_law.proofs.Names.{passed_over, tied, Counts, Cuts, Hangs, Picked, Ties}
use Rattle.lk_law.proofs.cna.Steps.{OthersAct}
use Rattle.lk_law.specs.Stage.{told_runs}

-- the last of those passed over
pub parted-at : {phase : Waiter → Phase} {own : Waiter → NodeName} {node : NodeName → Node}
    {local : Waiter → Waiter → Bool} {threshold : ℕ} {main second : List Waiter}
    {passes : List ℕ} {w : Waiter} {g : Stage} {named : Option NodeName}
    → FrontAgrees phase own node local threshold main second passes w g named
    → (b : NodeName)
    → parted g ≡ Some b
    → (i : ℕ) × (u : Waiter) × (slice_get main (suc i) ≡ Some u) × (phase u ≡ Waits) × (own u ≡ b)
parted-at {phase = phase} {own = own} {main = main} {g = g} o b e =
    let k = of g e in by k.0 k.1 k.2
  where
    of : (g : Stage) → parted g ≡ Some b
        → (a : NodeName) × (k : ℕ) × (passed_over g ≡ Some (a, b, k))
    of (Cuts a d k y) h = let e : d ≡ b = cc h in (a, k, ap (λ n. Some (a, n, k)) e)
    of (Hangs a d k y) h = let e : d ≡ b = cc h in (a, k, ap (λ n. Some (a, n, k)) e)
    of (Counts a d k y) h = let e : d ≡ b = cc h in (a, k, ap (λ n. Some (a, n, k)) e)
    of _ h = cc h

    by : (a : NodeName) (k : ℕ) → passed_over g ≡ Some (a, b, k)
        → (i : ℕ) × (u : Waiter) × (slice_get main (suc i) ≡ Some u) × (phase u ≡ Waits)
        × (own u ≡ b)
    by a k sk =
        let s = o.some a b k sk in let s1 = s.1 in
        let f = o.far a b k s.0 sk (omega arith) in
        (s.0, f.0, f.1, f.2, o.close a b k f.0 sk (ap (slice_get main) s1 ∙ f.1))

-- what the one that leads knows stays true while others act
module _ {phase phase' : Waiter → Phase} {own own' : Waiter → NodeName}
    {node node' : NodeName → Node} {local : Waiter → Waiter → Bool} {threshold : ℕ}
    {main main' second : List Waiter} {passes : List ℕ} {w : Waiter} {g : Stage}
    {named tip : Option NodeName}
    (o : FrontAgrees phase own node local threshold main second passes w g named)
    (so : SecondAgrees phase own node second tip)
    (act : OthersAct phase phase' own own' node node' main main' second w g) where
  keep-first : (n : NodeName) → named ≡ Some n → (u : Waiter) × (phase u ≡ Waits) × (own u ≡ n)
  keep-first n e =
      elim (tie-cases (tied g)) [
        | inl no_tie ↦ of-names (o.names (inl no_tie)) e
        | inr tie ↦ elim (last_cases second) [
          | inl em ↦ let sk = skip-of g tie in by-moved sk.0 sk.1 sk.2 tie sk.3 em
          | inr p ↦ of-names (o.names (inr (λ em. cc (em, p.2)))) e
        ]
      ]
    where
      by-moved : (a b : NodeName) (k : ℕ) → tied g ≡ true → passed_over g ≡ Some (a, b, k)
          → second ≡ []
          → (u : Waiter) × (phase u ≡ Waits) × (own u ≡ n)
      by-moved a b k tie sk em =
          let q = o.names_moved a b k tie sk em in
          let s = o.some a b k sk in let s1 = s.1 in
          let f = o.far a b k 0 sk (omega arith) in
          (f.0, f.2, o.near a b k f.0 sk f.1 ∙ (let r : Some a ≡ Some n = sym q ∙ e in cc r))

      tie-cases : (b : Bool) → (b ≡ false) ⊎ (b ≡ true)
      tie-cases true = inr refl
      tie-cases false = inl refl

      skip-of : (g : Stage) → tied g ≡ true
          → (a : NodeName) × (b : NodeName) × (k : ℕ) × (passed_over g ≡ Some (a, b, k))
      skip-of (Ties a b k y) h = (a, b, k, refl)
      skip-of (Cuts a b k y) h = (a, b, k, refl)
      skip-of (Hangs a b k y) h = (a, b, k, refl)
      skip-of (Counts a b k y) h = (a, b, k, refl)
      skip-of _ h = cc h

      of-names : named ≡ first_node own second → named ≡ Some n
          → (u : Waiter) × (phase u ≡ Waits) × (own u ≡ n)
      of-names q e = let f = first-of second (sym q ∙ e) in (f.0, (so.waits 0 f.0 f.1).0, f.2)
        where
          first-of : (ws : List Waiter) → first_node own ws ≡ Some n
              → (u : Waiter) × (slice_get ws 0 ≡ Some u) × (own u ≡ n)
          first-of [] h = cc h
          first-of (z ∷ ws) h = (z, refl, (let q : own z ≡ n = cc h in q))

  keep-y : (y : NodeName) → told_runs g ≡ Some y → (u : Waiter) × (phase u ≡ Waits) × (own u ≡ y)
  keep-y y e = let k = of g e in let v = o.next k.0 y k.1 in (v.0, v.2, v.3)
    where
      of : (g : Stage) → told_runs g ≡ Some y → (k : ℕ) × (chosen g ≡ Some (k, y))
      of (Counts a b k z) h = let q : z ≡ y = cc h in (k, ap (λ n. Some (k, n)) q)
      of (Picked z) h = let q : z ≡ y = cc h in (0, ap (λ n. Some (0, n)) q)
      of _ h = cc h

  keep-b : (b : NodeName) → parted g ≡ Some b
      → (u : Waiter) × (phase u ≡ Waits) × (own u ≡ b) × (u ≢ w)
  keep-b b e = let f = parted-at o b e in (f.1, f.3, f.4, act.not_behind f.0 f.1 f.2)

  keep-second : first_node own' second ≡ first_node own second
  keep-second = go second (λ u h. (act.waits u (so.waits 0 u h).0 (act.not_aside 0 u h)).1)
    where
      go : (ws : List Waiter) → ((u : Waiter) → slice_get ws 0 ≡ Some u → own' u ≡ own u)
          → first_node own' ws ≡ first_node own ws
      go [] h = refl
      go (z ∷ ws) h = ap (λ n. Some n) (h z refl)

  keep-runs : (node' (own' w)).runs ≡ (node (own w)).runs
  keep-runs = rw act.own_w (act.fields w act.queued).0

  pub lead_keep : FrontAgrees phase' own' node' local threshold main' second passes w g named
  lead_keep =
      record {
        names = λ p. o.names p ∙ sym keep-second;
        names_moved = o.names_moved;
        tail_at = λ i u z p h k n. let a = so.waits 0 u h in let c = so.waits i z k in
            (rw (
              (act.waits u a.0 (act.not_aside 0 u h)).1,
              (act.waits z c.0 (act.not_aside i z k)).1,
            )
            ((act.fields u (rw a.0 refl)).1 ∙ o.tail_at i u z p h k n));
        tail_hung = λ b n p q. let f = keep-first n q in
            ap (λ m. (node' m).second_tail) (sym f.2) ∙ (act.fields f.0 (rw f.1 refl)).1
            ∙ ap (λ m. (node m).second_tail) f.2 ∙ o.tail_hung b n p q;
        tail_met = λ t i z p h k. let c = so.waits i z h in
            o.tail_met t i z p h k ∙ sym (act.waits z c.0 (act.not_aside i z h)).1;
        tail_some = o.tail_some;
        run = rw keep-runs o.run;
        run_none = λ p q. keep-runs ∙ o.run_none p q;
        run_short = λ c d j p. rw keep-runs (o.run_short c d j p);
        run_picks = λ n p q. rw keep-runs (o.run_picks n p q);
        own_link = λ n p e.
            let v = o.own_link n p (sym (act.links p) ∙ (ap (λ m. (node' m).next) (sym act.own_w) ∙ e)) in
            let q = act.waits v.1 v.3 (act.not_behind v.0 v.1 v.2) in
            (v.0, v.1, act.grows (suc v.0) v.1 v.2, q.0, q.1 ∙ v.4);
        run_next = λ y p. let f = keep-y y p in
            ap (λ m. (node' m).runs) (sym f.2) ∙ (act.fields f.0 (rw f.1 refl)).0
            ∙ ap (λ m. (node m).runs) f.2 ∙ o.run_next y p
            ∙ ap (λ n. if same_none named then 0 else (n + 1)) (sym keep-runs);
        some = o.some;
        far = λ a b k i p lt. let f = o.far a b k i p lt in
            let q = act.waits f.0 f.2 (act.not_behind i f.0 f.1) in
            (f.0, act.grows (suc i) f.0 f.1, q.0, f.3);
        near = λ a b k u p h. let s = o.some a b k p in let s1 = s.1 in
            let f = o.far a b k 0 p (omega arith) in
            let q = act.waits f.0 f.2 (act.not_behind 0 f.0 f.1) in
            let e : f.0 ≡ u = cc (act.grows 1 f.0 f.1, h) in
            ap own' (sym e) ∙ q.1 ∙ o.near a b k f.0 p f.1;
        close = λ a b k u p h. let s = o.some a b k p in let s1 = s.1 in
            let f = o.far a b k s.0 p (omega arith) in
            let q = act.waits f.0 f.2 (act.not_behind s.0 f.0 f.1) in
            let at : slice_get main k ≡ Some f.0 = ap (slice_get main) s1 ∙ f.1 in
            let e : f.0 ≡ u = cc (act.grows k f.0 at, h) in
            ap own' (sym e) ∙ q.1 ∙ o.close a b k f.0 p at;
        cut = λ b p. let f = keep-b b p in
            ap (λ n. (node' n).next) (sym f.2)
            ∙ act.cuts f.0 f.1 f.3 (p ∙ ap (λ n. Some n) (sym f.2));
        next = λ k y p.
            let v = o.next k y p in let q = act.waits v.0 v.2 (act.not_behind k v.0 v.1) in
            (v.0, act.grows (suc k) v.0 v.1, q.0, q.1 ∙ v.3);
        kin = λ a b k j y p q. let v = o.kin a b k j y p q in
            (v.0, act.grows (suc j) v.0 v.1, v.2);
        before = λ a p. let v = o.before a p in
            let q = act.waits v.0 v.2 (act.not_behind 0 v.0 v.1) in
            (v.0, act.grows 1 v.0 v.1, q.0, q.1 ∙ v.3);
        lengths = o.lengths;
        oldest = λ n h. o.oldest n h ∙ sym keep-runs;
        bounded = λ i n h. rw keep-runs (o.bounded i n h);
      }
