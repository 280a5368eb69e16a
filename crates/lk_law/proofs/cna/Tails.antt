-- The lists after C3, where the last of the second queue is learnt, and after a promotion that
-- fails at C10.
use Rattle.std.proofs.Common.{◌≡◌, ◌≢◌, ℕ, Option, Some, Bool, List, [], inl, ap, refl, sym, ◌∙◌}
use Rattle.std.proofs.Common.{slice_get}
use Rattle.lk_law.proofs.Names.{NodeName, Waiter, Node, CnaAgrees, Phase, Holds, Stage, Flushes}
use Rattle.lk_law.proofs.Names.{Flushing, Meets, Promotes, Promoting, Rests, Tips}
use Rattle.lk_law.proofs.{cna.Front.front_lead, cna.Joined.nonempty}
use Rattle.lk_law.proofs.cna.Look.{look-some, look-named, look-turn}

module _ {tail : Option NodeName} {phase : Waiter → Phase} {own : Waiter → NodeName}
    {node : NodeName → Node} {local : Waiter → Waiter → Bool} {threshold : ℕ}
    {stage stage' : Waiter → Stage} {kept kept' : Waiter
    → Option NodeName} {main second : List Waiter}
    {passes : List ℕ} {w : Waiter}
    (ok : CnaAgrees tail phase own node local threshold stage kept main second passes)
    (at_w : slice_get main 0 ≡ Some w) (owner : phase w ≡ Holds)
    (stages : (u : Waiter) → u ≢ w → stage' u ≡ stage u) where
  pub c10_fail : (t : NodeName) → stage w ≡ Promoting t → stage' w ≡ Rests → kept' w ≡ kept w
      → CnaAgrees tail phase own node local threshold stage' kept' main second passes
  c10_fail t is now same =
      let o = front_lead ok at_w owner is in
      look-turn ok at_w owner stages (Promoting t) Rests is now refl (inl refl) (rw same (
      record {
        names = o.names;
        names_moved = λ c d j p q r. cc p;
        tail_at = o.tail_at;
        tail_hung = λ c n p q. cc p;
        tail_met = λ t i z p. cc p;
        tail_some = λ t p. cc p;
        run = o.run;
        run_none = o.run_none;
        run_short = λ c d j p. cc p;
        run_picks = λ n p q. cc p;
        own_link = λ n p. cc p;
        run_next = λ z p. cc p;
        some = λ c d j p. cc p;
        far = λ c d j i p. cc p;
        near = λ c d j u p. cc p;
        close = λ c d j u p. cc p;
        cut = λ c p. cc p;
        next = λ j z p. cc p;
        kin = λ c d j m z p q. cc p;
        before = λ c p. cc p;
        lengths = o.lengths;
        oldest = o.oldest;
        bounded = o.bounded;
      }))

  -- C3: the second tail of second is t
  pub c3_append : (a b : NodeName) (k : ℕ) (y t : NodeName) (n : NodeName) → stage w ≡ Meets a b k y
      → stage' w ≡ Tips a b k y t → kept' w ≡ kept w → kept w ≡ Some n
      → (node n).second_tail ≡ Some t
      → CnaAgrees tail phase own node local threshold stage' kept' main second passes
  c3_append a b k y t n is now same named tail_is =
      let o = front_lead ok at_w owner is in
      let there : second ≢ [] = look-some own second n (sym (o.names (inl refl)) ∙ named) in
      look-turn ok at_w owner stages (Meets a b k y) (Tips a b k y t) is now refl (inl refl)
      (rw same (
      record {
        names = o.names;
        names_moved = λ c d j p q r. cc p;
        tail_at = o.tail_at;
        tail_hung = λ c n p q. cc p;
        tail_met = λ z i u p h g.
            let q : t ≡ z = cc p in
            let f = nonempty second there in
            let e = o.tail_at i f.0 u refl f.1 h g in
            let m : own f.0 ≡ n =
            look-named own second f.0 n f.1 (sym (o.names (inl refl)) ∙ named) in
            let r : Some t ≡ Some (own u) =
            sym tail_is ∙ ap (λ z. (node z).second_tail) (sym m) ∙ e in
            let r' : t ≡ own u = cc r in sym q ∙ r';
        tail_some = λ z p. there;
        run = o.run;
        run_none = o.run_none;
        run_short = o.run_short;
        run_picks = λ n p q. cc p;
        own_link = λ n p. cc p;
        run_next = λ z p. cc p;
        some = o.some;
        far = o.far;
        near = o.near;
        close = o.close;
        cut = λ c p. cc p;
        next = o.next;
        kin = o.kin;
        before = λ c p. cc p;
        lengths = o.lengths;
        oldest = o.oldest;
        bounded = o.bounded;
      }))

  -- C3: the second tail of second is t
  pub c3_flush : (a t : NodeName) (n : NodeName) → stage w ≡ Flushes a → stage' w ≡ Flushing a t
      → kept' w ≡ kept w → kept w ≡ Some n → (node n).second_tail ≡ Some t
      → CnaAgrees tail phase own node local threshold stage' kept' main second passes
  c3_flush a t n is now same named tail_is =
      let o = front_lead ok at_w owner is in
      let there : second ≢ [] = look-some own second n (sym (o.names (inl refl)) ∙ named) in
      look-turn ok at_w owner stages (Flushes a) (Flushing a t) is now refl (inl refl) (rw same (
      record {
        names = o.names;
        names_moved = λ c d j p q r. cc p;
        tail_at = o.tail_at;
        tail_hung = λ c n p q. cc p;
        tail_met = λ z i u p h g.
            let q : t ≡ z = cc p in
            let f = nonempty second there in
            let e = o.tail_at i f.0 u refl f.1 h g in
            let m : own f.0 ≡ n =
            look-named own second f.0 n f.1 (sym (o.names (inl refl)) ∙ named) in
            let r : Some t ≡ Some (own u) =
            sym tail_is ∙ ap (λ z. (node z).second_tail) (sym m) ∙ e in
            let r' : t ≡ own u = cc r in sym q ∙ r';
        tail_some = λ z p. there;
        run = o.run;
        run_none = o.run_none;
        run_short = λ c d j p. cc p;
        run_picks = λ n p q. cc p;
        own_link = λ n p. cc p;
        run_next = λ z p. cc p;
        some = λ c d j p. cc p;
        far = λ c d j i p. cc p;
        near = λ c d j u p. cc p;
        close = λ c d j u p. cc p;
        cut = λ c p. cc p;
        next = λ j z p. cc p;
        kin = λ c d j m z p q. cc p;
        before = o.before;
        lengths = o.lengths;
        oldest = o.oldest;
        bounded = o.bounded;
      }))

  -- C3: the second tail of second is t
  pub c3_promote : (t : NodeName) (n : NodeName) → stage w ≡ Promotes → stage' w ≡ Promoting t
      → kept' w ≡ kept w → kept w ≡ Some n → (node n).second_tail ≡ Some t
      → CnaAgrees tail phase own node local threshold stage' kept' main second passes
  c3_promote t n is now same named tail_is =
      let o = front_lead ok at_w owner is in
      let there : second ≢ [] = look-some own second n (sym (o.names (inl refl)) ∙ named) in
      look-turn ok at_w owner stages (Promotes) (Promoting t) is now refl (inl refl) (rw same (
      record {
        names = o.names;
        names_moved = λ c d j p q r. cc p;
        tail_at = o.tail_at;
        tail_hung = λ c n p q. cc p;
        tail_met = λ z i u p h g.
            let q : t ≡ z = cc p in
            let f = nonempty second there in
            let e = o.tail_at i f.0 u refl f.1 h g in
            let m : own f.0 ≡ n =
            look-named own second f.0 n f.1 (sym (o.names (inl refl)) ∙ named) in
            let r : Some t ≡ Some (own u) =
            sym tail_is ∙ ap (λ z. (node z).second_tail) (sym m) ∙ e in
            let r' : t ≡ own u = cc r in sym q ∙ r';
        tail_some = λ z p. there;
        run = o.run;
        run_none = o.run_none;
        run_short = λ c d j p. cc p;
        run_picks = λ n p q. cc p;
        own_link = λ n p. cc p;
        run_next = λ z p. cc p;
        some = λ c d j p. cc p;
        far = λ c d j i p. cc p;
        near = λ c d j u p. cc p;
        close = λ c d j u p. cc p;
        cut = λ c p. cc p;
        next = λ j z p. cc p;
        kin = λ c d j m z p q. cc p;
        before = λ c p. cc p;
        lengths = o.lengths;
        oldest = o.oldest;
        bounded = o.bounded;
      }))
