-- The row that takes a node: with one by the last private store, without one by a look.
use Rattle.std.proofs.Common.{◌≡◌, ◌≢◌, inl, inr, ℕ, ◌+◌, ◌<◌, ◌≤◌, List, set, get_or, Some, None}
use Rattle.std.proofs.Common.{Bool, true, false, lt-ltb, le-ltb, refl, sym, ap, ◌∙◌, subst, arith}
use Rattle.std.proofs.Common.{if◌then◌else◌, Option}
use Rattle.lk_domain.proofs.Names.{State, get_elem?, set-get_or, some, NodeName, LockName, Mode}
use Rattle.lk_domain.proofs.Names.{Cna, Native, Pv, Virt, Waiter, is_node, target, Frame, Node, G1}
use Rattle.lk_domain.proofs.Names.{Verb, node_cases, if-false, if-true, same_node-else}
use Rattle.lk_domain.proofs.Names.{same_node-self, halts, Number, RowDone, IsFree, Uses, same_node}
use Rattle.lk_domain.proofs.Names.{led, World, Begins, StandsOn, acting, row_of, slows, terms_of}
use Rattle.lk_domain.proofs.Names.{Runs, SeatFits, node_name, waiter, IsPlace, OfNode, OfState}
use Rattle.lk_domain.proofs.Names.{Place, has_part, is_last, node_at, node_number, number_of}
use Rattle.lk_domain.proofs.Names.{part_index, place_at, state_number, stored_number, with_mark}
use Rattle.lk_domain.proofs.Names.{word_at, Part, Plan, View}
use mathlib.Core.Option.{Option as Maybe}
use Rattle.lk_rows.specs.{Machine.rest_node, rows.Queue.own_node}
use Rattle.lk_law.proofs.common.Users.{is_node-true}
use Rattle.lk_law.specs.Steps.{reset, put_queued}
use Rattle.lk_domain.proofs.queue.OnNodes.{index_is, in_plan, to_come, to_come_free, counts_beside}
use Rattle.lk_domain.proofs.{rows.Kept.{Halting, counted_after, halting_same}, rows.Poised.Poised}
use Rattle.lk_domain.proofs.rows.Users.{kept_marks}
use Rattle.lk_domain.proofs.words.NodeWords.{rest_number, below_last, stored_zero}
use Rattle.lk_domain.proofs.words.Written.{renumbered, roll_stays, same_numbers, written}
use Rattle.lk_domain.specs.Words.{is_read}
use Rattle.lk_domain.proofs.rows.Lands as lands
use Rattle.lk_domain.specs.declared.part.Part.TheVariants as part

-- where processors halt the last word that a node has is none of those here
pub last_awake : (mode : Mode) (q : Part) → is_last mode q ≡ true → has_part mode q ≡ true → halts mode ≡ false
last_awake Virt q last has = refl
last_awake Native q last has = refl
last_awake Cna q last has = refl
last_awake Pv part.Flag last has = cc last
last_awake Pv part.Next last has = cc last
last_awake Pv part.SecondTail last has = cc has
last_awake Pv part.Runs last has = cc has

module _ (k : Plan) {S : Type 0} (s : State S View) (st : Runs k s) (id : ℕ) (v : View)
    (me : get_elem? s.views id ≡ some v) (p : ℕ) (is : v.who.number ≡ Some p) (verb : Verb)
    (l : LockName) (asks : Begins k v.calls verb l.index)
    (acts : StandsOn (acting k.mode v.calls verb l.index) verb l G1) where
  abbrev fits : SeatFits st.world p v.calls
  fits = st.seats id v p me is

  abbrev pub at : Poised st.world p (acting k.mode v.calls verb l.index)
  at = lands.at k s st id v me p is verb l G1 asks acts (tt, tt)

  abbrev pub m : World
  m = at.acted.world

  abbrev f : Frame
  f = acts.frame

  abbrev w : Waiter
  w = waiter p f.ctx

  abbrev pub i : ℕ
  i = slows v.calls.frames

  abbrev pub n : World
  n = lands.n k s st id v me p is verb l G1 asks acts (tt, tt)

  pub count_is : m.queued p ≡ i
  count_is = ap (λ (g : ℕ → ℕ). g p) at.acted.same.queued ∙ index_is k s st id v me p is

  abbrev pub x : World
  x = put_queued m p (m.queued p + 1)

  entered_nodes : n.node ≡ (reset x (own_node p (m.queued p))).node
  entered_nodes = refl

  pub row_nodes : n.node ≡ (reset x (own_node p i)).node
  row_nodes = entered_nodes ∙ ap (λ (j : ℕ). (reset x (own_node p j)).node) count_is

  none_some : {b : NodeName} → None ≡ Some b → ⊥
  none_some e = cc e

  -- the own node is that which the frame gets
  node_is : (a b : NodeName) → is_node (own_node p i) b ≡ true → own_node p i ≡ Some a → a ≡ b
  node_is a b mine own =
      let e = is_node-true (own_node p i) b mine in
      let q : Some a ≡ Some b = sym own ∙ e in cc q

  pub own_is : i < 4 → (b : NodeName)
      → is_node (led acts.frame (lands.o k s st id v me p is verb l G1 asks acts (tt, tt)).leads).me b ≡ true
      → node_name p i ≡ b
  own_is low b mine =
      node_is (node_name p i) b (ap (λ (j : ℕ). is_node (own_node p j) b) (sym count_is) ∙ mine)
      (ap (λ c. if c then Some (node_name p i) else None) (lt-ltb i 4 low))

  -- the node, in which the last private store resets what is left
  abbrev a : NodeName
  a = node_name p i

  nodes : i < 4 → n.node ≡ (reset x (Some a)).node
  nodes low = row_nodes ∙ ap (λ o. (reset x o).node) (ap (λ b. if b then Some a else None) (lt-ltb i 4 low))

  pub here : i < 4 → n.node a ≡ rest_node
  here low = ap (λ (g : NodeName → Node). g a) (nodes low) ∙ if-true (same_node a a) rest_node (m.node a) (same_node-self a)

  away : i < 4 → (b : NodeName) → b ≢ a → n.node b ≡ st.world.node b
  away low b ne =
      ap (λ (g : NodeName → Node). g b) (nodes low)
      ∙ (if-false (same_node b a) rest_node (m.node b) (same_node-else b a ne)
      ∙ ap (λ (g : NodeName → Node). g b) at.acted.same.node)

  free : IsFree m a
  free e uses =
      to_come_free k s st id v me p is p v.calls fits e
      (subst (Uses st.world e) (ap (node_name p) (sym (index_is k s st id v me p is)))
      (lands.was_used k s st id v me p is verb l G1 asks acts (tt, tt) e a uses))

  -- what the seat knows of the words that it has reset
  pub blank : (r : Part) → part_index r < v.calls.ready → node_number r (st.world.node a) ≡ 0
  blank r lt =
      ap (λ (j : ℕ). node_number r (st.world.node (node_name p j))) (sym (index_is k s st id v me p is)) ∙ fits.reset r lt

  done : RowDone m n w f G1 (target G1 f) (lands.o k s st id v me p is verb l G1 asks acts (tt, tt))
  done = lands.row_done k s st id v me p is verb l G1 asks acts (tt, tt)

  beside : Halting k s st n st.pairs id p
  beside =
      let same = at.acted.same in
      halting_same k s st n id p (done.entry ∙ same.entry) (λ q ne. ap (λ (g : ℕ → Bool). g q) (done.halted ∙ same.halted))

  module _ (y : Place) (near : IsPlace k y) (low : i < 4) (states : halts k.mode ≡ true → y ≡ OfState a)
      (others : (r : Part) → has_part k.mode r ≡ true → OfNode a r ≢ y → node_number r (st.world.node a) ≡ 0) where
    -- the other words are as before
    others_stay : (z : Place) → IsPlace k z → is_read k.mode z ≡ true → z ≢ y
        → number_of k n st.pairs z ≡ number_of k st.world st.pairs z
    others_stay (OfNode b r) there has ne = elim (node_cases b a) [
      | inl e ↦
          let zero = others r has (λ q. ne (ap (λ (c : NodeName). OfNode c r) e ∙ q)) in
          ap (λ (z : NodeName). node_number r (n.node z)) e
          ∙ (ap (node_number r) (here low) ∙ (rest_number r ∙ (sym zero
          ∙ ap (λ (z : NodeName). node_number r (st.world.node z)) (sym e))))
      | inr off ↦ ap (node_number r) (away low b off)
    ]
    others_stay (OfState b) there has ne =
        ap (λ (z : Node). state_number z.state) (away low b (λ e. ne (ap OfState e ∙ sym (states there.0))))
    others_stay z there has ne =
        let same = at.acted.same in
        same_numbers k st.pairs (record st.world { node = n.node }) n
        (done.word ∙ same.word) (done.rw ∙ same.rw) refl (done.kicked ∙ same.kicked) z

    -- the last private store: the last word of the node to come is reset, and the frame gets the node
    pub enters_at : 0 ≡ with_mark st.marks y (number_of k n st.pairs y) → (u : View) → u.who ≡ v.who
        → u.calls ≡ row_of (terms_of k) p (acting k.mode v.calls verb l.index) (Number i) → (homes : List (Maybe S))
        → Runs k {S = S} (record { words = set s.words (place_at k y) 0; homes = homes; views = set s.views id u })
    enters_at zero u who calls homes =
        lands.lands k s st id v me p is verb l G1 asks acts (tt, tt) (Number i) (ap Number (sym count_is)) (λ e. cc e)
        (λ b mine.
        let same : a ≡ b = own_is low b mine in
        inr (subst (IsFree m) same free, ap (λ (z : Node). z.next) (ap n.node (sym same) ∙ here low)))
        st.marks
        (kept_marks m n _ st.marks at.acted.sound.spins
        (lands.marked_here k s st id v me p is verb l G1 asks acts (tt, tt))
        (λ b c next. elim (node_cases b a) [
          | inl e ↦ absurd (none_some (sym (ap (λ (z : Node). z.next) (ap n.node e ∙ here low)) ∙ next))
          | inr off ↦ ap (λ (z : Node). z.next) (ap (λ (g : NodeName → Node). g b) at.acted.same.node ∙ sym (away low b off)) ∙ next
        ]))
        st.pairs u who calls (set s.words (place_at k y) 0)
        (written k st.stored n st.marks st.pairs y near 0 zero
        (λ z there has ne. ap (with_mark st.marks z) (others_stay z there has ne)))
        (roll_stays k s.words y 0 near)
        (λ r d ne fit q. ap (node_number q) (away low (node_name r (st.world.queued r)) (λ e. ne (ap (λ (z : NodeName). z.cpu) e))))
        (λ r d ne fit. counts_beside k s st id v me p is n fit
        (λ b u cpu uses on. ap (λ (z : Node). z.runs) (away low b (λ e. to_come_free k s st id v me p is p v.calls fits u
        (subst (Uses st.world u) (e ∙ ap (node_name p) (sym (index_is k s st id v me p is))) uses)))))
        beside homes

  -- that word is a part of the node
  pub enters : (q : Part) → is_last k.mode q ≡ true → has_part k.mode q ≡ true → i < 4
      → v.calls.ready ≡ part_index q → (u : View) → u.who ≡ v.who
      → u.calls ≡ row_of (terms_of k) p (acting k.mode v.calls verb l.index) (Number i) → (homes : List (Maybe S))
      → Runs k {S = S} (record { words = set s.words (node_at k a q) 0; homes = homes; views = set s.views id u })
  enters q last has low ready =
      enters_at (OfNode a q) (record { cpu = in_plan k s st id v me p is; index = low }) low
      (λ on. absurd (let z : true ≡ false = sym on ∙ last_awake k.mode q last has in cc z))
      (λ r h ne.
      let below = below_last k.mode q r last has h (λ e. ne (ap (λ (z : Part). OfNode a z) e)) in
      blank r (omega (arith, ready, below)))
      (sym (ap (stored_number (st.marks a) q) (ap (node_number q) (here low) ∙ rest_number q) ∙ stored_zero (st.marks a) q))

  -- without a node: a look at the lock's word, whose value is not used
  pub enters_bare : 4 ≤ i → (u : View) → u.who ≡ v.who
      → u.calls ≡ row_of (terms_of k) p (acting k.mode v.calls verb l.index) (Number i) → (homes : List (Maybe S))
      → Runs k {S = S} (record {
        words = set s.words (word_at l) (get_or s.words (word_at l) 0);
        homes = homes;
        views = set s.views id u;
      })
  enters_bare high u who calls homes =
      let own : own_node p i ≡ None = ap (λ b. if b then Some a else None) (le-ltb i 4 high) in
      let nodes : n.node ≡ st.world.node = row_nodes ∙ (ap (λ o. (reset x o).node) own ∙ at.acted.same.node) in
      let same = at.acted.same in
      subst (λ (ws : List ℕ). Runs k {S = S} (record { words = ws; homes = homes; views = set s.views id u }))
      (sym (set-get_or s.words (word_at l) 0))
      (lands.lands k s st id v me p is verb l G1 asks acts (tt, tt) (Number i) (ap Number (sym count_is)) (λ e. cc e)
      (λ b mine.
      let z : is_node None b ≡ true = ap (λ (o : Option NodeName). is_node o b) (sym (ap (own_node p) count_is ∙ own)) ∙ mine in
      let w : false ≡ true = z in absurd (cc w))
      st.marks
      (kept_marks m n _ st.marks at.acted.sound.spins
      (lands.marked_here k s st id v me p is verb l G1 asks acts (tt, tt))
      (λ b c next. ap (λ (g : NodeName → Node). (g b).next) (same.node ∙ sym nodes) ∙ next))
      st.pairs u who calls s.words
      (renumbered k st.stored n (same_numbers k st.pairs st.world n (done.word ∙ same.word) (done.rw ∙ same.rw) nodes (done.kicked ∙ same.kicked)))
      refl
      (λ q d ne fit r. ap (λ (g : NodeName → Node). node_number r (to_come g st.world q)) nodes)
      (λ q d ne fit. counted_after st.world n d (λ b. ap (λ (g : NodeName → Node). (g b).runs) nodes) fit.counted)
      beside homes)
