-- The row that takes a node, where processors halt: by the last private store, which resets the state.
use Rattle.std.proofs.Common.{◌≡◌, ℕ, ◌<◌, List, set, Some, true, refl, sym, ap, ◌∙◌, subst, arith}
use Rattle.lk_pvdomain.proofs.Names.{Allows, Me, keeps, get_elem?, some, NodeName, LockName, Mode}
use Rattle.lk_pvdomain.proofs.Names.{Cna, Native, Pv, Virt, Node, G1, Verb, halts, Met, acts', asks}
use Rattle.lk_pvdomain.proofs.Names.{calls_are, kept, in_plan, bare, Begins, StandsOn, acting}
use Rattle.lk_pvdomain.proofs.Names.{row_of, terms_of, Slot, AtEntry, Enters, went, Runs, node_name}
use Rattle.lk_pvdomain.proofs.Names.{Stand, IsNumbered, OfState, state_at, state_number, Plan, View}
use Rattle.atomic_table.specs.Table.{State as Table}
use mathlib.Core.Option.{Option as Maybe}
use Rattle.lk_law.specs.{Leads.Number}
use Rattle.lk_domain.proofs.queue.Unfreed.{G1_frees}
use Rattle.lk_domain.specs.{Calls.slows, Words.{part_index, has_part}, declared.part.Part.Part}
use Rattle.lk_domain.specs.declared.part.Part.TheVariants as part
use Rattle.lk_domain.proofs.queue.Entries as entry

-- a node has two words that are no state
two_parts : (mode : Mode) (q : Part) → halts mode ≡ true → has_part mode q ≡ true → part_index q < 2
two_parts Pv part.Flag h has = omega arith
two_parts Pv part.Next h has = omega arith
two_parts Pv part.SecondTail h has = cc has
two_parts Pv part.Runs h has = cc has
two_parts Virt q h has = cc h
two_parts Native q h has = cc h
two_parts Cna q h has = cc h

module _ (k : Plan) {S : Type 0} (s : Table S View) (st : Runs k s) (id : ℕ) (v : View)
    (me : get_elem? s.views id ≡ some v) (p : ℕ) (is : v.who.number ≡ Some p) (verb : Verb)
    (l : LockName) (begins : Begins k v.calls verb l.index)
    (acts : StandsOn (acting k.mode v.calls verb l.index) verb l G1) (halting : halts k.mode ≡ true) where
  abbrev i : ℕ
  i = slows v.calls.frames

  abbrev a : NodeName
  a = node_name p i

  -- the state is reset, and the frame gets the node; the flag and the link were reset before
  pub enters_state : i < 4 → v.calls.ready ≡ 2 → (u : View) → u.who ≡ v.who
      → u.calls ≡ row_of (terms_of k) p (acting k.mode v.calls verb l.index) (Number i) → (homes : List (Maybe S))
      → Runs k {S = S} (record { words = set s.words (state_at k a) 0; homes = homes; views = set s.views id u })
  enters_state low ready =
      entry.enters_at k s st id v me p is verb l begins acts (OfState a)
      (halting, record { cpu = in_plan k s st id v me p is; index = low }) low (λ on. refl)
      (λ r has ne. entry.blank k s st id v me p is verb l begins acts r (let z = two_parts k.mode r halting has in omega (arith, ready, z)))
      (ap (λ (z : Node). state_number z.state) (sym (entry.here k s st id v me p is verb l begins acts low)))

enter_on : (k : Plan) (slots id : ℕ) (m : Me Slot View) → (number : IsNumbered m.0) → (v : Verb) (lock : LockName)
    → halts k.mode ≡ true → StandsOn m.0.calls v lock G1 → slows m.0.calls.frames < 4 → m.0.calls.ready ≡ 2
    → Allows (Stand k) slots id m (state_at k (node_name number.0 (slows m.0.calls.frames))) (λ _. 0) (Enters m)
enter_on k slots id m number v lock halting acts low ready s both long me small =
    let p = number.0 in let st = both.runs in
    let x : Met = Number (slows m.0.calls.frames) in
    let a : NodeName = node_name p (slows m.0.calls.frames) in
    let go = acts' k id m number v lock G1 acts s both me in
    let ask = asks k id m number v lock G1 acts s both me in (
      went m.0 x,
      keeps,
      tt,
      record {
        runs = enters_state k s st id m.0 me p number.1 v lock ask go halting low ready (went m.0 x) refl
            (calls_are k id m number v lock G1 acts s both me x) s.homes;
        keeps = kept k id m number v lock G1 acts s both me (tt, tt) G1_frees x
            (ap Number (sym (entry.count_is k s st id m.0 me p number.1 v lock ask go))) (λ e. cc e) (state_at k a) 0
            (bare k st.lawful.accounts (OfState a) (halting, record { cpu = in_plan k s st id m.0 me p number.1; index = low }));
      },
      refl,
    )

-- what the call asks, in which the word is named by its place
pub enter_asks : (k plan : Plan) (slots id : ℕ) (m : Me Slot View) → IsNumbered m.0 → (i : ℕ) → k ≡ plan → halts plan.mode ≡ true
    → (own : NodeName) → i ≡ state_at plan own → (v : Verb) → AtEntry own v m.0 → m.0.calls.ready ≡ 2
    → Allows (Stand k) slots id m i (λ _. 0) (Enters m)
enter_asks k plan slots id m number i same halting own at v acts ready =
    let cpu : number.0 ≡ own.cpu = some_is (sym number.1 ∙ acts.cpu) in
    let index = acts.index in
    let come : node_name number.0 (slows m.0.calls.frames) ≡ own = (λ j. record { cpu = cpu j; index = sym index j }) in
    subst (λ (x : ℕ). Allows (Stand k) slots id m x (λ _. 0) (Enters m))
    (sym (at ∙ (λ j. state_at (sym same j) (sym come j))))
    (enter_on k slots id m number v acts.lock (ap (λ (q : Plan). halts q.mode) same ∙ halting) acts.at.stands
    (let a = acts.index in let b = acts.low in omega (arith, a, b)) ready)
  where
    some_is : {a b : ℕ} → Some a ≡ Some b → a ≡ b
    some_is e = grind (arith, e)
