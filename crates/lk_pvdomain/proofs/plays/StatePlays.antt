-- What the steps on states ask.
use Rattle.std.proofs.Common.{◌≡◌, ◌≢◌, ℕ, get_or, Option, Some, None, Bool, true, false, refl, sym}
use Rattle.std.proofs.Common.{ap, ◌∙◌, subst, arith, eqb, if◌then◌else◌, ◌-◌, ◌==◌}
use Rattle.std.specs.Prelude.{unwrap_or}
use Rattle.lk_pvdomain.proofs.Names.{Allows, Me, keeps, either, NodeName, LockName, node_of, target}
use Rattle.lk_pvdomain.proofs.Names.{Frame, Pc, E1, W7, State, Halted, Hashed, Verb, halts, Stated}
use Rattle.lk_pvdomain.proofs.Names.{acts', asks, calls_are, kept, MayFree, bare, Frees, StandsOn}
use Rattle.lk_pvdomain.proofs.Names.{Slot, went, Runs, Stand, IsNumbered, IsNode, OfState, state_at}
use Rattle.lk_pvdomain.proofs.Names.{state_number, Plan, View, SeesState}
use Rattle.lk_rows.specs.{Row.Effect, declared.parts.Pc.TheVariants.{W2, W3, W5, E2, E10, K1}}
use Rattle.lk_rows.specs.{declared.parts.State.TheVariants.Running, rows.Pv.{is_running, is_halted}}
use Rattle.lk_domain.proofs.rows.Changes.{IsAt}
use Rattle.lk_domain.specs.Calls.{grip_led}
use Rattle.lk_pvdomain.proofs.{OnStates.state_stores, Unmarked.state_off}
use Rattle.lk_pvdomain.specs.PvPlays.{AtState}
use Rattle.lk_pvdomain.specs.PvRows.{on_state, looks_state, stores_own, state_told, rouses}
use Rattle.lk_pvdomain.specs.PvRows.{roused_to, state_node}
use Rattle.lk_pvdomain.proofs.OnStates as on

-- the row is on the state of its node
pub on_its : (c : Pc) (f : Frame) → on_state c ≡ true → IsAt f (target c f) (OfState (state_node c f))
on_its W2 f h = refl
on_its W3 f h = refl
on_its W5 f h = refl
on_its W7 f h = refl
on_its E1 f h = refl
on_its E2 f h = refl
on_its E10 f h = refl
on_its K1 f h = refl
on_its _ f h = cc h

-- it frees nothing
either_frees : (b : Bool) (x y : Effect State) → grip_led x.leads ≢ Frees → grip_led y.leads ≢ Frees
    → grip_led (if b then x else y).leads ≢ Frees
either_frees true x y h k = h
either_frees false x y h k = k

pub state_frees : (c : Pc) → on_state c ≡ true → MayFree c → ⊥
state_frees W2 h t =
    either_frees (is_running (t.0.node (node_of t.2.prev)).state) _ _
    (either_frees ((t.2.left - 1) == 0) _ _ (λ e. cc e) (λ e. cc e)) (λ e. cc e) t.3
state_frees W3 h t = cc t.3
state_frees W5 h t = cc t.3
state_frees W7 h t = either_frees (is_halted (t.0.node (node_of t.2.me)).state) _ _ (λ e. cc e) (λ e. cc e) t.3
state_frees E1 h t = cc t.3
state_frees E2 h t = cc t.3
state_frees E10 h t = cc t.3
state_frees K1 h t = either_frees (is_halted (t.0.node (node_of t.2.y)).state) _ _ (λ e. cc e) (λ e. cc e) t.3
state_frees _ h t = cc h

-- a look stores nothing
either_none : (b : Bool) (x y : Effect State) → x.stores ≡ None → y.stores ≡ None → (if b then x else y).stores ≡ None
either_none true x y h k = h
either_none false x y h k = k

pub looks_none : (c : Pc) (f : Frame) (y : State) → looks_state c ≡ true → state_stores c f y ≡ None
looks_none W2 f y h = either_none (is_running y) _ _ (either_none ((f.left - 1) == 0) _ _ refl refl) refl
looks_none W5 f y h = refl
looks_none E1 f y h = refl
looks_none _ f y h = cc h

-- what the operations write is what the rows store
pub stored_is : (c : Pc) (f : Frame) (y : State) → stores_own c ≡ true → state_stores c f y ≡ Some (state_told c)
stored_is W3 f y h = refl
stored_is E2 f y h = refl
stored_is E10 f y h = refl
stored_is _ f y h = cc h

pub roused_is : (c : Pc) (f : Frame) (y : State) → rouses c ≡ true
    → state_stores c f y ≡ (if is_halted y then Some (roused_to c) else None)
roused_is W7 f Running h = refl
roused_is W7 f Halted h = refl
roused_is W7 f Hashed h = refl
roused_is K1 f Running h = refl
roused_is K1 f Halted h = refl
roused_is K1 f Hashed h = refl
roused_is _ f y h = cc h

-- a step on a state that makes the row of the newest call, where it writes what the row stores
pub state_plays : (k : Plan) (slots id : ℕ) (m : Me Slot View) (number : IsNumbered m.0) (v : Verb) (lock : LockName) (pc : Pc)
    → halts k.mode ≡ true → (acts : StandsOn m.0.calls v lock pc) → on_state pc ≡ true
    → IsNode k (state_node pc acts.frame) → (fx : ℕ → ℕ)
    → ((y : State) → fx (state_number y) ≡ state_number (unwrap_or (state_stores pc acts.frame y) y))
    → Allows (Stand k) slots id m (state_at k (state_node pc acts.frame)) fx (SeesState m)
state_plays k slots id m number v lock pc halting acts has near fx writes s both long me small =
    let p = number.0 in
    let st : Runs k s = both.runs in
    let a : NodeName = state_node pc acts.frame in
    let go = acts' k id m number v lock pc acts s both me in
    let ask = asks k id m number v lock pc acts s both me in
    let over = on_its pc acts.frame has in
    let found : State = on.found k s st id m.0 me p number.1 v lock pc ask go a near halting over in
    let is : get_or s.words (state_at k a) 0 ≡ state_number found =
    on.found_is k s st id m.0 me p number.1 v lock pc ask go a near halting over in
    let unseen = on.unseen k s st id m.0 me p number.1 v lock pc ask go a near halting over in
    let n : ℕ = get_or s.words (state_at k a) 0 in (
      went m.0 (Stated found),
      keeps,
      tt,
      record {
        runs = on.state_step k s st id m.0 me p number.1 v lock pc ask go a near halting over (fx n)
            (ap fx is ∙ writes found) (went m.0 (Stated found)) refl
            (calls_are k id m number v lock pc acts s both me (Stated found)) s.homes;
        keeps = kept k id m number v lock pc acts s both me unseen (state_frees pc has) (Stated found)
            (sym (on.met_is k s st id m.0 me p number.1 v lock pc ask go a near halting over)) (λ e. absurd (state_off pc has e)) (state_at k a) (fx n)
            (bare k st.lawful.accounts (OfState a) (halting, near));
      },
      record { found = found; word = is; seat = refl },
    )

-- a row of a kind is one on a state
looks_over : (c : Pc) → looks_state c ≡ true → on_state c ≡ true
looks_over c h = grind (arith, h)

stores_over : (c : Pc) → stores_own c ≡ true → on_state c ≡ true
stores_over c h = grind (arith, h)

rouses_over : (c : Pc) → rouses c ≡ true → on_state c ≡ true
rouses_over c h = grind (arith, h)

-- what the calls ask, in which the word is named by its place
module _ (k plan : Plan) (slots id : ℕ) (m : Me Slot View) (number : IsNumbered m.0) (i : ℕ) (same : k ≡ plan)
    (halting : halts plan.mode ≡ true) (a : NodeName) (near : IsNode plan a) (at : i ≡ state_at plan a) where
  placed : (kind : Pc → Bool) (acts : AtState kind a m.0) → on_state acts.row ≡ true → (fx : ℕ → ℕ)
      → ((y : State) → fx (state_number y) ≡ state_number (unwrap_or (state_stores acts.row acts.stands.frame y) y))
      → Allows (Stand k) slots id m i fx (SeesState m)
  placed kind acts has fx writes =
      let b : NodeName = state_node acts.row acts.stands.frame in
      let where_is : i ≡ state_at k b = at ∙ (λ j. state_at (sym same j) (sym acts.node_is j)) in
      subst (λ (x : ℕ). Allows (Stand k) slots id m x fx (SeesState m)) (sym where_is)
      (state_plays k slots id m number acts.verb acts.lock acts.row (ap (λ (q : Plan). halts q.mode) same ∙ halting) acts.stands has
      (subst (λ (q : Plan). IsNode q b) (sym same) (subst (IsNode plan) (sym acts.node_is) near)) fx writes)

  pub look_on : AtState looks_state a m.0 → Allows (Stand k) slots id m i (λ n. n) (SeesState m)
  look_on acts =
      placed looks_state acts (looks_over acts.row acts.is) (λ n. n)
      (λ y. ap (λ (o : Option State). state_number (unwrap_or o y)) (sym (looks_none acts.row acts.stands.frame y acts.is)))

  pub store_on : (acts : AtState stores_own a m.0) (x : ℕ) → x ≡ state_number (state_told acts.row)
      → Allows (Stand k) slots id m i (λ _. x) (SeesState m)
  store_on acts x is =
      placed stores_own acts (stores_over acts.row acts.is) (λ _. x)
      (λ y. is ∙ ap (λ (o : Option State). state_number (unwrap_or o y)) (sym (stored_is acts.row acts.stands.frame y acts.is)))

  pub rouse_on : (acts : AtState rouses a m.0) (x : ℕ) → x ≡ state_number (roused_to acts.row)
      → Allows (Stand k) slots id m i (λ n. either (eqb n 1) x n) (SeesState m)
  rouse_on acts x is =
      placed rouses acts (rouses_over acts.row acts.is) (λ n. either (eqb n 1) x n)
      (λ y. by y ∙ ap (λ (o : Option State). state_number (unwrap_or o y)) (sym (roused_is acts.row acts.stands.frame y acts.is)))
    where
      by : (y : State) → either (eqb (state_number y) 1) x (state_number y)
          ≡ state_number (unwrap_or (if is_halted y then Some (roused_to acts.row) else None) y)
      by Running = refl
      by Halted = is
      by Hashed = refl
