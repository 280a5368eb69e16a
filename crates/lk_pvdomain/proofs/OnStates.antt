-- The steps on the state of a node.
use Rattle.std.proofs.Common.{◌≡◌, ◌≢◌, ℕ, List, set, get_or, Option, Some, None, true, false, refl}
use Rattle.std.proofs.Common.{sym, ap, ◌∙◌}
use Rattle.std.specs.Prelude.{unwrap_or}
use Rattle.lk_pvdomain.proofs.Names.{get_elem?, some, NodeName, LockName, Waiter, target, Frame}
use Rattle.lk_pvdomain.proofs.Names.{Node, Pc, G1, W7, State, Halted, Hashed, Verb}
use Rattle.lk_pvdomain.proofs.Names.{node_comes_at_entry, halts, Stated, enters, met_in, stored_in}
use Rattle.lk_pvdomain.proofs.Names.{World, IsOwn, own_row, Poised, IsSeen, Begins, StandsOn}
use Rattle.lk_pvdomain.proofs.Names.{acting, row_of, terms_of, Runs, waiter, IsNode, OfState}
use Rattle.lk_pvdomain.proofs.Names.{state_at, state_number, Plan, View}
use Rattle.atomic_table.specs.Table.{State as Table}
use mathlib.Core.Option.{Option as Maybe}
use Rattle.lk_rows.specs.{TopRow.{Target, StateOf, RwWord}, declared.parts.Pc.TheVariants.C1}
use Rattle.lk_rows.specs.{declared.parts.State.TheVariants.Running, rows.Pv.state_row}
use Rattle.lk_law.specs.Steps.{stores_state}
use Rattle.lk_domain.proofs.{rows.Changes.{IsAt, node_here}, rows.Writes.row_step}
use Rattle.lk_pvdomain.proofs.Unmarked.{unseen_links}
use Rattle.lk_domain.proofs.rows.Lands as lands

-- the row is on the state of this node

pub state_seen : (c : Pc) (f : Frame) (a : NodeName) (r : Option ℕ) → IsAt f (target c f) (OfState a)
    → IsSeen c (target c f) r
state_seen C1 f a r h = absurd h
state_seen _ f a r h = (tt, tt)

state_own : (f : Frame) (t : Target) (a : NodeName) → IsAt f t (OfState a) → IsOwn t
state_own f RwWord a h = absurd h
state_own f _ a h = tt

not_entry : (c : Pc) (f : Frame) (a : NodeName) → IsAt f (target c f) (OfState a) → c ≢ G1
not_entry G1 f a h e = absurd h
not_entry _ f a h e = cc e

-- what it stores, which does not rest on the turns
abbrev pub state_stores : Pc → Frame → State → Option State
state_stores c f y = (state_row 1 c f y).stores

turns_stored : (a b : ℕ) (c : Pc) (f : Frame) (y : State) → (state_row a c f y).stores ≡ (state_row b c f y).stores
turns_stored a b W7 f Running = refl
turns_stored a b W7 f Halted = refl
turns_stored a b W7 f Hashed = refl
turns_stored a b _ f y = refl

pub met_state : (m : World) (w : Waiter) (f : Frame) (t : Target) (a : NodeName) → IsAt f t (OfState a)
    → met_in m w f t ≡ Stated (m.node a).state
met_state m w f (StateOf n) a on = ap (λ (z : NodeName). Stated (m.node z).state) on
met_state m w f _ a on = absurd on

state_of : (m : World) (w : Waiter) (f : Frame) (c : Pc) (t : Target) (a : NodeName) → IsAt f t (OfState a)
    → stored_in m w f c t ≡ stores_state m a (state_stores c f (m.node a).state)
state_of m w f c (StateOf n) a on =
    ap (stores_state m n) (turns_stored m.turns 1 c f (m.node n).state)
    ∙ ap (λ (z : NodeName). stores_state m z (state_stores c f (m.node z).state)) on
state_of m w f c _ a on = absurd on

-- the store, word by word
state_here : (m : World) (a : NodeName) (o : Option State) → ((stores_state m a o).node a).state ≡ unwrap_or o (m.node a).state
state_here m a None = refl
state_here m a (Some x) = ap (λ (y : Node). y.state) (node_here m a (record (m.node a) { state = x }))

module _ (k : Plan) {S : Type 0} (s : Table S View) (st : Runs k s) (id : ℕ) (v : View)
    (me : get_elem? s.views id ≡ some v) (p : ℕ) (is : v.who.number ≡ Some p) (verb : Verb)
    (l : LockName) (pc : Pc) (asks : Begins k v.calls verb l.index)
    (acts : StandsOn (acting k.mode v.calls verb l.index) verb l pc) (a : NodeName) (near : IsNode k a)
    (halting : Rattle.lk_law.specs.Agree.halts k.mode ≡ true) (on : IsAt acts.frame (target pc acts.frame) (OfState a)) where
  abbrev pub unseen : IsSeen pc (target pc acts.frame) (acting k.mode v.calls verb l.index).runs
  unseen = state_seen pc acts.frame a (acting k.mode v.calls verb l.index).runs on

  abbrev f : Frame
  f = acts.frame

  abbrev w : Waiter
  w = waiter p f.ctx

  abbrev pub at : Poised st.world p (acting k.mode v.calls verb l.index)
  at = lands.at k s st id v me p is verb l pc asks acts unseen

  abbrev pub m : World
  m = at.acted.world

  -- the state that the step meets
  abbrev pub found : State
  found = (m.node a).state

  abbrev o : Option State
  o = state_stores pc f found

  pub found_is : get_or s.words (state_at k a) 0 ≡ state_number found
  found_is =
      st.stored.words (OfState a) (halting, near) refl
      ∙ ap (λ (g : NodeName → Node). state_number (g a).state) (sym at.acted.same.node)

  pub met_is : met_in m w f (target pc f) ≡ Stated found
  met_is = met_state m w f (target pc f) a on

  is_stored : stored_in m w f pc (target pc f) ≡ stores_state m a o
  is_stored = state_of m w f pc (target pc f) a on

  -- the row gives no node
  row_bare : enters (lands.o k s st id v me p is verb l pc asks acts unseen).leads ≡ false
  row_bare =
      node_comes_at_entry m w f pc (own_row pc f (state_own f (target pc f) a on))
      (lands.fitting k s st id v me p is verb l pc asks acts unseen).after (not_entry pc f a on)

  -- a step on the state that makes the row of the call, where it writes what the row stores
  pub state_step : (i : ℕ) → i ≡ state_number (unwrap_or o found) → (u : View) → u.who ≡ v.who
      → u.calls ≡ row_of (terms_of k) p (acting k.mode v.calls verb l.index) (Stated found) → (homes : List (Maybe S))
      → Runs k {S = S} (record { words = set s.words (state_at k a) i; homes = homes; views = set s.views id u })
  state_step i writes u who calls homes =
      row_step k s st id v me p is verb l pc asks acts unseen (OfState a) on row_bare (halting, near) (λ b r e. cc e)
      (Stated found) (sym met_is)
      (unseen_links m _ at.acted.sound.spins (ap halts (at.acted.same.mode ∙ st.of_plan.mode) ∙ halting) w f pc
      (lands.live k s st id v me p is verb l pc asks acts unseen) acts.place (Stated found))
      i (writes ∙ sym (ap state_number (ap (λ (z : World). (z.node a).state) is_stored ∙ state_here m a o))) u who calls homes
