-- The steps that put a lock into the hash.
use Rattle.std.proofs.Common.{◌≡◌, ◌≢◌, inl, inr, ℕ, ◌<◌, List, set, get_or, Option, Some, None}
use Rattle.std.proofs.Common.{Bool, true, false, eqb, eq-eqb, ne_eqb, refl, sym, ap, ◌∙◌, subst}
use Rattle.std.proofs.Common.{arith, if◌then◌else◌, is_some}
use Rattle.lk_pvdomain.proofs.Names.{cases_eq, Allows, Me, keeps, get_elem?, dite, some, ℕ_discrete}
use Rattle.lk_pvdomain.proofs.Names.{either, NodeName, LockHistory, same_lock, LockName, Waiter}
use Rattle.lk_pvdomain.proofs.Names.{node_of, target, Frame, Node, Pc, E9, G1, U3, Verb}
use Rattle.lk_pvdomain.proofs.Names.{node_comes_at_entry, halts, Named, enters, met_in, stored_in}
use Rattle.lk_pvdomain.proofs.Names.{IsSoundSpinWorld, World, stands, acts', asks, calls_are, kept}
use Rattle.lk_pvdomain.proofs.Names.{top_live, IsOwn, own_row, counted_after, Poised, IsSeen}
use Rattle.lk_pvdomain.proofs.Names.{bare_me, MayFree, bare, roll_stays, Begins, Calls, StandsOn}
use Rattle.lk_pvdomain.proofs.Names.{acting, lock_name, row_of, terms_of, Slot, locks_of, went}
use Rattle.lk_pvdomain.proofs.Names.{Runs, Seeks, node_name, seeks_entry, waiter, Stand, IsNumbered}
use Rattle.lk_pvdomain.proofs.Names.{IsNode, OfHash, hash_at, node_number, pair_number, places_of}
use Rattle.lk_pvdomain.proofs.Names.{Plan, MOST_LOCKS, View, fills}
use Rattle.atomic_table.specs.Table.{State as Table}
use mathlib.Core.Option.{Option as Maybe}
use Rattle.lk_rows.specs.declared.parts.Pc.TheVariants.{E6, K3}
use Rattle.lk_law.proofs.common.Knows.{row_knows}
use Rattle.lk_law.specs.Steps.{put_entry}
use Rattle.lk_pvdomain.proofs.HashMaps.{filled, pair_is, plain_is, put_pair, pair_here, pair_else}
use Rattle.lk_pvdomain.proofs.{HashMaps.hash_written, Unmarked.{unseen_links, marks_stay, fill_off}}
use Rattle.lk_pvdomain.specs.{PvPlays.{AtFill, Fills}, PvRows.filled_with}
use Rattle.lk_domain.proofs.rows.Lands as lands

pub fill_seen : (c : Pc) (f : Frame) (r : Option ℕ) → fills c ≡ true → IsSeen c (target c f) r
fill_seen E6 f r h = (tt, tt)
fill_seen K3 f r h = (tt, tt)
fill_seen _ f r h = cc h

fill_own : (c : Pc) (f : Frame) → fills c ≡ true → IsOwn (target c f)
fill_own E6 f h = tt
fill_own K3 f h = tt
fill_own _ f h = cc h

fill_entry : (c : Pc) → fills c ≡ true → c ≢ G1
fill_entry G1 h e = cc h
fill_entry _ h e = cc e

fill_met : (m : World) (w : Waiter) (f : Frame) (c : Pc) → fills c ≡ true → met_in m w f (target c f) ≡ Named (m.entry f.lock)
fill_met m w f E6 h = refl
fill_met m w f K3 h = refl
fill_met m w f _ h = cc h

fill_stored : (m : World) (w : Waiter) (f : Frame) (c : Pc) → fills c ≡ true
    → stored_in m w f c (target c f) ≡ put_entry m f.lock (filled_with c f)
fill_stored m w f E6 h = refl
fill_stored m w f K3 h = refl
fill_stored m w f _ h = cc h

fill_frees : (c : Pc) → fills c ≡ true → MayFree c → ⊥
fill_frees E6 h t = cc t.3
fill_frees K3 h t = cc t.3
fill_frees _ h t = cc h

-- who enters a lock finds it not entered
unentered : (m : World) (hs : LockName → LockHistory) (u : Waiter) (f : Frame) (c : Pc) → IsSoundSpinWorld m hs
    → halts m.mode ≡ true → m.frame u ≡ Some f → f.place ≡ Some c → fills c ≡ true → m.entry f.lock ≡ None
unentered m hs u f E6 ok on live place h = (row_knows E6 m hs u f ok live place).2 on
unentered m hs u f K3 ok on live place h = ((row_knows K3 m hs u f ok live place).2 on).1
unentered m hs u f _ ok on live place h = cc h

-- and who seeks the entry of a lock has one to find
pub sought_entry : (m : World) (hs : LockName → LockHistory) (u : Waiter) (f : Frame) → IsSoundSpinWorld m hs
    → halts m.mode ≡ true → m.frame u ≡ Some f → seeks_entry f.place ≡ true → (a : NodeName) × (m.entry f.lock ≡ Some a)
sought_entry m hs u f ok on live h = by f.place refl h
  where
    some_of : (o : Option NodeName) → is_some o ≡ true → (a : NodeName) × (o ≡ Some a)
    some_of None q = cc q
    some_of (Some a) q = (a, refl)

    by : (o : Option Pc) → f.place ≡ o → seeks_entry o ≡ true → (a : NodeName) × (m.entry f.lock ≡ Some a)
    by (Some U3) e q = some_of (m.entry f.lock) ((row_knows U3 m hs u f ok live e).2 on).1
    by (Some E9) e q = (node_of f.me, ((row_knows E9 m hs u f ok live e).2 on).1)
    by _ e q = cc q

pub none_some : {b : NodeName} → None ≡ Some b → ⊥
none_some e = cc e

module _ (k : Plan) {S : Type 0} (s : Table S View) (st : Runs k s) (id : ℕ) (v : View)
    (me : get_elem? s.views id ≡ some v) (p : ℕ) (is : v.who.number ≡ Some p)
    (halting : halts k.mode ≡ true) (verb : Verb) (lock : ℕ) (near : lock < locks_of k) (pc : Pc)
    (begins : Begins k v.calls verb (lock_name lock).index)
    (acts : StandsOn (acting k.mode v.calls verb (lock_name lock).index) verb (lock_name lock) pc) (on : fills pc ≡ true) where
  abbrev l : LockName
  l = lock_name lock

  abbrev pub unseen : IsSeen pc (target pc acts.frame) (acting k.mode v.calls verb l.index).runs
  unseen = fill_seen pc acts.frame (acting k.mode v.calls verb l.index).runs on

  abbrev f : Frame
  f = acts.frame

  abbrev w : Waiter
  w = waiter p f.ctx

  abbrev at : Poised st.world p (acting k.mode v.calls verb l.index)
  at = lands.at k s st id v me p is verb l pc begins acts unseen

  abbrev m : World
  m = at.acted.world

  abbrev n : World
  n = lands.n k s st id v me p is verb l pc begins acts unseen

  here_none : m.entry f.lock ≡ None
  here_none =
      unentered m _ w f pc at.acted.sound.spins (ap halts (at.acted.same.mode ∙ st.of_plan.mode) ∙ halting)
      (lands.live k s st id v me p is verb l pc begins acts unseen) acts.place on

  pub met_is : met_in m w f (target pc f) ≡ Named None
  met_is = fill_met m w f pc on ∙ ap Named here_none

  none : st.world.entry l ≡ None
  none = ap st.world.entry (sym acts.lock) ∙ (ap (λ (g : LockName → Option NodeName). g f.lock) (sym at.acted.same.entry) ∙ here_none)

  is_stored : stored_in m w f pc (target pc f) ≡ put_entry m f.lock (filled_with pc f)
  is_stored = fill_stored m w f pc on

  -- the row gives no node
  row_bare : enters (lands.o k s st id v me p is verb l pc begins acts unseen).leads ≡ false
  row_bare =
      node_comes_at_entry m w f pc (own_row pc f (fill_own pc f on)) (lands.fitting k s st id v me p is verb l pc begins acts unseen).after (fill_entry pc on)

  nodes : n.node ≡ st.world.node
  nodes =
      (lands.row_done k s st id v me p is verb l pc begins acts unseen).node row_bare
      ∙ (ap (λ (z : World). z.node) is_stored ∙ at.acted.same.node)

  -- the entry of the lock alone has come
  now : (a : NodeName) → filled_with pc f ≡ Some a
      → (j : LockName) → n.entry j ≡ (if same_lock j l then Some a else st.world.entry j)
  now a with_it j =
      let d = lands.row_done k s st id v me p is verb l pc begins acts unseen in
      ap (λ (g : LockName → Option NodeName). g j) (d.entry ∙ ap (λ (x : World). x.entry) is_stored)
      ∙ (λ i. if same_lock j (acts.lock i) then with_it i else (at.acted.same.entry i) j)

  module _ (i : ℕ) (low : i < places_of k) (empty : st.pairs i ≡ 0) (a : NodeName) (node : IsNode k a) where
    abbrev qs : ℕ → ℕ
    qs = put_pair st.pairs i (pair_number lock a)

    other : (j : ℕ) → j ≢ i → qs j ≡ st.pairs j
    other j ne = pair_else st.pairs i (pair_number lock a) j ne

    -- who seeks an entry seeks that of another lock
    seeking : (q : ℕ) (y : View) → get_elem? s.views q ≡ some y → Seeks k st.pairs y.calls → (r : ℕ) → y.who.number ≡ Some r → Seeks k qs y.calls
    seeking q y there seeks r numbered x rs frames h =
        let o = seeks x rs frames h in
        let hash = st.hashed halting in
        let live = top_live k s st q y there r numbered (st.seats q y r there numbered) x rs frames in
        let some = sought_entry st.world _ (waiter r x.frame.ctx) x.frame st.sound.spins (ap halts st.of_plan.mode ∙ halting) live h in
        let e = hash.entered x.frame.lock some.0 some.1 in
        let apart : lock ≢ x.frame.lock.index = λ same. none_some
        (sym none ∙ (ap st.world.entry (ap lock_name same ∙ sym (plain_is x.frame.lock e.0)) ∙ some.1)) in
        let few = st.lawful.locks in
        let high : x.frame.lock.index < MOST_LOCKS = (let z = e.1 in omega (arith, z, few)) in
        record {
          passed = λ j b lt fit is_pair. elim (cases_eq j i) [
            | inl same ↦ apart (pair_is lock x.frame.lock.index a b (omega (arith, near, few)) high node.index fit.index
                (sym (pair_here st.pairs i (pair_number lock a)) ∙ (ap qs (sym same) ∙ is_pair))).0
            | inr ne ↦ o.passed j b lt fit (sym (other j ne) ∙ is_pair)
          ];
          inside = o.inside;
          found = λ b spot.
              let t = o.found b spot in
              let old = t.1 in
              let ne : y.calls.looked ≢ i = λ same. let z : st.pairs y.calls.looked ≡ 0 = ap st.pairs same ∙ empty in omega (arith, z, old) in
              (t.0, other y.calls.looked ne ∙ old);
        }

    seeking_any : (q : ℕ) (y : View) → get_elem? s.views q ≡ some y → Seeks k st.pairs y.calls → (o : Option ℕ) → y.who.number ≡ o → Seeks k qs y.calls
    seeking_any q y there seeks (Some r) numbered = seeking q y there seeks r numbered
    seeking_any q y there seeks None silent = λ x rs frames h.
        absurd (let z = sym (ap (λ (c : Calls). c.frames) (st.silent q y there silent)) ∙ frames in cc z)

    pub fill_step : filled_with pc f ≡ Some a → (u : View) → u.who ≡ v.who
        → u.calls ≡ row_of (terms_of k) p (acting k.mode v.calls verb l.index) (Named None) → (homes : List (Maybe S))
        → Runs k {S = S} (record { words = set s.words (hash_at k i) (pair_number lock a); homes = homes; views = set s.views id u })
    fill_step with_it u who calls homes =
        let d = lands.row_done k s st id v me p is verb l pc begins acts unseen in
        let same = at.acted.same in
        let halted = d.halted ∙ (ap (λ (x : World). x.halted) is_stored ∙ same.halted) in
        lands.lands k s st id v me p is verb l pc begins acts unseen (Named None) (sym met_is)
        (unseen_links m _ at.acted.sound.spins (ap halts (at.acted.same.mode ∙ st.of_plan.mode) ∙ halting) w f pc
        (lands.live k s st id v me p is verb l pc begins acts unseen) acts.place (Named None))
        (λ b mine. inl (bare_me f (lands.o k s st id v me p is verb l pc begins acts unseen).leads b row_bare mine))
        st.marks (marks_stay m n st.marks (ap halts (at.acted.same.mode ∙ st.of_plan.mode) ∙ halting) (lands.marked_here k s st id v me p is verb l pc begins acts unseen))
        qs u who calls (set s.words (hash_at k i) (pair_number lock a))
        (hash_written k st.stored n (d.word ∙ (ap (λ (x : World). x.word) is_stored ∙ same.word))
        (d.rw ∙ (ap (λ (x : World). x.rw) is_stored ∙ same.rw)) nodes
        (d.kicked ∙ (ap (λ (x : World). x.kicked) is_stored ∙ same.kicked)) i (halting, low) (pair_number lock a))
        (roll_stays k s.words (OfHash i) (pair_number lock a) (halting, low))
        (λ q e ne fit r. ap (λ (g : NodeName → Node). node_number r (g (node_name q (st.world.queued q)))) nodes)
        (λ q e ne fit. counted_after st.world n e (λ b. ap (λ (g : NodeName → Node). (g b).runs) nodes) fit.counted)
        (record {
          hashed = λ h. filled k st.world.entry n.entry st.pairs i l a (st.hashed h) low node refl near st.lawful.locks empty none (now a with_it);
          halted = λ q ne. ap (λ (g : ℕ → Bool). g q) halted;
          seeks = λ q y there ne. seeking_any q y there (st.seeks q y there) y.who.number refl;
        })
        homes

-- a fill: it makes the row where its place is empty
pub fill_plays : (k : Plan) (slots id : ℕ) (m : Me Slot View) (number : IsNumbered m.0) (v : Verb) (lock : ℕ) (pc : Pc)
    → halts k.mode ≡ true → lock < locks_of k → (acts : StandsOn m.0.calls v (lock_name lock) pc) → fills pc ≡ true
    → (a : NodeName) → IsNode k a → filled_with pc acts.frame ≡ Some a → (i : ℕ) → i < places_of k
    → (x : ℕ) → x ≡ pair_number lock a
    → Allows (Stand k) slots id m (hash_at k i) (λ n. either (eqb n 0) x n) (Fills m)
fill_plays k slots id m number v lock pc halting near acts has a node with_it i low x is_x s both long me small =
    let p = number.0 in
    let l = lock_name lock in
    let st : Runs k s = both.runs in
    let go = acts' k id m number v l pc acts s both me in
    let ask = asks k id m number v l pc acts s both me in
    let seen = unseen k s st id m.0 me p number.1 halting v lock near pc ask go has in
    let j : ℕ = hash_at k i in
    let n : ℕ = get_or s.words j 0 in
    dite (ℕ_discrete n 0)
    (λ none. (
      went m.0 (Named None),
      keeps,
      tt,
      subst (λ (z : ℕ). Stand k (record { words = set s.words j z; homes = s.homes; views = set s.views id (went m.0 (Named None)) }))
          (sym (ap (λ b. either b x n) (eq-eqb n 0 none) ∙ is_x))
          (record {
            runs = fill_step k s st id m.0 me p number.1 halting v lock near pc ask go has i low (sym (st.stored.words (OfHash i) (halting, low) refl) ∙ none) a node with_it (went m.0 (Named None)) refl
                (calls_are k id m number v l pc acts s both me (Named None)) s.homes;
            keeps = kept k id m number v l pc acts s both me seen (fill_frees pc has) (Named None)
                (sym (met_is k s st id m.0 me p number.1 halting v lock near pc ask go has)) (λ e. absurd (fill_off pc has e)) j
                (pair_number lock a) (bare k st.lawful.accounts (OfHash i) (halting, low));
          }),
      record { fills = λ _. refl; stays = λ e. absurd (e none) },
    ))
    (λ some. (
      m.0,
      keeps,
      tt,
      stands k s both id m.0 me j (either (eqb n 0) x n) (ap (λ b. either b x n) (ne_eqb n 0 some)),
      record { fills = λ e. absurd (some e); stays = λ _. refl },
    ))

-- what the call asks, in which the word is named by its place
pub fill_asks : (k plan : Plan) (slots id : ℕ) (m : Me Slot View) → IsNumbered m.0 → (i : ℕ) → k ≡ plan → halts plan.mode ≡ true
    → (lock : ℕ) → lock < locks_of plan → (a : NodeName) → IsNode plan a → AtFill a (lock_name lock) m.0
    → (place : ℕ) → place < places_of plan → i ≡ hash_at plan place → (x : ℕ) → x ≡ pair_number lock a
    → Allows (Stand k) slots id m i (λ n. either (eqb n 0) x n) (Fills m)
fill_asks k plan slots id m number i same halting lock near a node h place low at x is_x =
    subst (λ (j : ℕ). Allows (Stand k) slots id m j (λ n. either (eqb n 0) x n) (Fills m))
    (sym (at ∙ ap (λ (q : Plan). hash_at q place) (sym same)))
    (fill_plays k slots id m number h.verb lock h.row (ap (λ (q : Plan). halts q.mode) same ∙ halting)
    (subst (λ (q : Plan). lock < locks_of q) (sym same) near) h.stands h.is a
    (subst (λ (q : Plan). IsNode q a) (sym same) node) h.node_is place
    (subst (λ (q : Plan). place < places_of q) (sym same) low) x is_x)
