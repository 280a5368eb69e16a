-- The steps of who seeks the entry of a lock in the hash: a look at the next place, and the one that takes
-- the entry out.
use Rattle.std.proofs.Common.{◌≡◌, ◌≢◌, ◌⊎◌, inl, inr, ℕ, ◌+◌, ◌<◌, ◌≤◌, List, ◌∷◌, set, get_or}
use Rattle.std.proofs.Common.{⊎_elim, Option, Some, None, Bool, true, false, refl, sym, ap, ◌∙◌}
use Rattle.std.proofs.Common.{subst, arith, if◌then◌else◌}
use Rattle.std.proofs.lemmas.Bool.{cases_lt}
use Rattle.lk_pvdomain.proofs.Names.{cases_eq, Allows, Me, keeps, get_elem?, some, NodeName}
use Rattle.lk_pvdomain.proofs.Names.{LockHistory, same_lock, LockName, Waiter, target, Frame, Node}
use Rattle.lk_pvdomain.proofs.Names.{Pc, E9, G1, U3, Verb, node_comes_at_entry, halts, Named}
use Rattle.lk_pvdomain.proofs.Names.{enters, met_in, stored_in, IsSoundSpinWorld, World, acts'}
use Rattle.lk_pvdomain.proofs.Names.{asks, calls_are, kept, top_live, IsOwn, own_row, counted_after}
use Rattle.lk_pvdomain.proofs.Names.{Poised, IsSeen, bare_me, MayFree, bare, roll_stays, Begins}
use Rattle.lk_pvdomain.proofs.Names.{Calls, Running, StandsOn, acting, lock_name, row_of, running}
use Rattle.lk_pvdomain.proofs.Names.{terms_of, Slot, locks_of, went, Runs, Seeks, node_name}
use Rattle.lk_pvdomain.proofs.Names.{seeks_entry, waiter, Stand, IsNumbered, IsNode, OfHash}
use Rattle.lk_pvdomain.proofs.Names.{hash_at, node_number, pair_number, places_of, Plan, MOST_LOCKS}
use Rattle.lk_pvdomain.proofs.Names.{View, erases}
use Rattle.atomic_table.specs.Table.{State as Table}
use mathlib.Core.Option.{Option as Maybe}
use Rattle.lk_law.proofs.{common.Worlds.post_on-here, pv.Laws.para_only}
use Rattle.lk_law.specs.{Places.{post_of, post_on}, Pv.post_holds, Steps.put_entry}
use Rattle.lk_domain.proofs.{journals.Purses.{alters_at, knows_same}, queue.LockSwaps.set_self}
use Rattle.lk_domain.proofs.{queue.NodePlays.planned, rows.Kept.halting_same, seats.Totals.apart}
use Rattle.lk_domain.specs.Runs.{SeatFits, IsHashed, Sought}
use Rattle.lk_pvdomain.proofs.HashMaps.{emptied, entry_was, plain_is, decide, pair_lock, put_pair}
use Rattle.lk_pvdomain.proofs.HashMaps.{pair_here, pair_else, hash_written}
use Rattle.lk_pvdomain.proofs.OnHash.{none_some, sought_entry}
use Rattle.lk_pvdomain.proofs.Unmarked.{unseen_links, marks_stay, erase_off}
use Rattle.lk_pvdomain.specs.PvPlays.{AtSeek, Empties, SeesHash, IsOther, passed_on, spotted}
use Rattle.lk_domain.proofs.rows.Kept as rule
use Rattle.lk_domain.proofs.rows.Lands as lands

pub erase_seen : (c : Pc) (f : Frame) (r : Option ℕ) → erases c ≡ true → IsSeen c (target c f) r
erase_seen U3 f r h = (tt, tt)
erase_seen E9 f r h = (tt, tt)
erase_seen _ f r h = cc h

erase_own : (c : Pc) (f : Frame) → erases c ≡ true → IsOwn (target c f)
erase_own U3 f h = tt
erase_own E9 f h = tt
erase_own _ f h = cc h

erase_entry : (c : Pc) → erases c ≡ true → c ≢ G1
erase_entry G1 h e = cc h
erase_entry _ h e = cc e

erase_met : (m : World) (w : Waiter) (f : Frame) (c : Pc) → erases c ≡ true → met_in m w f (target c f) ≡ Named (m.entry f.lock)
erase_met m w f U3 h = refl
erase_met m w f E9 h = refl
erase_met m w f _ h = cc h

erase_stored : (m : World) (w : Waiter) (f : Frame) (c : Pc) → erases c ≡ true
    → stored_in m w f c (target c f) ≡ put_entry m f.lock None
erase_stored m w f U3 h = refl
erase_stored m w f E9 h = refl
erase_stored m w f _ h = cc h

erase_frees : (c : Pc) → erases c ≡ true → MayFree c → ⊥
erase_frees U3 h t = cc t.3
erase_frees E9 h t = cc t.3
erase_frees _ h t = cc h

erase_seeks : (c : Pc) → erases c ≡ true → seeks_entry (Some c) ≡ true
erase_seeks U3 h = refl
erase_seeks E9 h = refl
erase_seeks _ h = cc h

-- who seeks an entry holds the lock, so it is the only one
seeker_holds : (f : Frame) → seeks_entry f.place ≡ true → post_holds (post_of f) ≡ true
seeker_holds f h = by f.place refl h
  where
    by : (o : Option Pc) → f.place ≡ o → seeks_entry o ≡ true → post_holds (post_of f) ≡ true
    by (Some U3) e q = ap (λ (o : Option Pc). post_holds (Rattle.lk_law.specs.Places.post_if o f)) e
    by (Some E9) e q = ap (λ (o : Option Pc). post_holds (Rattle.lk_law.specs.Places.post_if o f)) e
    by _ e q = cc q

only_seeker : (m : World) (hs : LockName → LockHistory) (u v : Waiter) (f g : Frame) → IsSoundSpinWorld m hs
    → halts m.mode ≡ true → m.frame u ≡ Some f → m.frame v ≡ Some g → seeks_entry f.place ≡ true
    → seeks_entry g.place ≡ true → g.lock ≡ f.lock → u ≡ v
only_seeker m hs u v f g ok on live there h q same =
    let mine : post_holds (post_on f.lock (m.frame u)) ≡ true =
    ap (λ (o : Option Frame). post_holds (post_on f.lock o)) live ∙ (ap post_holds (post_on-here f.lock f refl) ∙ seeker_holds f h) in
    let its : post_holds (post_on f.lock (m.frame v)) ≡ true =
    ap (λ (o : Option Frame). post_holds (post_on f.lock o)) there ∙ (ap post_holds (post_on-here f.lock g same) ∙ seeker_holds g q) in
    para_only ok.agrees on f.lock u v mine its

module _ (k : Plan) {S : Type 0} (s : Table S View) (st : Runs k s) (id : ℕ) (v : View)
    (me : get_elem? s.views id ≡ some v) (p : ℕ) (is : v.who.number ≡ Some p)
    (halting : halts k.mode ≡ true) (verb : Verb) (lock : ℕ) (near : lock < locks_of k) (pc : Pc)
    (begins : Begins k v.calls verb (lock_name lock).index)
    (acts : StandsOn (acting k.mode v.calls verb (lock_name lock).index) verb (lock_name lock) pc) (on : erases pc ≡ true) where
  abbrev l : LockName
  l = lock_name lock

  abbrev pub unseen : IsSeen pc (target pc acts.frame) (acting k.mode v.calls verb l.index).runs
  unseen = erase_seen pc acts.frame (acting k.mode v.calls verb l.index).runs on

  abbrev f : Frame
  f = acts.frame

  abbrev w : Waiter
  w = waiter p f.ctx

  abbrev at : Poised st.world p (acting k.mode v.calls verb l.index)
  at = lands.at k s st id v me p is verb l pc begins acts unseen

  abbrev m : World
  m = at.acted.world

  abbrev n : World
  n = lands.n k s st id v me p is verb l pc begins acts unseen

  on_m : halts m.mode ≡ true
  on_m = ap halts (at.acted.same.mode ∙ st.of_plan.mode) ∙ halting

  is_stored : stored_in m w f pc (target pc f) ≡ put_entry m f.lock None
  is_stored = erase_stored m w f pc on

  -- the row gives no node
  row_bare : enters (lands.o k s st id v me p is verb l pc begins acts unseen).leads ≡ false
  row_bare =
      node_comes_at_entry m w f pc (own_row pc f (erase_own pc f on)) (lands.fitting k s st id v me p is verb l pc begins acts unseen).after (erase_entry pc on)

  nodes : n.node ≡ st.world.node
  nodes =
      (lands.row_done k s st id v me p is verb l pc begins acts unseen).node row_bare
      ∙ (ap (λ (z : World). z.node) is_stored ∙ at.acted.same.node)

  -- the entry of the lock alone has gone
  now : (j : LockName) → n.entry j ≡ (if same_lock j l then None else st.world.entry j)
  now j =
      let d = lands.row_done k s st id v me p is verb l pc begins acts unseen in
      ap (λ (g : LockName → Option NodeName). g j) (d.entry ∙ ap (λ (x : World). x.entry) is_stored)
      ∙ (λ i. if same_lock j (acts.lock i) then None else (at.acted.same.entry i) j)

  module _ (i : ℕ) (low : i < places_of k) (a : NodeName) (node : IsNode k a)
      (full : st.pairs i ≡ pair_number lock a) where
    abbrev qs : ℕ → ℕ
    qs = put_pair st.pairs i 0

    other : (j : ℕ) → j ≢ i → qs j ≡ st.pairs j
    other j ne = pair_else st.pairs i 0 j ne

    was : st.world.entry l ≡ Some a
    was = entry_was k st.world.entry n.entry st.pairs i l a (st.hashed halting) low node refl near st.lawful.locks full now

    pub met_is : met_in m w f (target pc f) ≡ Named (Some a)
    met_is =
        erase_met m w f pc on
        ∙ ap Named (ap (λ (g : LockName → Option NodeName). g f.lock) at.acted.same.entry ∙ (ap st.world.entry acts.lock ∙ was))

    -- who else seeks an entry seeks that of another lock
    seeking : (q : ℕ) (y : View) → get_elem? s.views q ≡ some y → Seeks k st.pairs y.calls → q ≢ id → (r : ℕ) → y.who.number ≡ Some r → Seeks k qs y.calls
    seeking q y there seeks off r numbered x rs frames h =
        let o = seeks x rs frames h in
        let hash = st.hashed halting in
        let live = top_live k s st q y there r numbered (st.seats q y r there numbered) x rs frames in
        let some = sought_entry st.world _ (waiter r x.frame.ctx) x.frame st.sound.spins (ap halts st.of_plan.mode ∙ halting) live h in
        let e = hash.entered x.frame.lock some.0 some.1 in
        let few = st.lawful.locks in
        let high : x.frame.lock.index < MOST_LOCKS = (let z = e.1 in omega (arith, z, few)) in
        let ne : r ≢ p = λ same. off (apart s.views (get_or s.words 0 0) st.once id q v y p me there is (numbered ∙ ap Some same)) in
        let lives : m.frame (waiter r x.frame.ctx) ≡ Some x.frame = (at.acted.others (waiter r x.frame.ctx) ne).0 ∙ live in
        let differ : lock ≢ x.frame.lock.index = λ same. ne (sym (ap (λ (u : Waiter). u.cpu)
        (only_seeker m _ w (waiter r x.frame.ctx) f x.frame at.acted.sound.spins on_m
        (lands.live k s st id v me p is verb l pc begins acts unseen) lives
        (ap seeks_entry acts.place ∙ erase_seeks pc on) h (plain_is x.frame.lock e.0 ∙ (ap lock_name (sym same) ∙ sym acts.lock))))) in
        record {
          passed = λ j b lt fit is_pair. elim (cases_eq j i) [
            | inl same ↦
                let z : qs j ≡ 0 = ap qs same ∙ pair_here st.pairs i 0 in
                absurd (omega (arith, z, is_pair))
            | inr off' ↦ o.passed j b lt fit (sym (other j off') ∙ is_pair)
          ];
          inside = o.inside;
          found = λ b spot.
              let t = o.found b spot in
              let old = t.1 in
              let off' : y.calls.looked ≢ i = λ same. differ (pair_lock lock x.frame.lock.index a b (omega (arith, near, few)) high
              (sym full ∙ (ap st.pairs (sym same) ∙ old))) in
              (t.0, other y.calls.looked off' ∙ old);
        }

    pub erase_step : (u : View) → u.who ≡ v.who
        → u.calls ≡ row_of (terms_of k) p (acting k.mode v.calls verb l.index) (Named (Some a)) → (homes : List (Maybe S))
        → Runs k {S = S} (record { words = set s.words (hash_at k i) 0; homes = homes; views = set s.views id u })
    erase_step u who calls homes =
        let d = lands.row_done k s st id v me p is verb l pc begins acts unseen in
        let same = at.acted.same in
        let halted = d.halted ∙ (ap (λ (x : World). x.halted) is_stored ∙ same.halted) in
        lands.lands k s st id v me p is verb l pc begins acts unseen (Named (Some a)) (sym met_is)
        (unseen_links m _ at.acted.sound.spins (ap halts (at.acted.same.mode ∙ st.of_plan.mode) ∙ halting) w f pc
        (lands.live k s st id v me p is verb l pc begins acts unseen) acts.place (Named (Some a)))
        (λ b mine. inl (bare_me f (lands.o k s st id v me p is verb l pc begins acts unseen).leads b row_bare mine))
        st.marks (marks_stay m n st.marks (ap halts (at.acted.same.mode ∙ st.of_plan.mode) ∙ halting) (lands.marked_here k s st id v me p is verb l pc begins acts unseen))
        qs u who calls (set s.words (hash_at k i) 0)
        (hash_written k st.stored n (d.word ∙ (ap (λ (x : World). x.word) is_stored ∙ same.word))
        (d.rw ∙ (ap (λ (x : World). x.rw) is_stored ∙ same.rw)) nodes
        (d.kicked ∙ (ap (λ (x : World). x.kicked) is_stored ∙ same.kicked)) i (halting, low) 0)
        (roll_stays k s.words (OfHash i) 0 (halting, low))
        (λ q e ne fit r. ap (λ (g : NodeName → Node). node_number r (g (node_name q (st.world.queued q)))) nodes)
        (λ q e ne fit. counted_after st.world n e (λ b. ap (λ (g : NodeName → Node). (g b).runs) nodes) fit.counted)
        (record {
          hashed = λ h. emptied k st.world.entry n.entry st.pairs i l a (st.hashed h) low node refl near st.lawful.locks full now;
          halted = λ q ne. ap (λ (g : ℕ → Bool). g q) halted;
          seeks = λ q y there ne. seeking_any q y there (st.seeks q y there) ne y.who.number refl;
        })
        homes
      where
        seeking_any : (q : ℕ) (y : View) → get_elem? s.views q ≡ some y → Seeks k st.pairs y.calls → q ≢ id
            → (o : Option ℕ) → y.who.number ≡ o → Seeks k qs y.calls
        seeking_any q y there seeks ne (Some r) numbered = seeking q y there seeks ne r numbered
        seeking_any q y there seeks ne None silent = λ x rs frames h.
            absurd (let z = sym (ap (λ (c : Calls). c.frames) (st.silent q y there silent)) ∙ frames in cc z)

-- the step that takes the entry out, of which the place was found
pub erase_plays : (k : Plan) (slots id : ℕ) (m : Me Slot View) (number : IsNumbered m.0) (v : Verb) (lock : ℕ) (pc : Pc)
    → halts k.mode ≡ true → lock < locks_of k → StandsOn m.0.calls v (lock_name lock) pc → erases pc ≡ true
    → (b : NodeName) → m.0.calls.spot ≡ Some b
    → Allows (Stand k) slots id m (hash_at k m.0.calls.looked) (λ _. 0) (Empties m)
erase_plays k slots id m number v lock pc halting near acts has b spot s both long me small =
    let p = number.0 in
    let l = lock_name lock in
    let st : Runs k s = both.runs in
    let i : ℕ = m.0.calls.looked in
    let go = acts' k id m number v l pc acts s both me in
    let ask = asks k id m number v l pc acts s both me in
    let seen = unseen k s st id m.0 me p number.1 halting v lock near pc ask go has in
    let j : ℕ = hash_at k i in
    let few = st.lawful.locks in
    let o = st.seeks id m.0 me (running v acts.frame acts.trail) acts.rest acts.is (ap seeks_entry acts.place ∙ erase_seeks pc has) in
    let t = o.found b spot in
    let full : st.pairs i ≡ pair_number lock b = t.1 ∙ ap (λ (x : LockName). pair_number x.index b) acts.lock in
    let word : get_or s.words j 0 ≡ st.pairs i = st.stored.words (OfHash i) (halting, t.0) refl in
    let there : (a : NodeName) × IsNode k a × (st.pairs i ≡ pair_number lock a) = elim ((st.hashed halting).placed i t.0) [
      | inl z ↦ absurd (omega (arith, z, full))
      | inr r ↦
          let same : r.0 ≡ lock = pair_lock r.0 lock r.1 b (let z = r.3 in omega (arith, z, few)) (omega (arith, near, few)) (sym r.5 ∙ full) in
          (r.1, r.2, r.5 ∙ ap (λ (c : ℕ). pair_number c r.1) same)
    ] in
    let a : NodeName = there.0 in
    let plan : m.0.who.plan ≡ k = planned k id m number v l pc acts s both me in (
      went m.0 (Named (Some a)),
      keeps,
      tt,
      record {
        runs = erase_step k s st id m.0 me p number.1 halting v lock near pc ask go has i t.0 a there.1 there.2 (went m.0 (Named (Some a))) refl
            (calls_are k id m number v l pc acts s both me (Named (Some a))) s.homes;
        keeps = kept k id m number v l pc acts s both me seen (erase_frees pc has) (Named (Some a))
            (sym (met_is k s st id m.0 me p number.1 halting v lock near pc ask go has i t.0 a there.1 there.2)) (λ e. absurd (erase_off pc has e)) j 0
            (bare k st.lawful.accounts (OfHash i) (halting, t.0));
      },
      λ x rs frames. record {
        node = a;
        near = subst (λ (q : Plan). IsNode q a) (sym plan) there.1;
        word = word ∙ (there.2 ∙ ap (λ (c : LockName). pair_number c.index a) (sym acts.lock ∙ top_lock acts.is frames));
        seat = refl;
      },
    )
  where
    top_lock : {x y : Running} {rs qs xs : List Running} → xs ≡ x ∷ rs → xs ≡ y ∷ qs → x.frame.lock ≡ y.frame.lock
    top_lock e q = ap (λ (z : Running). z.frame.lock) (head_is (sym e ∙ q))
      where
        head_is : {x y : Running} {rs qs : List Running} → (x ∷ rs) ≡ (y ∷ qs) → x ≡ y
        head_is e = grind (arith, e)

-- what the call asks, in which the word is named by its place
pub erase_asks : (k plan : Plan) (slots id : ℕ) (m : Me Slot View) → IsNumbered m.0 → (i : ℕ) → k ≡ plan → halts plan.mode ≡ true
    → (lock : ℕ) → lock < locks_of plan → AtSeek (lock_name lock) m.0 → (b : NodeName) → m.0.calls.spot ≡ Some b
    → (place : ℕ) → m.0.calls.looked ≡ place → i ≡ hash_at plan place
    → Allows (Stand k) slots id m i (λ _. 0) (Empties m)
erase_asks k plan slots id m number i same halting lock near h b spot place next at =
    subst (λ (j : ℕ). Allows (Stand k) slots id m j (λ _. 0) (Empties m))
    (sym (at ∙ (λ j. hash_at (sym same j) (sym next j))))
    (erase_plays k slots id m number h.verb lock h.row (ap (λ (q : Plan). halts q.mode) same ∙ halting)
    (subst (λ (q : Plan). lock < locks_of q) (sym same) near) h.stands h.is b spot)

-- A look at the next place: the view counts it, or notes what stands there.
module _ (k : Plan) {S : Type 0} (s : Table S View) (st : Runs k s) (id : ℕ) (v : View)
    (me : get_elem? s.views id ≡ some v) (p : ℕ) (is : v.who.number ≡ Some p) where
  fits₂ : SeatFits st.world p v.calls
  fits₂ = st.seats id v p me is

  -- what the newest call knows of the hash is none of its frames and holds
  noted : (n : ℕ) (o : Option NodeName) → SeatFits st.world p (record v.calls { looked = n; spot = o })
  noted n o =
      record {
        mirrors = record { frames = fits₂.mirrors.frames; holds = fits₂.mirrors.holds };
        stacked = fits₂.stacked;
        few = fits₂.few;
        placed = fits₂.placed;
        rests = fits₂.rests;
        held = fits₂.held;
        fresh = fits₂.fresh;
        reset = fits₂.reset;
        counted = λ r x rs runs frames. let c = fits₂.counted r x rs runs frames in
            record { row = c.row; place = c.place; front = c.front; is = c.is };
        told = fits₂.told;
        single = fits₂.single;
        halted = fits₂.halted;
      }

  pub look_step : (i : ℕ) (n : ℕ) (o : Option NodeName) → Seeks k st.pairs (record v.calls { looked = n; spot = o }) → (homes : List (Maybe S))
      → Runs k {S = S} (record {
        words = set s.words i (get_or s.words i 0);
        homes = homes;
        views = set s.views id (record v { calls = record v.calls { looked = n; spot = o } });
      })
  look_step i n o seeks homes =
      let same : set s.words i (get_or s.words i 0) ≡ s.words = set_self s.words i in
      let u : View = record v { calls = record v.calls { looked = n; spot = o } } in
      subst (λ (ws : List ℕ). Runs k {S = S} (record { words = ws; homes = homes; views = set s.views id u })) (sym same)
      (rule.keeps k s st id v me p is st.world st.histories st.marks st.pairs u s.words st.sound st.attended st.of_plan st.stored
      (rule.right k s st id v me p is) refl
      (λ z ne. (refl, λ j. refl)) (λ q ne. refl) (λ q d ne f r. refl) (λ q d ne f. f.counted) (λ q d ne f. f.told) refl (noted n o)
      (halting_same k s st st.world id p refl (λ q ne. refl))
      seeks homes)

-- where the lock has an entry, and none of so many places has it, there is a place left
more_left : (k : Plan) (entry : LockName → Option NodeName) (pairs : ℕ → ℕ) (l : LockName) (n : ℕ) → IsHashed k entry pairs
    → locks_of k ≤ MOST_LOCKS → (a : NodeName) → entry l ≡ Some a
    → ((i : ℕ) (b : NodeName) → i < n → IsNode k b → pairs i ≢ pair_number l.index b) → n < places_of k
more_left k entry pairs l n h few a there passed =
    let r = h.entered l a there in
    let low = r.1 in
    elim (cases_lt n (places_of k)) [
      | inl lt ↦ lt
      | inr ge ↦ elim (h.placed r.2.0 r.2.1) [
        | inl z ↦ absurd (let v = r.2.2 in omega (arith, z, v))
        | inr t ↦
            let same : t.0 ≡ l.index = pair_lock t.0 l.index t.1 a (let z = t.3 in omega (arith, z, few)) (omega (arith, low, few)) (sym t.5 ∙ r.2.2) in
            absurd (passed r.2.0 t.1 (let z = r.2.1 in omega (arith, z, ge)) t.2 (t.5 ∙ ap (λ (c : ℕ). pair_number c t.1) same))
      ]
    ]

pub look_plays : (k : Plan) (slots id : ℕ) (m : Me Slot View) (number : IsNumbered m.0) (v : Verb) (lock : ℕ) (pc : Pc)
    → halts k.mode ≡ true → lock < locks_of k → StandsOn m.0.calls v (lock_name lock) pc → erases pc ≡ true
    → m.0.calls.looked < places_of k
    → Allows (Stand k) slots id m (hash_at k m.0.calls.looked) (λ n. n) (SeesHash m)
look_plays k slots id m number v lock pc halting near acts has low s both long me small =
    let p = number.0 in
    let l = lock_name lock in
    let st : Runs k s = both.runs in
    let i : ℕ = m.0.calls.looked in
    let j : ℕ = hash_at k i in
    let few = st.lawful.locks in
    let x₀ : Running = running v acts.frame acts.trail in
    let o = st.seeks id m.0 me x₀ acts.rest acts.is (ap seeks_entry acts.place ∙ erase_seeks pc has) in
    let plan : m.0.who.plan ≡ k = planned k id m number v l pc acts s both me in
    let bare = bare k st.lawful.accounts (OfHash i) (halting, low) in
    let keep : (n : ℕ) (a : Option NodeName) → Sought k st.pairs acts.frame.lock.index n a
    → Stand k (record { words = set s.words j (get_or s.words j 0); homes = s.homes; views = set s.views id (record m.0 { calls = record m.0.calls { looked = n; spot = a } }) }) =
    λ n a sought. record {
      runs = look_step k s st id m.0 me p number.1 j n a
          (λ x rs frames h. subst (λ (z : LockName). Sought k st.pairs z.index n a) (top_lock acts.is frames) sought) s.homes;
      keeps = alters_at k s both.keeps id m.0 (record m.0 { calls = record m.0.calls { looked = n; spot = a } }) j (get_or s.words j 0) bare me refl
          (knows_same k both.keeps.journal m.0 (record m.0 { calls = record m.0.calls { looked = n; spot = a } }) (both.keeps.knows id m.0 me) refl refl refl refl (λ l x is. is)) refl refl;
    } in
    let value : ℕ = st.pairs i in
    let word : value ≡ get_or s.words j 0 = sym (st.stored.words (OfHash i) (halting, low) refl) in
    let decided : ((a : NodeName) × IsNode k a × (value ≡ pair_number lock a)) ⊎ (IsOther lock value × ((a : NodeName) → IsNode k a → value ≢ pair_number lock a)) =
    decide k st.world.entry st.pairs i lock (st.hashed halting) low near few in
    let lock_of : (x : Running) (rs : List Running) → m.0.calls.frames ≡ x ∷ rs → x.frame.lock.index ≡ lock =
    λ x rs frames. ap (λ (c : LockName). c.index) (sym (top_lock acts.is frames) ∙ acts.lock) in
    ⊎_elim
    (λ there. (
      spotted there.0 m.0,
      keeps,
      tt,
      keep i (Some there.0) (record {
        passed = o.passed;
        inside = o.inside;
        found = λ b e. (low, there.2 ∙ (ap (λ (c : LockName). pair_number c.index there.0) (sym acts.lock) ∙ ap (pair_number acts.frame.lock.index) (some_is e)));
      }),
      λ x rs frames. record {
        here = inl (
          there.0,
          subst (λ (q : Plan). IsNode q there.0) (sym plan) there.1,
          sym word ∙ (there.2 ∙ ap (λ (c : ℕ). pair_number c there.0) (sym (lock_of x rs frames))),
          refl,
        );
        inside = subst (λ (q : Plan). i < places_of q) (sym plan) low;
      },
    ))
    (λ none.
    let passed : (q : ℕ) (a : NodeName) → q < i + 1 → IsNode k a → st.pairs q ≢ pair_number acts.frame.lock.index a =
    λ q a lt fit. elim (cases_eq q i) [
      | inl same ↦ λ e. none.1 a fit (ap st.pairs (sym same) ∙ (e ∙ ap (λ (c : LockName). pair_number c.index a) acts.lock))
      | inr ne ↦ o.passed q a (omega (arith, lt, ne)) fit
    ] in
    let live = top_live k s st id m.0 me p number.1 (st.seats id m.0 p me number.1) x₀ acts.rest acts.is in
    let some = sought_entry st.world _ (waiter p acts.frame.ctx) acts.frame st.sound.spins (ap halts st.of_plan.mode ∙ halting) live
    (ap seeks_entry acts.place ∙ erase_seeks pc has) in
    let more : i + 1 < places_of k = more_left k st.world.entry st.pairs acts.frame.lock (i + 1) (st.hashed halting) few some.0 some.1 passed in (
      passed_on m.0,
      keeps,
      tt,
      keep (i + 1) None (record {
        passed = passed;
        inside = omega (arith, low);
        found = λ a e. absurd (none_some e);
      }),
      λ x rs frames. record {
        here = inr (subst (λ (z : ℕ). IsOther x.frame.lock.index z) word (subst (λ (c : ℕ). IsOther c value) (sym (lock_of x rs frames)) none.0), refl);
        inside = subst (λ (q : Plan). i + 1 < places_of q) (sym plan) more;
      },
    )) decided
  where
    some_is : {a b : NodeName} → Some a ≡ Some b → a ≡ b
    some_is e = grind (arith, e)

    top_lock : {x y : Running} {rs qs xs : List Running} → xs ≡ x ∷ rs → xs ≡ y ∷ qs → x.frame.lock ≡ y.frame.lock
    top_lock e q = ap (λ (z : Running). z.frame.lock) (head_is (sym e ∙ q))
      where
        head_is : {x y : Running} {rs qs : List Running} → (x ∷ rs) ≡ (y ∷ qs) → x ≡ y
        head_is e = grind (arith, e)

-- what the call asks, in which the word is named by its place
pub look_asks : (k plan : Plan) (slots id : ℕ) (m : Me Slot View) → IsNumbered m.0 → (i : ℕ) → k ≡ plan → halts plan.mode ≡ true
    → (lock : ℕ) → lock < locks_of plan → AtSeek (lock_name lock) m.0
    → (place : ℕ) → place < places_of plan → m.0.calls.looked ≡ place → i ≡ hash_at plan place
    → Allows (Stand k) slots id m i (λ n. n) (SeesHash m)
look_asks k plan slots id m number i same halting lock near h place low next at =
    subst (λ (j : ℕ). Allows (Stand k) slots id m j (λ n. n) (SeesHash m))
    (sym (at ∙ (λ j. hash_at (sym same j) (sym next j))))
    (look_plays k slots id m number h.verb lock h.row (ap (λ (q : Plan). halts q.mode) same ∙ halting)
    (subst (λ (q : Plan). lock < locks_of q) (sym same) near) h.stands h.is
    (subst (λ (c : ℕ). c < places_of k) (sym next) (subst (λ (q : Plan). place < places_of q) (sym same) low)))
