-- What the step calls ask by which a front looks for the next, tells it the count of handovers, and
-- hands it the lead.
use Rattle.std.proofs.Common.{◌≡◌, ◌≢◌, ◌⊎◌, inl, inr, ℕ, ◌+◌, ◌<◌, get_or, set, Option, Some, None}
use Rattle.std.proofs.Common.{Bool, true, false, IfSome, refl, sym, ap, ◌∙◌, subst, arith, List}
use Rattle.std.proofs.Common.{◌∷◌, is_some, if◌then◌else◌}
use Rattle.lk_domain.proofs.Names.{Allows, Me, State, keeps, get_elem?, some, NodeName, LockName}
use Rattle.lk_domain.proofs.Names.{Waiter, node_of, Effect, target, Flag, Unset, Frame, Node, Pc}
use Rattle.lk_domain.proofs.Names.{C1, C2, C7, C8, G1, G10, G11, Verb, Sight, search_on}
use Rattle.lk_domain.proofs.Names.{moves_aside, chooses, choice_node, Flagged, Linked, Named}
use Rattle.lk_domain.proofs.Names.{Number, stored_in, looks_along, Uses, sight_in, stores_flag}
use Rattle.lk_domain.proofs.Names.{stores_next, stores_runs, World, Frees, Running, StandsOn}
use Rattle.lk_domain.proofs.Names.{Unchanged, grip_led, running, Slot, Hands, SeesLink}
use Rattle.lk_domain.proofs.Names.{looks_behind, went, IsStored, Runs, SeatFits, waiter, Stand}
use Rattle.lk_domain.proofs.Names.{IsNumbered, IsNode, OfNode, balance_at, flag_number, link_number}
use Rattle.lk_domain.proofs.Names.{marked, node_at, version_at, Plan, View}
use Rattle.lk_rows.specs.rows.Cna.{may_stay, search_first, flag_for}
use Rattle.lk_law.proofs.cna.Knows.{choice_is_used, run_is_short}
use Rattle.lk_law.proofs.cna.Named.{behind_is_used, chosen_waits_for_it}
use Rattle.lk_law.proofs.common.Choices.{aside_awake}
use Rattle.lk_domain.proofs.{journals.Purses.{alters, knows_same}, queue.ChoicePlays.aside}
use Rattle.lk_domain.proofs.{queue.LockSwaps.set_self, queue.NodePlays.{link_look, hand_on}}
use Rattle.lk_domain.proofs.queue.NodeStores.{flag_here, runs_here}
use Rattle.lk_domain.proofs.{queue.OnNodes.{IsUsed, top_live}, rows.Changes.IsAt}
use Rattle.lk_domain.proofs.{rows.Kept.halting_same, rows.Sights.Sees, rows.Users.IsTrue}
use Rattle.lk_domain.proofs.words.LockPlays.{MayFree}
use Rattle.lk_domain.specs.NodePlays.{counting, Counted, Tells, AtLink, AtSkipped, AtNext}
use Rattle.lk_domain.specs.NodePlays.{AtOwnRuns, AtRuns, hands, counts, flag_told}
use Rattle.lk_domain.specs.Runs.{HasCounted}
use Rattle.lk_domain.specs.declared.part.Part.TheVariants as part
use Rattle.lk_domain.proofs.rows.Kept as rule
use Rattle.lk_domain.proofs.queue.NodePlays as play

-- a row that only looks

pub record IsLook {A : Type 0} (o : Effect A) : Type 0 where
  pub stores : o.stores ≡ None
  pub grip : grip_led o.leads ≡ Unchanged

either : {A : Type 0} (b : Bool) (x y : Effect A) → IsLook x → IsLook y → IsLook (if b then x else y)
either true x y h k = h
either false x y h k = k

pub first_looks : (s : Sight) (second x : Option NodeName) → IsLook (search_first s second x)
first_looks s None None = record { stores = refl; grip = refl }
first_looks s (Some m) None = record { stores = refl; grip = refl }
first_looks s None (Some n) =
    either (may_stay s) _ _
    (either (s.local n) _ _ (record { stores = refl; grip = refl }) (record { stores = refl; grip = refl }))
    (record { stores = refl; grip = refl })
first_looks s (Some m) (Some n) =
    either (may_stay s) _ _
    (either (s.local n) _ _ (record { stores = refl; grip = refl }) (record { stores = refl; grip = refl }))
    (record { stores = refl; grip = refl })

pub more_looks : (s : Sight) (f : Frame) (x : Option NodeName) → IsLook (search_on s f x)
more_looks s f None =
    either (is_some f.second) _ _ (record { stores = refl; grip = refl }) (record { stores = refl; grip = refl })
more_looks s f (Some n) =
    either (s.local n) _ _
    (either (is_some f.second) _ _ (record { stores = refl; grip = refl }) (record { stores = refl; grip = refl }))
    (record { stores = refl; grip = refl })

unchanged : Unchanged ≡ Frees → ⊥
unchanged e = cc e

C1_frees : MayFree C1 → ⊥
C1_frees t =
    unchanged (sym (first_looks (sight_in t.0 t.1 t.2) t.2.second (t.0.node (node_of t.2.me)).next).grip ∙ t.3)

C2_frees : MayFree C2 → ⊥
C2_frees t = unchanged (sym (more_looks (sight_in t.0 t.1 t.2) t.2 (t.0.node (node_of t.2.b)).next).grip ∙ t.3)

C7_frees : MayFree C7 → ⊥
C7_frees t = cc t.3

C8_frees : MayFree C8 → ⊥
C8_frees t = cc t.3

along_front : (c : Pc) → looks_along c ≡ true → chooses c ≡ true
along_front C1 h = refl
along_front C2 h = refl
along_front _ h = cc h

-- a look along the links
along : (k : Plan) (slots id : ℕ) (m : Me Slot View) → IsNumbered m.0 → (v : Verb) (lock : LockName) (pc : Pc)
    → (acts : StandsOn m.0.calls v lock pc) (a : NodeName) → IsNode k a → pc ≢ G1 → Sees pc m.0.calls.runs
    → (MayFree pc → ⊥) → looks_along pc ≡ true → IsAt acts.frame (target pc acts.frame) (OfNode a part.Next)
    → node_of (choice_node pc acts.frame) ≡ a
    → ((n : World) (w : Waiter) → (stored_in n w acts.frame pc (target pc acts.frame)).node ≡ n.node)
    → Allows (Stand k) slots id m (node_at k a part.Next) (λ n. n) (SeesLink m)
along k slots id m number v lock pc acts a near entry sees frees along_it tgt here still s both long me small =
    let world = play.world k slots id m number v lock pc acts a part.Next near entry sees tgt frees s both me refl in
    let y : Option NodeName = (world.node a).next in
    let marks = play.marks k slots id m number v lock pc acts a part.Next near entry sees tgt frees s both me refl in
    let sound = play.sound k slots id m number v lock pc acts a part.Next near entry sees tgt frees s both me refl in
    let live = play.live k slots id m number v lock pc acts a part.Next near entry sees tgt frees s both me refl in
    let is : get_or s.words (node_at k a part.Next) 0 ≡ marked (marks a) (link_number y) =
    play.word_is k slots id m number v lock pc acts a part.Next near entry sees tgt frees s both me refl in
    let w = waiter number.0 acts.frame.ctx in
    let there : (o : Option NodeName) → y ≡ o → IfSome o (IsNode m.0.who.plan) =
    λ o e'. linked o (λ b q.
    play.is_node k slots id m number v lock pc acts a part.Next near entry sees tgt frees s both me refl b
    (behind_is_used world _ w acts.frame pc b sound live acts.place along_it (ap (λ c. (world.node c).next) here ∙ (e' ∙ q)))) in
    -- what the mark says is true of the call that uses the node which is named
    let true_ : IsTrue world pc (Linked y (marks a)) =
    λ first b names.
    let named : (world.node a).next ≡ Some b = name_is names in
    let user = behind_is_used world _ w acts.frame pc b sound live acts.place along_it (ap (λ c. (world.node c).next) here ∙ named) in
    let owner = choice_is_used world _ w acts.frame pc sound live acts.place (along_front pc along_it) in (
      λ free. free user.0 user.1,
      λ u used. (play.was_marked k slots id m number v lock pc acts a part.Next near entry sees tgt frees s both me refl).says
          (aside_awake world.mode ((sound.registers w acts.frame live).choice.choice pc acts.place (along_front pc along_it))) a b owner.0 u
          (subst (Uses world owner.0) here owner.1) named used,
    ) in (
      went m.0 (Linked y (marks a)),
      keeps,
      tt,
      play.stands_marked k slots id m number v lock pc acts a part.Next near entry sees tgt frees s both me refl marks (λ b ne. refl)
          (play.leaves k slots id m number v lock pc acts a part.Next near entry sees tgt frees s both me refl
          (λ b c h. ap (λ (g : NodeName → Node). (g b).next) (sym (still world w)) ∙ h))
          (get_or s.words (node_at k a part.Next) 0)
          (is ∙ ap (λ (g : NodeName → Node). marked (marks a) (link_number (g a).next)) (sym (still world w))) (inl (still world w))
          (inl (λ e. cc e)) (Linked y (marks a)) refl true_,
      record { found = y; mark = marks a; node = there y refl; word = is; seat = refl },
    )
  where
    linked : (o : Option NodeName) → ((b : NodeName) → o ≡ Some b → IsNode m.0.who.plan b) → IfSome o (IsNode m.0.who.plan)
    linked None h = tt
    linked (Some b) h = h b refl

    name_is : {o : Option NodeName} {b : NodeName} → Named o ≡ Named (Some b) → o ≡ Some b
    name_is e = cc e

stored_none : (n : World) (b : NodeName) (o : Option (Option NodeName)) → o ≡ None → (stores_next n b o).node ≡ n.node
stored_none n b o e = ap (λ (x : Option (Option NodeName)). (stores_next n b x).node) e

first_look : (k : Plan) (slots id : ℕ) (m : Me Slot View) → IsNumbered m.0 → (v : Verb) (lock : LockName)
    → (acts : StandsOn m.0.calls v lock C1) (a : NodeName) → IsNode k a → is_some m.0.calls.runs ≡ true
    → acts.frame.me ≡ Some a → Allows (Stand k) slots id m (node_at k a part.Next) (λ n. n) (SeesLink m)
first_look k slots id m number v lock acts a near sees own =
    let tgt : node_of acts.frame.me ≡ a = ap node_of own in
    along k slots id m number v lock C1 acts a near (λ e. cc e) sees C1_frees refl tgt tgt
    (λ n w. stored_none n (node_of acts.frame.me) _
    (first_looks (sight_in n w acts.frame) acts.frame.second (n.node (node_of acts.frame.me)).next).stores)

more_look : (k : Plan) (slots id : ℕ) (m : Me Slot View) → IsNumbered m.0 → (v : Verb) (lock : LockName)
    → (acts : StandsOn m.0.calls v lock C2) (a : NodeName) → IsNode k a → acts.frame.b ≡ Some a
    → Allows (Stand k) slots id m (node_at k a part.Next) (λ n. n) (SeesLink m)
more_look k slots id m number v lock acts a near skipped =
    let tgt : node_of acts.frame.b ≡ a = ap node_of skipped in
    along k slots id m number v lock C2 acts a near (λ e. cc e) tt C2_frees refl tgt tgt
    (λ n w. stored_none n (node_of acts.frame.b) _
    (more_looks (sight_in n w acts.frame) acts.frame (n.node (node_of acts.frame.b)).next).stores)

-- the lead is handed to the chosen one
choose_on : (k : Plan) (slots id : ℕ) (m : Me Slot View) → IsNumbered m.0 → (v : Verb) (lock : LockName)
    → (acts : StandsOn m.0.calls v lock C8) (a : NodeName) → IsNode k a → acts.frame.y ≡ Some a
    → (i : ℕ) → i ≡ flag_number (flag_for acts.frame.second)
    → Allows (Stand k) slots id m (node_at k a part.Flag) (λ _. i) (Hands m)
choose_on k slots id m number v lock acts a near to i named s both long me small =
    let tgt : node_of acts.frame.y ≡ a = ap node_of to in
    let e : C8 ≢ G1 = λ e. cc e in
    let world = play.world k slots id m number v lock C8 acts a part.Flag near e tt tgt C8_frees s both me refl in
    let is = play.word_is k slots id m number v lock C8 acts a part.Flag near e tt tgt C8_frees s both me refl in
    let w = waiter number.0 acts.frame.ctx in
    let sound = play.sound k slots id m number v lock C8 acts a part.Flag near e tt tgt C8_frees s both me refl in
    let live = play.live k slots id m number v lock C8 acts a part.Flag near e tt tgt C8_frees s both me refl in
    let waits = chosen_waits_for_it world _ w acts.frame C8 sound live acts.place refl in
    let unset : (world.node a).flag ≡ Unset = ap (λ b. (world.node b).flag) (sym tgt) ∙ waits.0 in
    let used = choice_is_used world _ w acts.frame C8 sound live acts.place refl in (
      went m.0 (Flagged Unset),
      keeps,
      tt,
      play.stands k slots id m number v lock C8 acts a part.Flag near e tt tgt C8_frees s both me refl (λ e. cc e) (λ e. cc e) i
          (named ∙ sym (ap flag_number
          (ap (λ b. ((stores_flag world b (Some (flag_for acts.frame.second))).node a).flag) tgt
          ∙ flag_here world a (Some (flag_for acts.frame.second)))))
          (inr (subst (IsUsed world) tgt used)) (inl (λ e. cc e)) (Flagged Unset) (ap Flagged (sym unset)),
      (is ∙ ap flag_number unset, refl),
    )

-- the count that the next is told
count_told : (o : Option NodeName) (r n : ℕ) → (o ≡ None → n ≡ 0)
    → (is_some o ≡ true → n ≡ r + 1) → n ≡ (if is_some o then r + 1 else 0)
count_told None r n alone aside = alone refl
count_told (Some b) r n alone aside = aside refl

tell_on : (k : Plan) (slots id : ℕ) (m : Me Slot View) → IsNumbered m.0 → (v : Verb) (lock : LockName)
    → (acts : StandsOn m.0.calls v lock C7) (a : NodeName) → IsNode k a → acts.frame.y ≡ Some a
    → (n : ℕ) → (acts.frame.second ≡ None → n ≡ 0)
    → (is_some acts.frame.second ≡ true → (r : ℕ) × (m.0.calls.runs ≡ Some r) × (n ≡ r + 1))
    → Allows (Stand k) slots id m (node_at k a part.Runs) (λ _. n) (Tells m)
tell_on k slots id m number v lock acts a near to n alone more s both long me small =
    let tgt : node_of acts.frame.y ≡ a = ap node_of to in
    let e : C7 ≢ G1 = λ e. cc e in
    let has = aside k slots id m number v lock C7 acts a near e tt C7_frees refl tgt s both me (tt, tt) in
    let world = play.world k slots id m number v lock C7 acts a part.Runs near e tt tgt C7_frees s both me has in
    let is = play.word_is k slots id m number v lock C7 acts a part.Runs near e tt tgt C7_frees s both me has in
    let w = waiter number.0 acts.frame.ctx in
    let x : ℕ = (world.node a).runs in
    let sound = play.sound k slots id m number v lock C7 acts a part.Runs near e tt tgt C7_frees s both me has in
    let live = play.live k slots id m number v lock C7 acts a part.Runs near e tt tgt C7_frees s both me has in
    let waits = chosen_waits_for_it world _ w acts.frame C7 sound live acts.place refl in
    let used = choice_is_used world _ w acts.frame C7 sound live acts.place refl in
    let own = play.own_count k slots id m number v lock C7 acts a part.Runs near e tt tgt C7_frees s both me has in
    let told : n ≡ (if is_some acts.frame.second then (sight_in world w acts.frame).runs + 1 else 0) =
    count_told acts.frame.second (sight_in world w acts.frame).runs n alone
    (λ h. let c = more h in c.2 ∙ ap (λ (j : ℕ). j + 1) (sym (own c.0 c.1))) in (
      went m.0 (Number x),
      keeps,
      tt,
      play.stands k slots id m number v lock C7 acts a part.Runs near e tt tgt C7_frees s both me has (λ e. cc e) (λ e. cc e) n
          (told ∙ sym (ap (λ b. ((stores_runs world b (Some (if is_some acts.frame.second then (sight_in world w acts.frame).runs + 1 else 0))).node a).runs) tgt
          ∙ runs_here world a (Some (if is_some acts.frame.second then (sight_in world w acts.frame).runs + 1 else 0))))
          (inr (subst (IsUsed world) tgt used))
          (inr (λ u uses on. off (waits.1 u on.frame on.row (subst (Uses world u) (sym tgt) uses) on.live on.place) on.front))
          (Number x) refl,
      (λ j. (went m.0 (Number (sym is j)), m.1)),
    )
  where
    off : {b : Bool} → b ≡ false → b ≡ true → ⊥
    off h g = let z : false ≡ true = sym h ∙ g in cc z

-- the count in the own node is read
top_is : (x y : Running) (xs ys : List Running) → x ∷ xs ≡ y ∷ ys → x ≡ y
top_is x y xs ys e = ap (λ (rs : List Running). top rs) e
  where
    top : List Running → Running
    top (z ∷ zs) = z
    top _ = x

some_is : {a b : ℕ} → Some a ≡ Some b → a ≡ b
some_is e = grind (arith, e)

module _ (k : Plan) (slots id : ℕ) (m : Me Slot View) (number : IsNumbered m.0) (v : Verb) (lock : LockName) (pc : Pc)
    (acts : StandsOn m.0.calls v lock pc) (front : chooses pc ≡ true) (a : NodeName) (near : IsNode k a)
    (own : acts.frame.me ≡ Some a) (s : State Slot View) (both : Stand k s)
    (me : get_elem? s.views id ≡ some m.0) where
  abbrev st : Runs k s
  st = both.runs

  abbrev p : ℕ
  p = number.0

  abbrev j : ℕ
  j = node_at k a part.Runs

  abbrev n : ℕ
  n = get_or s.words j 0

  abbrev u : View
  u = counting n m.0

  fits : SeatFits st.world p m.0.calls
  fits = st.seats id m.0 p me number.1

  is_aside : moves_aside k.mode ≡ true
  is_aside =
      ap moves_aside (sym st.of_plan.mode)
      ∙ (st.sound.spins.registers (waiter p acts.frame.ctx) acts.frame
      (top_live k s st id m.0 me p number.1 fits (running v acts.frame acts.trail) acts.rest acts.is)).choice.choice pc acts.place front

  count_is : (st.world.node (node_of acts.frame.me)).runs ≡ n
  count_is = ap (λ (b : Option NodeName). (st.world.node (node_of b)).runs) own ∙ sym (st.stored.words (OfNode a part.Runs) near is_aside)

  same_words : set s.words j n ≡ s.words
  same_words = set_self s.words j

  counted : (r : ℕ) (x : Running) (rs : List Running) → Some n ≡ Some r → m.0.calls.frames ≡ x ∷ rs → HasCounted st.world x r
  counted r x rs runs frames =
      subst (λ (z : Running). HasCounted st.world z r)
      (top_is (running v acts.frame acts.trail) x acts.rest rs (sym acts.is ∙ frames))
      (record { row = pc; place = acts.place; front = front; is = count_is ∙ some_is runs })

  pub reads : Stand k (record { words = set s.words j n; homes = s.homes; views = set s.views id u })
  reads =
      record {
        runs = rule.keeps k s st id m.0 me p number.1 st.world st.histories st.marks st.pairs u (set s.words j n) st.sound st.attended st.of_plan
            (subst (IsStored k st.world st.marks st.pairs) (sym same_words) st.stored) (rule.right k s st id m.0 me p number.1) (ap (λ (ws : List ℕ). get_or ws 0 0) same_words)
            (λ x ne. (refl, λ i. refl)) (λ q ne. refl) (λ q d ne f r. refl) (λ q d ne f. f.counted) (λ q d ne f. f.told) refl
            (record {
              mirrors = record { frames = fits.mirrors.frames; holds = fits.mirrors.holds };
              stacked = fits.stacked;
              few = fits.few;
              placed = fits.placed;
              rests = fits.rests;
              held = fits.held;
              fresh = fits.fresh;
              reset = fits.reset;
              counted = counted;
              told = fits.told;
              single = fits.single;
              halted = fits.halted;
            })
            (halting_same k s st st.world id p refl (λ q ne. refl)) (st.seeks id m.0 me) s.homes;
        keeps = alters k s both.keeps id m.0 u (set s.words j n) me refl
            (knows_same k both.keeps.journal m.0 u (both.keeps.knows id m.0 me) refl refl refl refl (λ l m is. is))
            (ap (λ (ws : List ℕ). get_or ws 0 0) same_words) (ap (λ (ws : List ℕ). get_or ws version_at 0) same_words)
            (λ b lt. ap (λ (ws : List ℕ). get_or ws (balance_at k b) 0) same_words) refl refl;
      }

  -- where it tells the next of a second queue there is room for one more
  pub short : (verb : Verb) (lock' : LockName) (at : StandsOn m.0.calls verb lock' C7) → is_some at.frame.second ≡ true → n < m.0.who.plan.threshold
  short verb lock' at named =
      let same : running verb at.frame at.trail ≡ running v acts.frame acts.trail =
      top_is (running verb at.frame at.trail) (running v acts.frame acts.trail) at.rest acts.rest (sym at.is ∙ acts.is) in
      let less = run_is_short st.world _ (waiter p at.frame.ctx) at.frame st.sound.spins
      (top_live k s st id m.0 me p number.1 fits (running verb at.frame at.trail) at.rest at.is) at.place named in
      let here : (st.world.node (node_of at.frame.me)).runs ≡ n =
      ap (λ (r : Running). (st.world.node (node_of r.frame.me)).runs) same ∙ count_is in
      let threshold : st.world.threshold ≡ m.0.who.plan.threshold =
      st.of_plan.threshold ∙ ap (λ (q : Plan). q.threshold) (sym (st.planned id m.0 p me number.1)) in
      omega (arith, less, here, threshold)

runs_look : (k : Plan) (slots id : ℕ) (m : Me Slot View) (number : IsNumbered m.0) (v : Verb) (lock : LockName) (pc : Pc)
    (acts : StandsOn m.0.calls v lock pc) → chooses pc ≡ true → (a : NodeName) → IsNode k a → acts.frame.me ≡ Some a
    → Allows (Stand k) slots id m (node_at k a part.Runs) (λ n. n) (Counted m)
runs_look k slots id m number v lock pc acts front a near own s both long me small = (
  u k slots id m number v lock pc acts front a near own s both me,
  keeps,
  tt,
  reads k slots id m number v lock pc acts front a near own s both me,
  record { seat = refl; short = short k slots id m number v lock pc acts front a near own s both me },
)

-- the rows of each kind

link_row : (c : Pc) → looks_behind c ≡ true → (c ≡ G10) ⊎ (c ≡ C1)
link_row G10 h = inl refl
link_row C1 h = inr refl
link_row _ h = cc h

pub hand_row : (c : Pc) → hands c ≡ true → (c ≡ G11) ⊎ (c ≡ C8)
hand_row G11 h = inl refl
hand_row C8 h = inr refl
hand_row _ h = cc h

count_front : (c : Pc) → counts c ≡ true → chooses c ≡ true
count_front C1 h = refl
count_front C7 h = refl
count_front _ h = cc h

-- what the calls ask, in which the word is named by its place
module _ (k plan : Plan) (slots id : ℕ) (m : Me Slot View) (number : IsNumbered m.0) (v : Verb) (i : ℕ)
    (same : k ≡ plan) (a : NodeName) (near : IsNode plan a) where
  abbrev there : IsNode k a
  there = subst (λ (j : Plan). IsNode j a) (sym same) near

  link_at : (lock : LockName) (c : Pc) → (c ≡ G10) ⊎ (c ≡ C1) → (acts : StandsOn m.0.calls v lock c) → acts.frame.me ≡ Some a
      → (c ≡ C1 → is_some m.0.calls.runs ≡ true) → Allows (Stand k) slots id m (node_at k a part.Next) (λ n. n) (SeesLink m)
  link_at lock c (inl e) =
      subst (λ (d : Pc). (acts : StandsOn m.0.calls v lock d) → acts.frame.me ≡ Some a → (d ≡ C1 → is_some m.0.calls.runs ≡ true)
      → Allows (Stand k) slots id m (node_at k a part.Next) (λ n. n) (SeesLink m)) (sym e)
      (λ acts own seen. link_look k slots id m number v lock acts a there own)
  link_at lock c (inr e) =
      subst (λ (d : Pc). (acts : StandsOn m.0.calls v lock d) → acts.frame.me ≡ Some a → (d ≡ C1 → is_some m.0.calls.runs ≡ true)
      → Allows (Stand k) slots id m (node_at k a part.Next) (λ n. n) (SeesLink m)) (sym e)
      (λ acts own seen. first_look k slots id m number v lock acts a there (seen refl) own)

  pub looks_link : i ≡ node_at plan a part.Next → AtLink a v m.0 → Allows (Stand k) slots id m i (λ n. n) (SeesLink m)
  looks_link at acts =
      subst (λ (x : ℕ). Allows (Stand k) slots id m x (λ n. n) (SeesLink m)) (ap (λ (j : Plan). node_at j a part.Next) same ∙ sym at)
      (link_at acts.lock acts.row (link_row acts.row acts.is) acts.at.stands acts.me acts.seen)

  pub looks_on : i ≡ node_at plan a part.Next → AtSkipped a v m.0 → Allows (Stand k) slots id m i (λ n. n) (SeesLink m)
  looks_on at acts =
      subst (λ (x : ℕ). Allows (Stand k) slots id m x (λ n. n) (SeesLink m)) (ap (λ (j : Plan). node_at j a part.Next) same ∙ sym at)
      (more_look k slots id m number v acts.lock acts.at.stands a there acts.b)

  hand_at : (lock : LockName) (c : Pc) (flag : Flag) → (c ≡ G11) ⊎ (c ≡ C8) → (acts : StandsOn m.0.calls v lock c) → acts.frame.y ≡ Some a
      → flag ≡ flag_told c acts.frame → (x : ℕ) → x ≡ flag_number flag
      → Allows (Stand k) slots id m (node_at k a part.Flag) (λ _. x) (Hands m)
  hand_at lock c flag (inl e) =
      subst (λ (d : Pc). (acts : StandsOn m.0.calls v lock d) → acts.frame.y ≡ Some a → flag ≡ flag_told d acts.frame
      → (x : ℕ) → x ≡ flag_number flag → Allows (Stand k) slots id m (node_at k a part.Flag) (λ _. x) (Hands m)) (sym e)
      (λ acts to told x named.
      subst (λ (z : ℕ). Allows (Stand k) slots id m (node_at k a part.Flag) (λ _. z) (Hands m))
      (sym (named ∙ ap flag_number told)) (hand_on k slots id m number v lock acts a there to))
  hand_at lock c flag (inr e) =
      subst (λ (d : Pc). (acts : StandsOn m.0.calls v lock d) → acts.frame.y ≡ Some a → flag ≡ flag_told d acts.frame
      → (x : ℕ) → x ≡ flag_number flag → Allows (Stand k) slots id m (node_at k a part.Flag) (λ _. x) (Hands m)) (sym e)
      (λ acts to told x named. choose_on k slots id m number v lock acts a there to x (named ∙ ap flag_number told))

  pub hands_over : i ≡ node_at plan a part.Flag → (flag : Flag) → AtNext a flag v m.0 → (x : ℕ) → x ≡ flag_number flag
      → Allows (Stand k) slots id m i (λ _. x) (Hands m)
  hands_over at flag acts x named =
      subst (λ (y : ℕ). Allows (Stand k) slots id m y (λ _. x) (Hands m)) (ap (λ (j : Plan). node_at j a part.Flag) same ∙ sym at)
      (hand_at acts.lock acts.row flag (hand_row acts.row acts.is) acts.at.stands acts.y acts.told x named)

  pub looks_runs : i ≡ node_at plan a part.Runs → AtOwnRuns a v m.0 → Allows (Stand k) slots id m i (λ n. n) (Counted m)
  looks_runs at acts =
      subst (λ (x : ℕ). Allows (Stand k) slots id m x (λ n. n) (Counted m)) (ap (λ (j : Plan). node_at j a part.Runs) same ∙ sym at)
      (runs_look k slots id m number v acts.lock acts.row acts.at.stands (count_front acts.row acts.is) a there acts.me)

  pub tells : i ≡ node_at plan a part.Runs → (n : ℕ) → AtRuns a n v m.0 → Allows (Stand k) slots id m i (λ _. n) (Tells m)
  tells at n acts =
      subst (λ (x : ℕ). Allows (Stand k) slots id m x (λ _. n) (Tells m)) (ap (λ (j : Plan). node_at j a part.Runs) same ∙ sym at)
      (tell_on k slots id m number v acts.lock acts.at.stands a there acts.y n acts.alone acts.aside)
