-- What the step calls ask by which a front of Dice and Kogan's lock stores the names of nodes.
use Rattle.std.proofs.Common.{eqb, false, ◌≡◌, ◌≢◌, ◌⊎◌, inl, inr, ℕ, get_or, Option, Some, None}
use Rattle.std.proofs.Common.{true, refl, sym, ap, ◌∙◌, subst, Bool, List, eq-eqb}
use Rattle.lk_domain.proofs.Names.{Allows, Me, State, keeps, get_elem?, some, NodeName, LockName}
use Rattle.lk_domain.proofs.Names.{Waiter, node_of, target, Pc, C3, C5, G1, Verb, node_cases}
use Rattle.lk_domain.proofs.Names.{if-true, moves_aside, chooses, choice_node, Linked, Named}
use Rattle.lk_domain.proofs.Names.{stored_in, looks_along, Uses, stores_next, stores_second, World}
use Rattle.lk_domain.proofs.Names.{Calls, Running, StandsOn, acting, frame_in, running, told}
use Rattle.lk_domain.proofs.Names.{told_in, Slot, went, waiter, Stand, IsNumbered, IsNode, OfNode}
use Rattle.lk_domain.proofs.Names.{link_number, marked, name_number, node_at, Plan, View}
use Rattle.lk_rows.specs.declared.parts.Pc.TheVariants.{C4, C6, C9}
use Rattle.lk_law.proofs.{cna.Knows.choice_is_used, cna.Named.second_tail_is_used}
use Rattle.lk_law.proofs.{common.Choices.aside_awake, running.Links.passed_is_used}
use Rattle.lk_law.specs.Nodes.{will_link}
use Rattle.lk_domain.proofs.{Acting.acting_is, Stacks.frame_in-top}
use Rattle.lk_domain.proofs.{queue.NodeStores.{next_here, tail_here}, queue.OnNodes.IsUsed}
use Rattle.lk_domain.proofs.queue.Relinks.{remarked, remarked_here, remarked_else, relinked}
use Rattle.lk_domain.proofs.rows.Changes.{IsAt, node_part, row_changes}
use Rattle.lk_domain.proofs.{rows.Sights.{IsSeen, Sees}, words.LockPlays.MayFree}
use Rattle.lk_domain.proofs.words.NodeWords.{stored_zero}
use Rattle.lk_domain.specs.NodePlays.{Names, SeesTail, AtAppend, AtCut, AtTail, AtNewTail, appends}
use Rattle.lk_domain.specs.NodePlays.{Relinks}
use Rattle.lk_domain.specs.declared.part.Part.TheVariants as part
use Rattle.lk_domain.proofs.rows.Lands as lands
use Rattle.lk_domain.proofs.queue.NodePlays as play

-- the rows free nothing

C3_frees : MayFree C3 → ⊥
C3_frees t = cc t.3

C4_frees : MayFree C4 → ⊥
C4_frees t = cc t.3

C9_frees : MayFree C9 → ⊥
C9_frees t = cc t.3

C5_frees : MayFree C5 → ⊥
C5_frees t = cc t.3

C6_frees : MayFree C6 → ⊥
C6_frees t = cc t.3

append_is : (c : Pc) → appends c ≡ true → (c ≡ C4) ⊎ (c ≡ C9)
append_is C4 h = inl refl
append_is C9 h = inr refl
append_is _ h = cc h

module _ (k : Plan) (slots id : ℕ) (m : Me Slot View) (number : IsNumbered m.0) (v : Verb) (lock : LockName) (pc : Pc)
    (acts : StandsOn m.0.calls v lock pc) (a : NodeName) (near : IsNode k a) (entry : pc ≢ G1)
    (calm : Sees pc m.0.calls.runs) (frees : MayFree pc → ⊥) (front : chooses pc ≡ true)
    (here : node_of (choice_node pc acts.frame) ≡ a) where
  -- a front of a family that moves waiters aside
  pub aside : (s : State Slot View) (both : Stand k s) → get_elem? s.views id ≡ some m.0
      → IsSeen pc (target pc acts.frame) (acting k.mode m.0.calls v lock.index).runs → moves_aside k.mode ≡ true
  aside s both me unseen =
      let st = both.runs in
      let go = play.acts' k id m number v lock pc acts s both me in
      let ask = play.asks k id m number v lock pc acts s both me in
      let at = lands.at k s st id m.0 me number.0 number.1 v lock pc ask go unseen in
      let live = lands.live k s st id m.0 me number.0 number.1 v lock pc ask go unseen in
      ap moves_aside (sym (at.acted.same.mode ∙ st.of_plan.mode))
      ∙ (at.acted.sound.spins.registers (waiter number.0 acts.frame.ctx) acts.frame live).choice.choice pc acts.place front

  -- a link is cut
  pub cut_link : (on : IsAt acts.frame (target pc acts.frame) (OfNode a part.Next)) → (looks_along pc ≡ true → ⊥)
      → ((n : World) (w : Waiter) → ((stored_in n w acts.frame pc (target pc acts.frame)).node a).next ≡ None)
      → Allows (Stand k) slots id m (node_at k a part.Next) (λ _. 0) (Relinks m)
  cut_link on off writes s both long me small =
      let world = play.world k slots id m number v lock pc acts a part.Next near entry calm on frees s both me refl in
      let marks = play.marks k slots id m number v lock pc acts a part.Next near entry calm on frees s both me refl in
      let w = waiter number.0 acts.frame.ctx in
      let x = (world.node a).next in
      let used = choice_is_used world _ w acts.frame pc
      (play.sound k slots id m number v lock pc acts a part.Next near entry calm on frees s both me refl)
      (play.live k slots id m number v lock pc acts a part.Next near entry calm on frees s both me refl) acts.place front in (
        went m.0 (Linked x (marks a)),
        keeps,
        tt,
        play.stands_marked k slots id m number v lock pc acts a part.Next near entry calm on frees s both me refl marks (λ b ne. refl)
            (play.leaves k slots id m number v lock pc acts a part.Next near entry calm on frees s both me refl
            (λ b c next. elim (node_cases b a) [
              | inl e ↦ absurd (none_some (sym (writes world w)
                  ∙ (ap (λ d. ((stored_in world w acts.frame pc (target pc acts.frame)).node d).next) (sym e) ∙ next)))
              | inr ne ↦ sym ((row_changes k world w acts.frame pc (target pc acts.frame) (OfNode a part.Next) on).links b (λ e. ne (node_part e).0)) ∙ next
            ]))
            0 (sym (ap (λ (o : Option NodeName). marked (marks a) (link_number o)) (writes world w) ∙ stored_zero (marks a) part.Next))
            (inr (subst (IsUsed world) here used)) (inl (λ e. cc e)) (Linked x (marks a)) refl (λ e. absurd (off e)),
        record {
          found = x;
          mark = marks a;
          word = play.word_is k slots id m number v lock pc acts a part.Next near entry calm on frees s both me refl;
          seat = refl;
        },
      )
    where
      none_some : {b : NodeName} → None ≡ Some b → ⊥
      none_some e = cc e

  -- a node is linked behind another, with the mark that the call was told with it
  pub tie_link : (on : IsAt acts.frame (target pc acts.frame) (OfNode a part.Next)) → (looks_along pc ≡ true → ⊥) → will_link pc acts.frame.why ≡ true
      → (next : NodeName) → acts.frame.a ≡ Some next → (mark : Bool) → told acts.trail ≡ Some (next, mark)
      → (i : ℕ) → i ≡ marked mark (name_number next)
      → ((n : World) (w : Waiter) → ((stored_in n w acts.frame pc (target pc acts.frame)).node a).next ≡ Some next)
      → Allows (Stand k) slots id m (node_at k a part.Next) (λ _. i) (Relinks m)
  tie_link on off will next first mark knows i is writes s both long me small =
      let world = play.world k slots id m number v lock pc acts a part.Next near entry calm on frees s both me refl in
      let marks = play.marks k slots id m number v lock pc acts a part.Next near entry calm on frees s both me refl in
      let sound = play.sound k slots id m number v lock pc acts a part.Next near entry calm on frees s both me refl in
      let live = play.live k slots id m number v lock pc acts a part.Next near entry calm on frees s both me refl in
      let w = waiter number.0 acts.frame.ctx in
      let x = (world.node a).next in
      let used = choice_is_used world _ w acts.frame pc sound live acts.place front in
      let passed = passed_is_used world _ w acts.frame pc sound live acts.place will in
      let ms = remarked a mark marks in
      let same = acting_is m.0.calls v lock pc acts k.mode in (
        went m.0 (Linked x (marks a)),
        keeps,
        tt,
        play.stands_marked k slots id m number v lock pc acts a part.Next near entry calm on frees s both me refl ms
            (λ b ne. remarked_else a mark marks b (λ e. ne e refl))
            (relinked world _ _ marks a mark sound
            (λ halting. let z : true ≡ false = sym halting ∙ aside_awake world.mode ((sound.registers w acts.frame live).choice.choice pc acts.place front) in cc z)
            (play.was_marked k slots id m number v lock pc acts a part.Next near entry calm on frees s both me refl)
            next (writes world w)
            (λ b ne. (row_changes k world w acts.frame pc (target pc acts.frame) (OfNode a part.Next) on).links b (λ e. ne (node_part e).0))
            (λ free. free passed.0 (subst (Uses world passed.0) (ap node_of first) passed.1))
            (λ u there.
            play.was_told k slots id m number v lock pc acts a part.Next near entry calm on frees s both me refl
            acts.frame.ctx acts.frame pc next mark u
            (ap (λ (c : Calls). frame_in c.frames acts.frame.ctx) same
            ∙ (ap (λ (rs : List Running). frame_in rs acts.frame.ctx) acts.is ∙ frame_in-top (running v acts.frame acts.trail) acts.rest))
            acts.place will first
            (ap (λ (c : Calls). told_in c.frames acts.frame.ctx) same
            ∙ (ap (λ (rs : List Running). told_in rs acts.frame.ctx) acts.is
            ∙ (if-true (eqb acts.frame.ctx acts.frame.ctx) (told acts.trail) (told_in acts.rest acts.frame.ctx)
            (eq-eqb acts.frame.ctx acts.frame.ctx refl) ∙ knows))) there))
            i (is ∙ (ap (λ (b : Bool). marked b (name_number next)) (sym (remarked_here a mark marks))
            ∙ ap (λ (o : Option NodeName). marked (ms a) (link_number o)) (sym (writes world w))))
            (inr (subst (IsUsed world) here used)) (inl (λ e. cc e)) (Linked x (marks a)) refl (λ e. absurd (off e)),
        record {
          found = x;
          mark = marks a;
          word = play.word_is k slots id m number v lock pc acts a part.Next near entry calm on frees s both me refl;
          seat = refl;
        },
      )

  -- a store of the last of a second queue
  pub names : (looks_along pc ≡ true → ⊥) → (on : IsAt acts.frame (target pc acts.frame) (OfNode a part.SecondTail)) (o : Option NodeName) (i : ℕ) → i ≡ link_number o
      → ((n : World) (w : Waiter) → ((stored_in n w acts.frame pc (target pc acts.frame)).node a).second_tail ≡ o)
      → Allows (Stand k) slots id m (node_at k a part.SecondTail) (λ _. i) (Names m)
  names off on o i is writes s both long me small =
      let has = aside s both me (tt, play.calm' k slots id m number v lock pc acts a part.SecondTail near entry calm on frees s both me) in
      let world = play.world k slots id m number v lock pc acts a part.SecondTail near entry calm on frees s both me has in
      let w = waiter number.0 acts.frame.ctx in
      let x = (world.node a).second_tail in
      let used = choice_is_used world _ w acts.frame pc
      (play.sound k slots id m number v lock pc acts a part.SecondTail near entry calm on frees s both me has)
      (play.live k slots id m number v lock pc acts a part.SecondTail near entry calm on frees s both me has) acts.place front in (
        went m.0 (Named x),
        keeps,
        tt,
        play.stands k slots id m number v lock pc acts a part.SecondTail near entry calm on frees s both me has (λ e. cc e) off i
            (is ∙ ap link_number (sym (writes world w))) (inr (subst (IsUsed world) here used)) (inl (λ e. cc e)) (Named x) refl,
        record {
          found = x;
          word = play.word_is k slots id m number v lock pc acts a part.SecondTail near entry calm on frees s both me has;
          seat = refl;
        },
      )

-- a look at the last of a second queue
tail_look : (k : Plan) (slots id : ℕ) (m : Me Slot View) → IsNumbered m.0 → (v : Verb) (lock : LockName)
    → (acts : StandsOn m.0.calls v lock C3) (a : NodeName) → IsNode k a → acts.frame.second ≡ Some a
    → Allows (Stand k) slots id m (node_at k a part.SecondTail) (λ n. n) (SeesTail m)
tail_look k slots id m number v lock acts a near second s both long me small =
    let tgt : node_of acts.frame.second ≡ a = ap node_of second in
    let e : C3 ≢ G1 = λ e. cc e in
    let has = aside k slots id m number v lock C3 acts a near e tt C3_frees refl tgt s both me (tt, tt) in
    let world = play.world k slots id m number v lock C3 acts a part.SecondTail near e tt tgt C3_frees s both me has in
    let x : Option NodeName = (world.node a).second_tail in
    let is = play.word_is k slots id m number v lock C3 acts a part.SecondTail near e tt tgt C3_frees s both me has in
    let seen = second_tail_is_used world _ (waiter number.0 acts.frame.ctx) acts.frame
    (play.sound k slots id m number v lock C3 acts a part.SecondTail near e tt tgt C3_frees s both me has)
    (play.live k slots id m number v lock C3 acts a part.SecondTail near e tt tgt C3_frees s both me has) acts.place in
    let named : x ≡ Some seen.0 = ap (λ c. (world.node c).second_tail) (sym tgt) ∙ seen.1 in (
      went m.0 (Named (Some seen.0)),
      keeps,
      tt,
      play.stands k slots id m number v lock C3 acts a part.SecondTail near e tt tgt C3_frees s both me has (λ e. cc e) (λ e. cc e)
          (get_or s.words (node_at k a part.SecondTail) 0) is (inl refl) (inl (λ e. cc e)) (Named (Some seen.0)) (ap Named (sym named)),
      record {
        found = seen.0;
        node = play.is_node k slots id m number v lock C3 acts a part.SecondTail near e tt tgt C3_frees s both me has seen.0 seen.2;
        word = is ∙ ap link_number named;
        seat = refl;
      },
    )

-- what the calls ask, in which the word is named by its place
module _ (k plan : Plan) (slots id : ℕ) (m : Me Slot View) (number : IsNumbered m.0) (v : Verb) (i : ℕ)
    (same : k ≡ plan) (a : NodeName) (near : IsNode plan a) where
  abbrev there : IsNode k a
  there = subst (λ (j : Plan). IsNode j a) (sym same) near

  pub cuts : i ≡ node_at plan a part.Next → AtCut a v m.0 → Allows (Stand k) slots id m i (λ _. 0) (Relinks m)
  cuts at acts =
      let here : node_of acts.at.stands.frame.b ≡ a = ap node_of acts.b in
      subst (λ (x : ℕ). Allows (Stand k) slots id m x (λ _. 0) (Relinks m)) (ap (λ (j : Plan). node_at j a part.Next) same ∙ sym at)
      (cut_link k slots id m number v acts.lock C5 acts.at.stands a there (λ e. cc e) tt C5_frees refl here here (λ e. cc e)
      (λ n w. ap (λ b. ((stores_next n b (Some None)).node a).next) here ∙ next_here n a (Some None)))

  append_at_C4 : (lock : LockName) (acts : StandsOn m.0.calls v lock C4) (next : NodeName) (mark : Bool) → acts.frame.t ≡ Some a
      → acts.frame.a ≡ Some next → told acts.trail ≡ Some (next, mark) → (x : ℕ) → x ≡ marked mark (name_number next)
      → Allows (Stand k) slots id m (node_at k a part.Next) (λ _. x) (Relinks m)
  append_at_C4 lock acts next mark t first knows x named =
      let here : node_of acts.frame.t ≡ a = ap node_of t in
      tie_link k slots id m number v lock C4 acts a there (λ e. cc e) tt C4_frees refl here here (λ e. cc e) refl next first mark knows x
      named
      (λ n w. ap (λ b. ((stores_next n b (Some acts.frame.a)).node a).next) here ∙ (next_here n a (Some acts.frame.a) ∙ first))

  append_at_C9 : (lock : LockName) (acts : StandsOn m.0.calls v lock C9) (next : NodeName) (mark : Bool) → acts.frame.t ≡ Some a
      → acts.frame.a ≡ Some next → told acts.trail ≡ Some (next, mark) → (x : ℕ) → x ≡ marked mark (name_number next)
      → Allows (Stand k) slots id m (node_at k a part.Next) (λ _. x) (Relinks m)
  append_at_C9 lock acts next mark t first knows x named =
      let here : node_of acts.frame.t ≡ a = ap node_of t in
      tie_link k slots id m number v lock C9 acts a there (λ e. cc e) tt C9_frees refl here here (λ e. cc e) refl next first mark knows x
      named
      (λ n w. ap (λ b. ((stores_next n b (Some acts.frame.a)).node a).next) here ∙ (next_here n a (Some acts.frame.a) ∙ first))

  append_on : (lock : LockName) (pc : Pc) → (pc ≡ C4) ⊎ (pc ≡ C9) → (acts : StandsOn m.0.calls v lock pc) (next : NodeName)
      (mark : Bool) → acts.frame.t ≡ Some a → acts.frame.a ≡ Some next → told acts.trail ≡ Some (next, mark)
      → (x : ℕ) → x ≡ marked mark (name_number next)
      → Allows (Stand k) slots id m (node_at k a part.Next) (λ _. x) (Relinks m)
  append_on lock pc (inl e) =
      subst (λ (c : Pc). (acts : StandsOn m.0.calls v lock c) (next : NodeName) (mark : Bool) → acts.frame.t ≡ Some a
      → acts.frame.a ≡ Some next → told acts.trail ≡ Some (next, mark) → (x : ℕ) → x ≡ marked mark (name_number next)
      → Allows (Stand k) slots id m (node_at k a part.Next) (λ _. x) (Relinks m)) (sym e) (append_at_C4 lock)
  append_on lock pc (inr e) =
      subst (λ (c : Pc). (acts : StandsOn m.0.calls v lock c) (next : NodeName) (mark : Bool) → acts.frame.t ≡ Some a
      → acts.frame.a ≡ Some next → told acts.trail ≡ Some (next, mark) → (x : ℕ) → x ≡ marked mark (name_number next)
      → Allows (Stand k) slots id m (node_at k a part.Next) (λ _. x) (Relinks m)) (sym e) (append_at_C9 lock)

  pub appends_to : i ≡ node_at plan a part.Next → (next : NodeName) (mark : Bool) → AtAppend a next mark v m.0 → (x : ℕ)
      → x ≡ marked mark (name_number next) → Allows (Stand k) slots id m i (λ _. x) (Relinks m)
  appends_to at next mark acts x named =
      subst (λ (y : ℕ). Allows (Stand k) slots id m y (λ _. x) (Relinks m)) (ap (λ (j : Plan). node_at j a part.Next) same ∙ sym at)
      (append_on acts.lock acts.row (append_is acts.row acts.is) acts.at.stands next mark acts.t acts.a acts.marks x named)

  pub sets_tail : i ≡ node_at plan a part.SecondTail → (tail : NodeName) → AtNewTail a tail v m.0 → (x : ℕ)
      → x ≡ name_number tail → Allows (Stand k) slots id m i (λ _. x) (Names m)
  sets_tail at tail acts x named =
      let here : node_of acts.at.stands.frame.second ≡ a = ap node_of acts.second in
      subst (λ (y : ℕ). Allows (Stand k) slots id m y (λ _. x) (Names m)) (ap (λ (j : Plan). node_at j a part.SecondTail) same ∙ sym at)
      (names k slots id m number v acts.lock C6 acts.at.stands a there (λ e. cc e) tt C6_frees refl here (λ e. cc e) here acts.at.stands.frame.b x
      (named ∙ ap link_number (sym acts.b))
      (λ n w. ap (λ b. ((stores_second n b (Some acts.at.stands.frame.b)).node a).second_tail) here ∙ tail_here n a (Some acts.at.stands.frame.b)))

  pub looks_tail : i ≡ node_at plan a part.SecondTail → AtTail a v m.0 → Allows (Stand k) slots id m i (λ n. n) (SeesTail m)
  looks_tail at acts =
      subst (λ (x : ℕ). Allows (Stand k) slots id m x (λ n. n) (SeesTail m)) (ap (λ (j : Plan). node_at j a part.SecondTail) same ∙ sym at)
      (tail_look k slots id m number v acts.lock acts.at.stands a there acts.second)
