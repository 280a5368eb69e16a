-- What the steps on flags and links ask where processors halt: a look at the own flag, one at the own link, and the handover.
use Rattle.std.proofs.Common.{◌≡◌, ◌≢◌, inl, inr, ℕ, get_or, Option, Some, None, Bool, true, false}
use Rattle.std.proofs.Common.{IfSome, refl, sym, ap, ◌∙◌, subst, ◌⊎◌, ⊎_elim, if◌then◌else◌}
use Rattle.lk_domain.proofs.Names.{Allows, Me, keeps, NodeName, LockName, Mode, Cna, Native, Pv}
use Rattle.lk_domain.proofs.Names.{Virt, node_of, Effect, target, Flag, Go, Second, Unset, Node, Pc}
use Rattle.lk_domain.proofs.Names.{G1, W1, Verb, is_set, halts, moves_aside, Flagged, Linked}
use Rattle.lk_domain.proofs.Names.{stored_in, stores_flag, stores_next, World, Frees, StandsOn}
use Rattle.lk_domain.proofs.Names.{grip_led, Slot, Hands, SeesFlag, SeesLink, went, waiter, Stand}
use Rattle.lk_domain.proofs.Names.{IsNumbered, IsNode, flag_number, link_number, marked, node_at}
use Rattle.lk_domain.proofs.Names.{Plan, View}
use Rattle.lk_rows.specs.declared.parts.Pc.TheVariants.{W4, E14, E15}
use Rattle.lk_rows.specs.rows.Pv.{pv_flag_row, pv_next_row, pv_after_next}
use Rattle.lk_law.proofs.{common.Knows.halting_next_is_used, running.Nodes.halting_link_is_used}
use Rattle.lk_domain.proofs.{queue.NodeStores.flag_here, queue.OnNodes.IsUsed}
use Rattle.lk_domain.proofs.words.LockPlays.{MayFree}
use Rattle.lk_domain.specs.{NodePlays.IsFlagNode, NodeUses.{AtFlag, AtBehind, AtHand, looks_flag}}
use Rattle.lk_domain.specs.declared.part.Part.TheVariants as part
use Rattle.lk_domain.proofs.queue.NodePlays as node

either_frees : {A : Type 0} (b : Bool) (x y : Effect A) → grip_led x.leads ≢ Frees → grip_led y.leads ≢ Frees
    → grip_led (if b then x else y).leads ≢ Frees
either_frees true x y h k = h
either_frees false x y h k = k

pub W1_frees : MayFree W1 → ⊥
W1_frees t = cc t.3

pub W4_frees : MayFree W4 → ⊥
W4_frees t = either_frees (is_set (t.0.node (node_of t.2.me)).flag) _ _ (λ e. cc e) (λ e. cc e) t.3

next_frees : (x : Option NodeName) → grip_led (pv_after_next x).leads ≢ Frees
next_frees None e = cc e
next_frees (Some n) e = cc e

pub E14_frees : MayFree E14 → ⊥
E14_frees t = next_frees (t.0.node (node_of t.2.me)).next t.3

pub E15_frees : MayFree E15 → ⊥
E15_frees t = cc t.3

-- where processors halt nobody is moved aside
none_aside : (mode : Mode) → halts mode ≡ true → moves_aside mode ≡ false
none_aside Pv h = refl
none_aside Virt h = cc h
none_aside Native h = cc h
none_aside Cna h = cc h

unsecond : (k : Plan) (o : Flag) → ((b : NodeName) → o ≢ Second b) → IsFlagNode k o
unsecond k Unset h = tt
unsecond k Go h = tt
unsecond k (Second b) h = absurd (h b refl)

-- a look at the own flag, by a waiter: the rows W1 and W4
pub W1_look : (k : Plan) (slots id : ℕ) (m : Me Slot View) → IsNumbered m.0 → (v : Verb) (lock : LockName) → halts k.mode ≡ true
    → (acts : StandsOn m.0.calls v lock W1) (a : NodeName) → IsNode k a → acts.frame.me ≡ Some a
    → Allows (Stand k) slots id m (node_at k a part.Flag) (λ n. n) (SeesFlag m)
W1_look k slots id m number v lock halting acts a near own s both long me small =
    let tgt : node_of acts.frame.me ≡ a = ap node_of own in
    let e : W1 ≢ G1 = λ e. cc e in
    let world = node.world k slots id m number v lock W1 acts a part.Flag near e tt tgt W1_frees s both me refl in
    let y : Flag = (world.node a).flag in
    let is : get_or s.words (node_at k a part.Flag) 0 ≡ flag_number y =
    node.word_is k slots id m number v lock W1 acts a part.Flag near e tt tgt W1_frees s both me refl in
    let at = node.at k slots id m number v lock W1 acts a part.Flag near e tt tgt W1_frees s both me refl in
    let stored : (stored_in world (waiter number.0 acts.frame.ctx) acts.frame W1 (target W1 acts.frame)).node ≡ world.node = refl in
    let plain : (b : NodeName) → y ≢ Second b = λ b q. at.acted.sound.spins.plain.flag
    (ap moves_aside (at.acted.same.mode ∙ both.runs.of_plan.mode) ∙ none_aside k.mode halting) a b q in (
      went m.0 (Flagged y),
      keeps,
      tt,
      node.stands k slots id m number v lock W1 acts a part.Flag near e tt tgt W1_frees s both me refl (λ q. cc q) (λ q. cc q)
          (get_or s.words (node_at k a part.Flag) 0)
          (is ∙ ap (λ (g : NodeName → Node). flag_number (g a).flag) (sym stored)) (inl stored) (inl (λ q. cc q)) (Flagged y) refl,
      record { found = y; node = unsecond m.0.who.plan y plain; plain = λ off b q. plain b q; word = is; seat = refl },
    )

pub W4_look : (k : Plan) (slots id : ℕ) (m : Me Slot View) → IsNumbered m.0 → (v : Verb) (lock : LockName) → halts k.mode ≡ true
    → (acts : StandsOn m.0.calls v lock W4) (a : NodeName) → IsNode k a → acts.frame.me ≡ Some a
    → Allows (Stand k) slots id m (node_at k a part.Flag) (λ n. n) (SeesFlag m)
W4_look k slots id m number v lock halting acts a near own s both long me small =
    let tgt : node_of acts.frame.me ≡ a = ap node_of own in
    let e : W4 ≢ G1 = λ e. cc e in
    let world = node.world k slots id m number v lock W4 acts a part.Flag near e tt tgt W4_frees s both me refl in
    let y : Flag = (world.node a).flag in
    let is : get_or s.words (node_at k a part.Flag) 0 ≡ flag_number y =
    node.word_is k slots id m number v lock W4 acts a part.Flag near e tt tgt W4_frees s both me refl in
    let at = node.at k slots id m number v lock W4 acts a part.Flag near e tt tgt W4_frees s both me refl in
    let stored : (stored_in world (waiter number.0 acts.frame.ctx) acts.frame W4 (target W4 acts.frame)).node ≡ world.node =
    none world (node_of acts.frame.me) (world.node (node_of acts.frame.me)).flag in
    let plain : (b : NodeName) → y ≢ Second b = λ b q. at.acted.sound.spins.plain.flag
    (ap moves_aside (at.acted.same.mode ∙ both.runs.of_plan.mode) ∙ none_aside k.mode halting) a b q in (
      went m.0 (Flagged y),
      keeps,
      tt,
      node.stands k slots id m number v lock W4 acts a part.Flag near e tt tgt W4_frees s both me refl (λ q. cc q) (λ q. cc q)
          (get_or s.words (node_at k a part.Flag) 0)
          (is ∙ ap (λ (g : NodeName → Node). flag_number (g a).flag) (sym stored)) (inl stored) (inl (λ q. cc q)) (Flagged y) refl,
      record { found = y; node = unsecond m.0.who.plan y plain; plain = λ off b q. plain b q; word = is; seat = refl },
    )
  where
    none : (n : World) (b : NodeName) (y : Flag) → (stores_flag n b (pv_flag_row W4 acts.frame y).stores).node ≡ n.node
    none n b Unset = refl
    none n b Go = refl
    none n b (Second c) = refl

-- a look at the own link, by a front that has the lock: the row E14
pub E14_look : (k : Plan) (slots id : ℕ) (m : Me Slot View) → IsNumbered m.0 → (v : Verb) (lock : LockName)
    → (acts : StandsOn m.0.calls v lock E14) (a : NodeName) → IsNode k a → acts.frame.me ≡ Some a
    → Allows (Stand k) slots id m (node_at k a part.Next) (λ n. n) (SeesLink m)
E14_look k slots id m number v lock acts a near own s both long me small =
    let tgt : node_of acts.frame.me ≡ a = ap node_of own in
    let e : E14 ≢ G1 = λ e. cc e in
    let world = node.world k slots id m number v lock E14 acts a part.Next near e tt tgt E14_frees s both me refl in
    let y : Option NodeName = (world.node a).next in
    let marks = node.marks k slots id m number v lock E14 acts a part.Next near e tt tgt E14_frees s both me refl in
    let is : get_or s.words (node_at k a part.Next) 0 ≡ marked (marks a) (link_number y) =
    node.word_is k slots id m number v lock E14 acts a part.Next near e tt tgt E14_frees s both me refl in
    let w = waiter number.0 acts.frame.ctx in
    let stored : (stored_in world w acts.frame E14 (target E14 acts.frame)).node ≡ world.node =
    none world (node_of acts.frame.me) (world.node (node_of acts.frame.me)).next in
    let there : (o : Option NodeName) → y ≡ o → IfSome o (IsNode m.0.who.plan) =
    λ o e'. linked o (λ b q.
    node.is_node k slots id m number v lock E14 acts a part.Next near e tt tgt E14_frees s both me refl b
    (halting_link_is_used world _ w acts.frame b
    (node.sound k slots id m number v lock E14 acts a part.Next near e tt tgt E14_frees s both me refl)
    (node.live k slots id m number v lock E14 acts a part.Next near e tt tgt E14_frees s both me refl) acts.place
    (ap (λ c. (world.node c).next) tgt ∙ (e' ∙ q)))) in (
      went m.0 (Linked y (marks a)),
      keeps,
      tt,
      node.stands_marked k slots id m number v lock E14 acts a part.Next near e tt tgt E14_frees s both me refl marks (λ b ne. refl)
          (node.leaves k slots id m number v lock E14 acts a part.Next near e tt tgt E14_frees s both me refl
          (λ b c h. ap (λ (g : NodeName → Node). (g b).next) (sym stored) ∙ h))
          (get_or s.words (node_at k a part.Next) 0)
          (is ∙ ap (λ (g : NodeName → Node). marked (marks a) (link_number (g a).next)) (sym stored)) (inl stored) (inl (λ q. cc q))
          (Linked y (marks a)) refl (λ q. cc q),
      record { found = y; mark = marks a; node = there y refl; word = is; seat = refl },
    )
  where
    none : (n : World) (b : NodeName) (y : Option NodeName) → (stores_next n b (pv_next_row E14 acts.frame y).stores).node ≡ n.node
    none n b None = refl
    none n b (Some c) = refl

    linked : (o : Option NodeName) → ((b : NodeName) → o ≡ Some b → IsNode m.0.who.plan b) → IfSome o (IsNode m.0.who.plan)
    linked None h = tt
    linked (Some b) h = h b refl

-- the lead is handed to the next: the row E15
pub E15_hand : (k : Plan) (slots id : ℕ) (m : Me Slot View) → IsNumbered m.0 → (v : Verb) (lock : LockName)
    → (acts : StandsOn m.0.calls v lock E15) (a : NodeName) → IsNode k a → acts.frame.y ≡ Some a
    → Allows (Stand k) slots id m (node_at k a part.Flag) (λ _. 1) (Hands m)
E15_hand k slots id m number v lock acts a near to s both long me small =
    let tgt : node_of acts.frame.y ≡ a = ap node_of to in
    let e : E15 ≢ G1 = λ e. cc e in
    let world = node.world k slots id m number v lock E15 acts a part.Flag near e tt tgt E15_frees s both me refl in
    let known = node.known k slots id m number v lock E15 acts a part.Flag near e tt tgt E15_frees s both me refl in
    let is = node.word_is k slots id m number v lock E15 acts a part.Flag near e tt tgt E15_frees s both me refl in
    let unset : (world.node a).flag ≡ Unset = ap (λ b. (world.node b).flag) (sym tgt) ∙ known in
    let used = halting_next_is_used world _ (waiter number.0 acts.frame.ctx) acts.frame
    (node.sound k slots id m number v lock E15 acts a part.Flag near e tt tgt E15_frees s both me refl)
    (node.live k slots id m number v lock E15 acts a part.Flag near e tt tgt E15_frees s both me refl) acts.place in (
      went m.0 (Flagged Unset),
      keeps,
      tt,
      node.stands k slots id m number v lock E15 acts a part.Flag near e tt tgt E15_frees s both me refl (λ q. cc q) (λ q. cc q) 1
          (sym (ap flag_number (ap (λ b. ((stores_flag world b (Some Go)).node a).flag) tgt ∙ flag_here world a (Some Go))))
          (inr (subst (IsUsed world) tgt (used.0, used.1, used.2))) (inl (λ q. cc q)) (Flagged Unset) (ap Flagged (sym unset)),
      (is ∙ ap flag_number unset, refl),
    )

flag_rows : (c : Pc) → looks_flag c ≡ true → (c ≡ W1) ⊎ (c ≡ W4)
flag_rows W1 h = inl refl
flag_rows W4 h = inr refl
flag_rows _ h = cc h

-- what the calls ask, in which the word is named by its place
module _ (k plan : Plan) (slots id : ℕ) (m : Me Slot View) (number : IsNumbered m.0) (v : Verb) (i : ℕ)
    (same : k ≡ plan) (a : NodeName) (near : IsNode plan a) where
  near' : IsNode k a
  near' = subst (λ (q : Plan). IsNode q a) (sym same) near

  flag_row : (lock : LockName) (pc : Pc) (acts : StandsOn m.0.calls v lock pc) → halts plan.mode ≡ true
      → acts.frame.me ≡ Some a → (pc ≡ W1) ⊎ (pc ≡ W4) → Allows (Stand k) slots id m (node_at k a part.Flag) (λ n. n) (SeesFlag m)
  flag_row lock pc acts halting own rows =
      ⊎_elim (λ e. W1_look k slots id m number v lock here (at_row W1 e) a near' own)
      (λ e. W4_look k slots id m number v lock here (at_row W4 e) a near' own) rows
    where
      here : halts k.mode ≡ true
      here = ap (λ (q : Plan). halts q.mode) same ∙ halting

      at_row : (c : Pc) → pc ≡ c → StandsOn m.0.calls v lock c
      at_row c e = record {
        frame = acts.frame;
        trail = acts.trail;
        rest = acts.rest;
        is = acts.is;
        place = acts.place ∙ ap Some e;
        lock = acts.lock;
      }

  pub flag_asks : i ≡ node_at plan a part.Flag → halts plan.mode ≡ true → AtFlag a v m.0 → Allows (Stand k) slots id m i (λ n. n) (SeesFlag m)
  flag_asks at halting h =
      subst (λ (x : ℕ). Allows (Stand k) slots id m x (λ n. n) (SeesFlag m)) (ap (λ (q : Plan). node_at q a part.Flag) same ∙ sym at)
      (flag_row h.lock h.row h.stands halting h.me (flag_rows h.row h.is))

  pub behind_asks : i ≡ node_at plan a part.Next → AtBehind a v m.0 → Allows (Stand k) slots id m i (λ n. n) (SeesLink m)
  behind_asks at h =
      subst (λ (x : ℕ). Allows (Stand k) slots id m x (λ n. n) (SeesLink m)) (ap (λ (q : Plan). node_at q a part.Next) same ∙ sym at)
      (E14_look k slots id m number v h.lock h.stands a near' h.me)

  pub hand_asks : i ≡ node_at plan a part.Flag → AtHand a v m.0 → Allows (Stand k) slots id m i (λ _. 1) (Hands m)
  hand_asks at h =
      subst (λ (x : ℕ). Allows (Stand k) slots id m x (λ _. 1) (Hands m)) (ap (λ (q : Plan). node_at q a part.Flag) same ∙ sym at)
      (E15_hand k slots id m number v h.lock h.stands a near' h.y)
