-- What the step calls on the words of nodes ask, in which a word is named by its place.
use Rattle.std.proofs.Common.{◌≡◌, ◌≢◌, ℕ, ◌<◌, Some, true, sym, ap, ◌∙◌, subst, arith, Bool}
use Rattle.lk_domain.proofs.Names.{Allows, Me, Step, NodeName, LockName, G6, Verb, slows, Slot}
use Rattle.lk_domain.proofs.Names.{Enters, SeesFlag, locks_of, node_name, Stand, IsNumbered, IsNode}
use Rattle.lk_domain.proofs.Names.{has_part, is_last, marked, name_number, node_at, part_index}
use Rattle.lk_domain.proofs.Names.{word_at, Part, Plan, View}
use Rattle.lk_domain.proofs.queue.NodePlays.{flag_look, link_on, reset_on, enter_on, enter_bare_on}
use Rattle.lk_domain.specs.NodePlays.{AtOwn, AtPrev, AtEntry, AtBare, Readies, Links}
use Rattle.lk_domain.specs.declared.part.Part.TheVariants as part

module _ (k plan : Plan) (slots id : ℕ) (m : Me Slot View) (number : IsNumbered m.0) (v : Verb) (i : ℕ)
    (same : k ≡ plan) where
  pub look_flag : (own : NodeName) → IsNode plan own → i ≡ node_at plan own part.Flag → AtOwn G6 own v m.0
      → Allows (Stand k) slots id m i (λ n. n) (SeesFlag m)
  look_flag own near at acts =
      subst (λ (x : ℕ). Allows (Stand k) slots id m x (λ n. n) (SeesFlag m)) (ap (λ (j : Plan). node_at j own part.Flag) same ∙ sym at)
      (flag_look k slots id m number v acts.lock acts.at.stands own (subst (λ (j : Plan). IsNode j own) (sym same) near) acts.me)

  pub link_up : (prev own : NodeName) (mark : Bool) → IsNode plan prev → i ≡ node_at plan prev part.Next → AtPrev prev own mark v m.0
      → (x : ℕ) → x ≡ marked mark (name_number own) → Allows (Stand k) slots id m i (λ _. x) (Links m)
  link_up prev own mark near at acts x named =
      subst (λ (y : ℕ). Allows (Stand k) slots id m y (λ _. x) (Links m)) (ap (λ (j : Plan). node_at j prev part.Next) same ∙ sym at)
      (link_on k slots id m number v acts.lock acts.at.stands prev own (subst (λ (j : Plan). IsNode j prev) (sym same) near)
      acts.prev acts.me mark acts.marks x named)

  to_come : (own : NodeName) → AtEntry own v m.0 → node_name number.0 (slows m.0.calls.frames) ≡ own
  to_come own acts =
      let cpu : number.0 ≡ own.cpu = some_is (sym number.1 ∙ acts.cpu) in let index = acts.index in
      (λ j. record { cpu = cpu j; index = sym index j })
    where
      some_is : {a b : ℕ} → Some a ≡ Some b → a ≡ b
      some_is e = grind (arith, e)

  pub reset_one : (own : NodeName) (q : Part) → i ≡ node_at plan own q → AtEntry own v m.0
      → (q ≢ part.Flag → m.0.calls.ready ≡ part_index q) → m.0.who.plan ≡ plan → (st : Step Slot) → st.word ≡ i
      → Allows (Stand k) slots id m i (λ _. 0) (Readies st m)
  reset_one own q at acts ready of st word =
      subst (λ (x : ℕ). Allows (Stand k) slots id m x (λ _. 0) (Readies st m))
      (sym (at ∙ (λ j. node_at (sym same j) (sym (to_come own acts) j) q)))
      (reset_on k slots id m number q (let a = acts.index in let b = acts.low in omega arith) ready st
      (word ∙ (at ∙ (λ j. node_at (sym of j) (sym (to_come own acts) j) q))))

  pub reset_last : (own : NodeName) (q : Part) → i ≡ node_at plan own q → AtEntry own v m.0
      → is_last plan.mode q ≡ true → has_part plan.mode q ≡ true
      → m.0.calls.ready ≡ part_index q → Allows (Stand k) slots id m i (λ _. 0) (Enters m)
  reset_last own q at acts last has ready =
      subst (λ (x : ℕ). Allows (Stand k) slots id m x (λ _. 0) (Enters m))
      (sym (at ∙ (λ j. node_at (sym same j) (sym (to_come own acts) j) q)))
      (enter_on k slots id m number v acts.lock q (ap (λ (j : Plan). is_last j.mode q) same ∙ last)
      (ap (λ (j : Plan). has_part j.mode q) same ∙ has) acts.at.stands
      (let a = acts.index in let b = acts.low in omega arith) ready)

  pub bare_look : (lock : LockName) → lock.index < locks_of plan → i ≡ word_at lock → AtBare lock v m.0
      → Allows (Stand k) slots id m i (λ n. n) (Enters m)
  bare_look lock near at acts =
      subst (λ (x : ℕ). Allows (Stand k) slots id m x (λ n. n) (Enters m)) (sym at)
      (enter_bare_on k slots id m number v lock (subst (λ (j : Plan). lock.index < locks_of j) (sym same) near) acts.at.stands acts.high)
