-- What the front knows while it chooses the next: whose nodes its registers name.
use Rattle.std.proofs.Common.{◌≡◌, ℕ, Option, Some, None, Bool, true, false, List, [], ◌∷◌, inl}
use Rattle.std.proofs.Common.{inr, arith, ap, refl, sym, ◌∙◌, subst, slice_get}
use Rattle.lk_law.proofs.Names.{NodeName, last_cases, Waiter, Node, CnaAgrees, FrontAgrees}
use Rattle.lk_law.proofs.Names.{SecondAgrees, first_node, front_cut, front_tip, named_by, part}
use Rattle.lk_law.proofs.Names.{shown, Phase, has_node, Holds, Waits, QueueAgrees, Stage, chosen}
use Rattle.lk_law.proofs.Names.{cut_of, hangs, passed_over, tail_seen, tied, tip_of}
use Rattle.lk_law.proofs.common.Families.{Last}

module _ {tail : Option NodeName} {phase : Waiter → Phase} {own : Waiter → NodeName}
    {node : NodeName → Node} {local : Waiter → Waiter → Bool} {threshold : ℕ}
    {stage : Waiter → Stage} {kept : Waiter
    → Option NodeName} {main second : List Waiter} {passes : List ℕ} {w : Waiter} {g : Stage}
    (ok : CnaAgrees tail phase own node local threshold stage kept main second passes)
    (at_w : slice_get main 0 ≡ Some w) (holds : phase w ≡ Holds) (is : stage w ≡ g) where
  pub front_lead : FrontAgrees phase own node local threshold main second passes w g (kept w)
  front_lead =
      let P : Option NodeName → Type 0 =
      λ o. FrontAgrees phase own node local threshold main second passes w (stage w) o in
      let Q : Stage → Type 0 =
      λ h. FrontAgrees phase own node local threshold main second passes w h (kept w) in
      let e : named_by (phase w) ((node (own w)).flag) (kept w) ≡ kept w =
      ap (λ r. named_by r ((node (own w)).flag) (kept w)) holds in
      subst Q is (subst P e (ok.lead w at_w))

  -- the queue as it is shown, and the second queue, at the stage of the one that leads
  pub front_queue : QueueAgrees tail (part second phase) own (shown (cut_of (own w) g) node) main
  front_queue =
      let P : Stage → Type 0 =
      λ h. QueueAgrees tail (part second phase) own (shown (cut_of (own w) h) node) main in
      subst P is (let e : front_cut own stage (slice_get main 0) ≡ cut_of (own w) (stage w) =
      rw at_w refl in rw e at ok.queue)

  pub front_second : SecondAgrees phase own node second (tip_of g)
  front_second =
      let P : Stage → Type 0 = λ h. SecondAgrees phase own node second (tip_of h) in
      subst P is (let e : front_tip stage (slice_get main 0) ≡ tip_of (stage w) = rw at_w refl in
      rw e at ok.second_ok)

  -- a node that is a waiting waiter's
  waiting : (u : Waiter) (n : NodeName) → phase u ≡ Waits → own u ≡ n → Last phase own n
  waiting u n waits owned = record { by = u; noded = ap has_node waits; owned = owned }

  -- the node to which the lead goes
  pub owner_next : (k : ℕ) (y : NodeName) → chosen g ≡ Some (k, y) → Last phase own y
  owner_next k y e = let v = front_lead.next k y e in waiting v.0 y v.2 v.3

  -- the last node that was passed over
  pub owner_last : (a b : NodeName) (k : ℕ) → passed_over g ≡ Some (a, b, k) → Last phase own b
  owner_last a b k e =
      let s = front_lead.some a b k e in
      let s1 = s.1 in
      let f = front_lead.far a b k s.0 e (omega arith) in
      waiting f.0 b f.2 (front_lead.close a b k f.0 e (ap (slice_get main) s1 ∙ f.1))

  -- the last node of the second queue
  pub owner_tail : (t : NodeName) → tail_seen g ≡ Some t → Last phase own t
  owner_tail t e =
      elim (last_cases second) [
        | inl none ↦ absurd (front_lead.tail_some t e none)
        | inr p ↦ waiting p.1 t (ok.second_ok.waits p.0 p.1 p.2).0
            (sym (front_lead.tail_met t p.0 p.1 e p.2 p.3))
      ]

  -- the first node of the second queue
  first_of : (ws : List Waiter) (n : NodeName) → first_node own ws ≡ Some n
      → (u : Waiter) × (slice_get ws 0 ≡ Some u) × (own u ≡ n)
  first_of [] n h = cc h
  first_of (z ∷ ws) n h = (z, refl, (let q : own z ≡ n = cc h in q))

  owner_named : (n : NodeName) → kept w ≡ first_node own second → kept w ≡ Some n → Last phase own n
  owner_named n names e = let u = first_of second n (sym names ∙ e) in
      waiting u.0 n (ok.second_ok.waits 0 u.0 u.1).0 u.2

  pub owner_second : (n : NodeName) → tied g ≡ false → kept w ≡ Some n → Last phase own n
  owner_second n loose e = owner_named n (front_lead.names (inl loose)) e

  -- and where waiters are moved it may be the first of them
  pub owner_moved : (a b : NodeName) (k : ℕ) (n : NodeName) → tied g ≡ true
      → passed_over g ≡ Some (a, b, k) → kept w ≡ Some n → Last phase own n
  owner_moved a b k n tie e named =
      elim (last_cases second) [
        | inl none ↦
            let s = front_lead.some a b k e in
            let s1 = s.1 in
            let f = front_lead.far a b k 0 e (omega arith) in
            let m = front_lead.names_moved a b k tie e none in
            waiting f.0 n f.2 (front_lead.near a b k f.0 e f.1
            ∙ (let q : Some a ≡ Some n = sym m ∙ named in cc q))
        | inr p ↦ owner_named n
            (front_lead.names
            (inr (λ none. let z = ap (λ (us : List Waiter). slice_get us p.0) none in
            grind (arith, z, p.2)))) named
      ]

  -- the first of the second queue names the last
  pub tail_known : (n : NodeName) → tied g ≡ false → hangs g ≡ None → kept w ≡ Some n
      → (t : NodeName) × ((node n).second_tail ≡ Some t)
  tail_known n loose free e =
      let u = first_of second n (sym (front_lead.names (inl loose)) ∙ e) in
      elim (last_cases second) [
        | inl none ↦ absurd (let z = ap (λ (us : List Waiter). slice_get us 0) none in
            grind (arith, z, u.1))
        | inr p ↦ (
          own p.1,
          ap (λ (k : NodeName). (node k).second_tail) (sym u.2)
              ∙ front_lead.tail_at p.0 u.0 p.1 free u.1 p.2 p.3,
        )
      ]
