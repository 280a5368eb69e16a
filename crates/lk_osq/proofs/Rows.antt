-- Each row keeps what the machine shows, and its event is lawful.
use Rattle.std.proofs.Common.{◌≡◌, ◌⊎◌, ◌<◌, ◌≤◌, ℕ, zero, suc, Option, Some, None, Bool, true}
use Rattle.std.proofs.Common.{false, List, [], ◌∷◌, length, inl, inr, arith, ap, refl, sym, ◌∙◌}
use Rattle.std.proofs.Common.{subst, get_or, slice_get, is_some, nat_lt, if◌then◌else◌, ◌++◌}
use Rattle.std.proofs.lemmas.Bool.{cases_Bool}
use Rattle.lk_osq.specs.declared.nodes.Node.{Node}
use Rattle.lk_osq.specs.declared.nodes.Cpu.{Cpu}
use Rattle.lk_osq.specs.declared.places.Place.{Place}
use Rattle.lk_osq.specs.declared.places.Place.TheVariants as at
use Rattle.lk_osq.specs.declared.events.OsqWhat.TheVariants.{TakeFree, Arrive, TakeHanded, Quit}
use Rattle.lk_osq.specs.declared.events.OsqWhat.TheVariants.{Release}
use Rattle.lk_osq.specs.Phase.{Phase, queues, leads, link_before, link_behind}
use Rattle.lk_osq.specs.Phase.Phase.{Outside, Links, Waits, Cuts, Bridges, Holds, Hands, Astray}
use Rattle.lk_osq.specs.Queue.{OsqQueueAgrees, Moves}
use Rattle.lk_osq.specs.History.{Told, told}
use Rattle.lk_osq.specs.Agree.{OsqAgrees}
use Rattle.lk_osq.specs.Machine.{Machine, cpu_at, node_at, set_cpu, set_node, set_tail, no_cpu}
use Rattle.lk_osq.specs.declared.outcomes.Lead.{Lead}
use Rattle.lk_osq.specs.declared.outcomes.Lead.TheVariants.{Goes, Knows, Meets, Ends}
use Rattle.lk_osq.specs.declared.outcomes.Store.{Store}
use Rattle.lk_osq.specs.declared.outcomes.Store.TheVariants.{Flag, Next, Prev, Reset}
use Rattle.lk_osq.specs.declared.outcomes.Outcome.{Outcome}
use Rattle.lk_osq.specs.Rows.{stored, moved, applied, looks, writes, takes, swaps, is_cpu, arrives}
use Rattle.lk_osq.specs.Rows.{tells, links, waits, cuts, sees_flag, grabs, unlinks, frees, hands}
use Rattle.lk_osq.specs.Rows.{next_of, row, event_of}
use Rattle.lk_osq.specs.Shown.{by_one, by_two, phase_by, phase_of, phase_at, Shows, told_on}
use Rattle.lk_osq.specs.Shown.{IsLawfulIfAny}
use Rattle.lk_osq.proofs.Cases.{cpu_cases}
use Rattle.lk_osq.proofs.Turn.{stands_behind}
use Rattle.lk_names.proofs.ByIndex.{get_cases}
use Rattle.lk_osq.proofs.Kept.{law_enters, law_arrives_first, law_arrives_behind, law_links}
use Rattle.lk_osq.proofs.Kept.{law_takes, law_cuts, law_withdraws, law_grabs, law_tells}
use Rattle.lk_osq.proofs.Kept.{law_unlinks, law_frees, law_hands}
use Rattle.lk_osq.proofs.Steps.{goes_on, stores_on, shows_by, tail-set}

-- what is shown after an outcome, and that its event is lawful
abbrev pub Keeps : Machine → Told → ℕ → Outcome → Type 0
Keeps m t p o =
    Shows (applied m p o) (told_on (event_of p o.tells) t) × IsLawfulIfAny (event_of p o.tells) t

option_cases : (o : Option ℕ) → (o ≡ None) ⊎ ((a : ℕ) × (o ≡ Some a))
option_cases None = inl refl
option_cases (Some a) = inr (a, refl)

is_cases : (o : Option ℕ) (p : ℕ) → ((is_cpu o p ≡ true) × (o ≡ Some p)) ⊎ (is_cpu o p ≡ false)
is_cases None p = inr refl
is_cases (Some q) p = grind (arith, cpu_cases q p)

moves_as : {f g : ℕ → Phase} {w : ℕ} {x y x' y' : Phase} → Moves f g w x y → x ≡ x' → y ≡ y'
    → Moves f g w x' y'
moves_as o e h = record { was = o.was ∙ e; now = o.now ∙ h; others = o.others }

past : {A : Type 0} (xs : List A) (i : ℕ) (d : A) → length xs ≤ i → get_or xs i d ≡ d
past [] i d h = refl
past (x ∷ xs) zero d h = absurd (omega arith)
past (x ∷ xs) (suc i) d h = past xs i d (omega arith)

cpu_past : (m : Machine) (u : ℕ) → length m.cpus ≤ u → cpu_at m u ≡ no_cpu
unfolding cpu_at
cpu_past m u h = past m.cpus u no_cpu h

-- who stands in the queue is a processor of the machine
pub in_range : (m : Machine) (u : ℕ) → queues (phase_at m u) ≡ true → u < length m.cpus
in_range m u q =
    elim (order u (length m.cpus)) [
      | inl l ↦ l
      | inr g ↦ absurd
          (grind (arith, ap phase_of (cpu_past m u g), q))
    ]
  where
    order : (a b : ℕ) → (a < b) ⊎ (b ≤ a)
    order a b = grind arith

-- nobody has lost a register
not_astray : {x : Option ℕ} {phase : ℕ → Phase} {node : ℕ → Node} {main : List ℕ}
    → OsqQueueAgrees x phase node main → (w : ℕ) → phase w ≡ Astray → ⊥
not_astray {phase = phase} {main = main} ok w e = let s =
    ok.place w (grind (arith, e)) in go s.0 s.1
  where
    go : (i : ℕ) → slice_get main i ≡ Some w → ⊥
    go zero h = grind (arith, ok.first w h, e)
    go (suc i) h = grind (arith, ok.behind i w h, e)

module _ (m : Machine) (t : Told) (p : ℕ) (within : p < length m.cpus) (ok : Shows m t) where
  -- nothing happens
  quiet : (l : Lead) → phase_of (moved (cpu_at m p) l) ≡ phase_of (cpu_at m p)
      → Keeps m t p (record { tail = None; node = None; leads = l; tells = None })
  quiet l e =
      let w = goes_on m p within None l in
      let same : (u : ℕ) → phase_at m u ≡ phase_at (set_cpu m p (moved (cpu_at m p) l)) u =
      (λ u. elim
      (cpu_cases u p) [
        | inl h ↦ rw h (w.acts.was ∙ sym e ∙ sym w.acts.now)
        | inr ne ↦ sym
            (w.acts.others u ne)
      ]) in (
        shows_by m.tail (λ u. (cpu_at m u).node) (tail-set m p (moved (cpu_at m p) l)) w.nodes
            (subst (λ f. OsqAgrees m.tail f (λ u. (cpu_at m u).node) t)
            (λ i u. same u i) ok.agrees),
        tt,
      )

  -- the own next, which is none, is exchanged with none
  still : (l : Lead) → phase_of (moved (cpu_at m p) l) ≡ phase_of (cpu_at m p)
      → (cpu_at m p).node.next ≡ None
      → Keeps m t p (record { tail = None; node = Some (p, Next None); leads = l; tells = None })
  still l e none =
      let w = stores_on m p within p (Next None) l within in
      let x = record (node_at m p) { next = None } in
      let n = set_node m p x in
      let k = set_cpu n p (moved (cpu_at n p) l) in
      let eta : x ≡ node_at m p = (λ i. record (node_at m p) { next = sym none i }) in
      let same : (u : ℕ) → phase_at m u ≡ phase_at k u =
      (λ u. elim
      (cpu_cases u p) [
        | inl h ↦ rw h (w.acts.was ∙ sym e ∙ sym w.acts.now)
        | inr ne ↦ sym
            (w.acts.others u ne)
      ]) in
      let nodes : (u : ℕ) → (cpu_at k u).node ≡ (cpu_at m u).node =
      (λ u. elim
      (cpu_cases u p) [ inl h ↦ rw h (w.writes.now ∙ eta) | inr ne ↦ w.writes.others u ne ]) in (
        shows_by m.tail (λ u. (cpu_at m u).node)
            (tail-set n p (moved (cpu_at n p) l) ∙ tail-set m p
            (record (cpu_at m p) { node = x })) nodes
            (subst (λ f. OsqAgrees m.tail f (λ u. (cpu_at m u).node) t)
            (λ i u. same u i) ok.agrees),
        tt,
      )

-- the machine after a store in a node, and after one in the tail
abbrev after : Machine → ℕ → ℕ → Store → Lead → Machine
after m p a s l =
    set_cpu (set_node m a (stored (node_at m a) s)) p
    (moved (cpu_at (set_node m a (stored (node_at m a) s)) p) l)

abbrev after_tail : Machine → ℕ → Option ℕ → Lead → Machine
after_tail m p x l = set_cpu (set_tail m x) p (moved (cpu_at (set_tail m x) p) l)

after_shows : (m : Machine) (p a : ℕ) (s : Store) (l : Lead) (t : Told)
    → OsqAgrees m.tail (phase_at (after m p a s l)) (λ u. (cpu_at (after m p a s l) u).node) t
    → Shows (after m p a s l) t
after_shows m p a s l t ok =
    let n = set_node m a (stored (node_at m a) s) in
    shows_by m.tail (λ u. (cpu_at (after m p a s l) u).node)
    (tail-set n p (moved (cpu_at n p) l) ∙ tail-set m a
    (record (cpu_at m a) { node = stored (node_at m a) s })) (λ u. refl) ok

tail_shows : (m : Machine) (p : ℕ) (x : Option ℕ) (l : Lead) (t : Told) → p < length m.cpus
    → OsqAgrees x (phase_at (after_tail m p x l)) (λ u. (cpu_at m u).node) t
    → Shows (after_tail m p x l) t
tail_shows m p x l t within ok =
    shows_by x (λ u. (cpu_at m u).node)
    (tail-set (set_tail m x) p (moved (cpu_at (set_tail m x) p) l))
    (goes_on m p within (Some x) l).nodes ok

goes_shows : (m : Machine) (p : ℕ) (l : Lead) (t : Told) → p < length m.cpus
    → OsqAgrees m.tail (phase_at (set_cpu m p (moved (cpu_at m p) l))) (λ u. (cpu_at m u).node) t
    → Shows (set_cpu m p (moved (cpu_at m p) l)) t
goes_shows m p l t within ok =
    shows_by m.tail (λ u. (cpu_at m u).node) (tail-set m p (moved (cpu_at m p) l))
    (goes_on m p within None l).nodes ok

-- whose round ends is outside
ends_out : (c : Cpu) → phase_of (moved c Ends) ≡ Outside
ends_out c = go (nat_lt 1 c.rounds)
  where
    go : (b : Bool) → phase_by (if b then Some at.O1 else None) c.prev c.y ≡ Outside
    go true = refl
    go false = refl

-- who stands before, where the link is in its hand, and who stands behind
before_facts : (q : Phase) (f : Bool) (a : ℕ) → link_before q ≡ Some a
    → (queues q ≡ true) × (leads q f ≡ false)
before_facts q f a e = grind (arith, e)

behind_facts : (q : Phase) (b : ℕ) → link_behind q ≡ Some b → queues q ≡ true
behind_facts q b e = grind (arith, e)

module _ (m : Machine) (t : Told) (ok : Shows m t) where
  before_in : (p a : ℕ) → link_before (phase_at m p) ≡ Some a → a < length m.cpus
  before_in p a e =
      let f = before_facts (phase_at m p) ((cpu_at m p).node.flag) a e in
      let q = ok.agrees.queue in
      let j = stands_behind q p f.0 f.1 in
      let s : j.1 ≡ a = grind (arith, (q.pair j.0 j.1 p j.2 j.3).before, e) in
      in_range m a (subst (λ u. queues (phase_at m u) ≡ true) s (q.inside j.0 j.1 j.2))

  behind_in : (p b : ℕ) → link_behind (phase_at m p) ≡ Some b → b < length m.cpus
  behind_in p b e =
      let q = ok.agrees.queue in
      let i = q.place p (behind_facts (phase_at m p) b e) in
      elim (get_cases (t.holders ++ t.waiting) (suc i.0)) [
        | inl n ↦ absurd (grind (arith, q.last i.0 p i.1 n, e))
        | inr v ↦
            let s : v.0 ≡ b = grind (arith, (q.pair i.0 p v.0 i.1 v.1).behind, e) in
            in_range m b (subst (λ u. queues (phase_at m u) ≡ true) s (q.inside (suc i.0) v.0 v.1))
      ]

  named_in : (a p : ℕ) → (node_at m a).next ≡ Some p → a < length m.cpus
  named_in a p e = in_range m a (some (phase_at m a) (ok.agrees.queue.outside a))
    where
      some : (q : Phase) → (queues q ≡ false → (node_at m a).next ≡ None) → queues q ≡ true
      some q h = elim (cases_Bool (queues q)) [ inl x ↦ x | inr n ↦ absurd (grind (arith, h n, e)) ]

-- the phase of a processor at a place
phase_is : (m : Machine) (p : ℕ) (d : Place) → (cpu_at m p).place ≡ Some d
    → phase_at m p ≡ phase_by (Some d) (cpu_at m p).prev (cpu_at m p).y
phase_is m p d here = ap (λ x. phase_by x (cpu_at m p).prev (cpu_at m p).y) here

module _ (m : Machine) (t : Told) (p : ℕ) (within : p < length m.cpus) (ok : Shows m t) where
  row_O1 : (cpu_at m p).place ≡ Some at.O1 → Keeps m t p (row m p (cpu_at m p) at.O1)
  row_O1 here =
      let w = stores_on m p within p Reset (Goes at.O2) within in (
        after_shows m p p Reset (Goes at.O2) t
            (law_enters ok.agrees
            (moves_as w.acts (phase_is m p at.O1 here) refl) w.writes refl refl),
        tt,
      )

  row_O2 : (cpu_at m p).place ≡ Some at.O2 → Keeps m t p (row m p (cpu_at m p) at.O2)
  row_O2 here = elim (option_cases m.tail) [
    | inl none ↦
        let w = goes_on m p within (Some (Some p)) (Goes at.X1) in
        let r = law_arrives_first
        (subst (λ x. OsqAgrees x (phase_at m) (λ u. (cpu_at m u).node) t) none ok.agrees)
        (moves_as w.acts (phase_is m p at.O2 here) refl) in
        let k : Keeps m t p (arrives p None) =
        (tail_shows m p (Some p) (Goes at.X1) (told p TakeFree t) within r.0, r.1) in
        subst (λ x. Keeps m t p (arrives p x)) (sym none) k
    | inr a ↦
        let w = goes_on m p within (Some (Some p)) (Knows at.O3 (Some a.0)) in
        let r = law_arrives_behind ok.agrees a.1 (moves_as w.acts (phase_is m p at.O2 here) refl) in
        let k : Keeps m t p (arrives p (Some a.0)) =
        (tail_shows m p (Some p) (Knows at.O3 (Some a.0)) (told p Arrive t) within r.0, r.1) in
        subst (λ x. Keeps m t p (arrives p x)) (sym a.1) k
  ]

  -- it has the register that its row reads
  has_one : (f : ℕ → Phase) (x : Option ℕ) → phase_at m p ≡ by_one f x
      → (a : ℕ) × (x ≡ Some a) × (phase_at m p ≡ f a)
  has_one f None e = absurd (not_astray ok.agrees.queue p e)
  has_one f (Some a) e = (a, refl, e)

  has_two : (f : ℕ → ℕ → Phase) (x y : Option ℕ) → phase_at m p ≡ by_two f x y
      → (a b : ℕ) × (x ≡ Some a) × (y ≡ Some b) × (phase_at m p ≡ f a b)
  has_two f None y e = absurd (not_astray ok.agrees.queue p e)
  has_two f (Some a) None e = absurd (not_astray ok.agrees.queue p e)
  has_two f (Some a) (Some b) e = (a, b, refl, refl, e)

  row_O3 : (cpu_at m p).place ≡ Some at.O3 → Keeps m t p (row m p (cpu_at m p) at.O3)
  row_O3 here =
      let was = phase_is m p at.O3 here in
      let w = stores_on m p within p (Prev (cpu_at m p).prev) (Goes at.O4) within in (
        after_shows m p p (Prev (cpu_at m p).prev) (Goes at.O4) t
            (law_tells ok.agrees (moves_as w.acts was refl) w.writes refl refl),
        tt,
      )

  row_O4 : (cpu_at m p).place ≡ Some at.O4 → Keeps m t p (row m p (cpu_at m p) at.O4)
  row_O4 here =
      let a = has_one Links (cpu_at m p).prev (phase_is m p at.O4 here) in
      let there = before_in m t ok p a.0 (ap link_before a.2) in
      let w = stores_on m p within a.0 (Next (Some p)) (Goes at.O5) there in
      let k : Keeps m t p (links p (Some a.0)) = (
        after_shows m p a.0 (Next (Some p)) (Goes at.O5) t
            (law_links ok.agrees (moves_as w.acts a.2 refl) w.writes refl refl),
        tt,
      ) in
      subst (λ x. Keeps m t p (links p x)) (sym a.1) k

  -- its flag is set
  sees : (cpu_at m p).node.flag ≡ true → phase_at m p ≡ Waits → Keeps m t p takes
  sees flag was =
      let w = goes_on m p within None (Goes at.X1) in
      let r = law_takes ok.agrees flag (moves_as w.acts was refl) in
      (goes_shows m p (Goes at.X1) (told p TakeHanded t) within r.0, r.1)

  row_O5 : (cpu_at m p).place ≡ Some at.O5 → Keeps m t p (row m p (cpu_at m p) at.O5)
  row_O5 here = go (cpu_at m p).node.flag (cpu_at m p).request refl
    where
      go : (f g : Bool) → (cpu_at m p).node.flag ≡ f → Keeps m t p (waits f g)
      go true g e = sees e (phase_is m p at.O5 here)
      go false true e = quiet m t p within ok (Goes at.Q1) (sym (phase_is m p at.O5 here))
      go false false e = quiet m t p within ok (Goes at.O5) (sym (phase_is m p at.O5 here))

  row_Q1 : (cpu_at m p).place ≡ Some at.Q1 → Keeps m t p (row m p (cpu_at m p) at.Q1)
  row_Q1 here = go (cpu_at m p).prev refl
    where
      go : (x : Option ℕ) → (cpu_at m p).prev ≡ x → Keeps m t p (cuts p x (next_of m x))
      go None e = quiet m t p within ok (Goes at.Q2) (sym (phase_is m p at.Q1 here))
      go (Some a) e = elim (is_cases (node_at m a).next p) [
        | inl y ↦
            let w = stores_on m p within a (Next None) (Goes at.Q4) (named_in m t ok a p y.1) in
            let k : Keeps m t p (writes (Some a) (Next None) at.Q4) = (
              after_shows m p a (Next None) (Goes at.Q4) t
                  (law_cuts ok.agrees
                  (moves_as w.acts (phase_is m p at.Q1 here)
                  (ap (λ z. by_one Cuts z) e)) w.writes y.1 refl refl),
              tt,
            ) in
            rw y.0 k
        | inr n ↦ rw n (quiet m t p within ok (Goes at.Q2) (sym (phase_is m p at.Q1 here)))
      ]

  row_Q2 : (cpu_at m p).place ≡ Some at.Q2 → Keeps m t p (row m p (cpu_at m p) at.Q2)
  row_Q2 here = go (cpu_at m p).node.flag refl
    where
      go : (f : Bool) → (cpu_at m p).node.flag ≡ f → Keeps m t p (sees_flag f)
      go true e = sees e (phase_is m p at.Q2 here)
      go false e = quiet m t p within ok (Goes at.Q3) (sym (phase_is m p at.Q2 here))

  row_Q3 : (cpu_at m p).place ≡ Some at.Q3 → Keeps m t p (row m p (cpu_at m p) at.Q3)
  row_Q3 here =
      quiet m t p within ok (Knows at.Q1 (cpu_at m p).node.prev) (sym (phase_is m p at.Q3 here))

  row_Q4 : (cpu_at m p).place ≡ Some at.Q4 → Keeps m t p (row m p (cpu_at m p) at.Q4)
  row_Q4 here = go (is_cpu m.tail p)
    where
      go : (b : Bool) → Keeps m t p (looks (if b then at.Q5 else at.Q6))
      go true = quiet m t p within ok (Goes at.Q5) (sym (phase_is m p at.Q4 here))
      go false = quiet m t p within ok (Goes at.Q6) (sym (phase_is m p at.Q4 here))

  row_Q5 : (cpu_at m p).place ≡ Some at.Q5 → Keeps m t p (row m p (cpu_at m p) at.Q5)
  row_Q5 here = elim (is_cases m.tail p) [
    | inl y ↦
        let a = has_one Cuts (cpu_at m p).prev (phase_is m p at.Q5 here) in
        let w = goes_on m p within (Some (Some a.0)) Ends in
        let r = law_withdraws ok.agrees y.1 (moves_as w.acts a.2 (ends_out (cpu_at m p))) in
        let k : Keeps m t p (swaps (Some a.0) Quit) =
        (tail_shows m p (Some a.0) Ends (told p Quit t) within r.0, r.1) in
        let k' : Keeps m t p (swaps (cpu_at m p).prev Quit) =
        subst (λ x. Keeps m t p (swaps x Quit)) (sym a.1) k in
        rw y.0 k'
    | inr n ↦ rw n (quiet m t p within ok (Goes at.Q6) (sym (phase_is m p at.Q5 here)))
  ]

  row_Q6 : (cpu_at m p).place ≡ Some at.Q6 → Keeps m t p (row m p (cpu_at m p) at.Q6)
  row_Q6 here = go (is_some (cpu_at m p).node.next)
    where
      go : (b : Bool) → Keeps m t p (looks (if b then at.Q7 else at.Q4))
      go true = quiet m t p within ok (Goes at.Q7) (sym (phase_is m p at.Q6 here))
      go false = quiet m t p within ok (Goes at.Q4) (sym (phase_is m p at.Q6 here))

  row_Q7 : (cpu_at m p).place ≡ Some at.Q7 → Keeps m t p (row m p (cpu_at m p) at.Q7)
  row_Q7 here = go (cpu_at m p).node.next refl
    where
      go : (x : Option ℕ) → (cpu_at m p).node.next ≡ x → Keeps m t p (grabs p x at.Q4 at.Q8)
      go None e = still m t p within ok (Goes at.Q4) (sym (phase_is m p at.Q7 here)) e
      go (Some b) e =
          let a = has_one Cuts (cpu_at m p).prev (phase_is m p at.Q7 here) in
          let w = stores_on m p within p (Next None) (Meets at.Q8 b) within in (
            after_shows m p p (Next None) (Meets at.Q8 b) t
                (law_grabs ok.agrees
                (moves_as w.acts a.2 (ap (λ z. by_two Bridges z (Some b)) a.1)) w.writes e refl refl
                (inl (a.0, refl, refl))),
            tt,
          )

  row_Q8 : (cpu_at m p).place ≡ Some at.Q8 → Keeps m t p (row m p (cpu_at m p) at.Q8)
  row_Q8 here =
      let was = phase_is m p at.Q8 here in
      let a = has_two Bridges (cpu_at m p).prev (cpu_at m p).y was in
      let there = behind_in m t ok p a.1 (ap link_behind a.4) in
      let w = stores_on m p within a.1 (Prev (cpu_at m p).prev) (Goes at.Q9) there in
      let k : Keeps m t p (tells (Some a.1) (cpu_at m p).prev at.Q9) = (
        after_shows m p a.1 (Prev (cpu_at m p).prev) (Goes at.Q9) t
            (law_tells ok.agrees (moves_as w.acts was refl) w.writes refl refl),
        tt,
      ) in
      subst (λ x. Keeps m t p (tells x (cpu_at m p).prev at.Q9)) (sym a.3) k

  row_Q9 : (cpu_at m p).place ≡ Some at.Q9 → Keeps m t p (row m p (cpu_at m p) at.Q9)
  row_Q9 here =
      let a = has_two Bridges (cpu_at m p).prev (cpu_at m p).y (phase_is m p at.Q9 here) in
      let there = before_in m t ok p a.0 (ap link_before a.4) in
      let w = stores_on m p within a.0 (Next (cpu_at m p).y) Ends there in
      let r = law_unlinks ok.agrees
      (moves_as w.acts a.4 (ends_out (cpu_at m p))) w.writes refl a.3 in
      let k : Keeps m t p (unlinks (Some a.0) (cpu_at m p).y) =
      (after_shows m p a.0 (Next (cpu_at m p).y) Ends (told p Quit t) r.0, r.1) in
      subst (λ x. Keeps m t p (unlinks x (cpu_at m p).y)) (sym a.2) k

  -- X1, X5
  row_frees : (d e : Place) → (cpu_at m p).place ≡ Some d
      → phase_by (Some d) (cpu_at m p).prev (cpu_at m p).y ≡ Holds
      → phase_by (Some e) (cpu_at m p).prev (cpu_at m p).y ≡ Holds → Keeps m t p (frees p m.tail e)
  row_frees d e here was goes = elim (is_cases m.tail p) [
    | inl y ↦
        let w = goes_on m p within (Some None) Ends in
        let r = law_frees ok.agrees y.1
        (moves_as w.acts (phase_is m p d here ∙ was) (ends_out (cpu_at m p))) in
        let k : Keeps m t p (swaps None (Release None)) =
        (tail_shows m p None Ends (told p (Release None) t) within r.0, r.1) in
        rw y.0 k
    | inr n ↦ rw n (quiet m t p within ok (Goes e) (goes ∙ sym (phase_is m p d here ∙ was)))
  ]

  -- X2, X7
  row_grabs : (d : Place) → (cpu_at m p).place ≡ Some d
      → phase_by (Some d) (cpu_at m p).prev (cpu_at m p).y ≡ Holds
      → Keeps m t p (grabs p (cpu_at m p).node.next at.X4 at.X3)
  row_grabs d here was = go (cpu_at m p).node.next refl
    where
      go : (x : Option ℕ) → (cpu_at m p).node.next ≡ x → Keeps m t p (grabs p x at.X4 at.X3)
      go None e = still m t p within ok (Goes at.X4) (sym (phase_is m p d here ∙ was)) e
      go (Some b) e =
          let w = stores_on m p within p (Next None) (Meets at.X3 b) within in (
            after_shows m p p (Next None) (Meets at.X3 b) t
                (law_grabs ok.agrees
                (moves_as w.acts (phase_is m p d here ∙ was) refl) w.writes e refl refl
                (inr (refl, refl))),
            tt,
          )

  row_X3 : (cpu_at m p).place ≡ Some at.X3 → Keeps m t p (row m p (cpu_at m p) at.X3)
  row_X3 here =
      let b = has_one Hands (cpu_at m p).y (phase_is m p at.X3 here) in
      let there = behind_in m t ok p b.0 (ap link_behind b.2) in
      let w = stores_on m p within b.0 (Flag true) Ends there in
      let r = law_hands ok.agrees
      (moves_as w.acts b.2 (ends_out (cpu_at m p))) w.writes refl refl in
      let k : Keeps m t p (hands (Some b.0)) =
      (after_shows m p b.0 (Flag true) Ends (told p (Release (Some b.0)) t) r.0, r.1) in
      subst (λ x. Keeps m t p (hands x)) (sym b.1) k

  row_X4 : (cpu_at m p).place ≡ Some at.X4 → Keeps m t p (row m p (cpu_at m p) at.X4)
  row_X4 here = go (is_cpu m.tail p)
    where
      go : (b : Bool) → Keeps m t p (looks (if b then at.X5 else at.X6))
      go true = quiet m t p within ok (Goes at.X5) (sym (phase_is m p at.X4 here))
      go false = quiet m t p within ok (Goes at.X6) (sym (phase_is m p at.X4 here))

  row_X6 : (cpu_at m p).place ≡ Some at.X6 → Keeps m t p (row m p (cpu_at m p) at.X6)
  row_X6 here = go (is_some (cpu_at m p).node.next)
    where
      go : (b : Bool) → Keeps m t p (looks (if b then at.X7 else at.X4))
      go true = quiet m t p within ok (Goes at.X7) (sym (phase_is m p at.X6 here))
      go false = quiet m t p within ok (Goes at.X4) (sym (phase_is m p at.X6 here))

  pub rows_keep : (d : Place) → (cpu_at m p).place ≡ Some d → Keeps m t p (row m p (cpu_at m p) d)
  rows_keep at.O1 here = row_O1 here
  rows_keep at.O2 here = row_O2 here
  rows_keep at.O3 here = row_O3 here
  rows_keep at.O4 here = row_O4 here
  rows_keep at.O5 here = row_O5 here
  rows_keep at.Q1 here = row_Q1 here
  rows_keep at.Q2 here = row_Q2 here
  rows_keep at.Q3 here = row_Q3 here
  rows_keep at.Q4 here = row_Q4 here
  rows_keep at.Q5 here = row_Q5 here
  rows_keep at.Q6 here = row_Q6 here
  rows_keep at.Q7 here = row_Q7 here
  rows_keep at.Q8 here = row_Q8 here
  rows_keep at.Q9 here = row_Q9 here
  rows_keep at.X1 here = row_frees at.X1 at.X2 here refl refl
  rows_keep at.X2 here = row_grabs at.X2 here refl
  rows_keep at.X3 here = row_X3 here
  rows_keep at.X4 here = row_X4 here
  rows_keep at.X5 here = row_frees at.X5 at.X6 here refl refl
  rows_keep at.X6 here = row_X6 here
  rows_keep at.X7 here = row_grabs at.X7 here refl
