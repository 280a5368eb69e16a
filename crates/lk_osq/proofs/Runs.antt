-- Acts, the machine at rest, and runs.
use Rattle.std.proofs.Common.{◌⊎◌, ◌+◌, take, ◌≡◌, ◌<◌, ◌≤◌, ℕ, zero, suc, Option, Some, None, Bool}
use Rattle.std.proofs.Common.{true, false, List, [], ◌∷◌, ◌++◌, length, inl, inr, arith, ap, refl}
use Rattle.std.proofs.Common.{sym, ◌∙◌, subst, get_or, slice_get, map, if◌then◌else◌, nat_lt}
use Rattle.lk_osq.specs.declared.nodes.Node.{Node}
use Rattle.lk_osq.specs.declared.nodes.Cpu.{Cpu}
use Rattle.lk_osq.specs.declared.places.Place.{Place}
use Rattle.lk_osq.specs.declared.places.Place.TheVariants as at
use Rattle.lk_osq.specs.declared.events.OsqEvent.{OsqEvent}
use Rattle.lk_osq.specs.Phase.Phase.{Outside}
use Rattle.lk_osq.specs.History.{Told, told, nothing_told, told_by, IsLawfulAfter}
use Rattle.lk_osq.specs.Agree.{OsqAgrees}
use Rattle.lk_osq.specs.Machine.{Machine, cpu_at, node_at, set_cpu, no_cpu, rest_node}
use Rattle.lk_osq.specs.declared.outcomes.Store.{Store}
use Rattle.lk_osq.specs.declared.outcomes.Outcome.{Outcome}
use Rattle.std.proofs.lemmas.Bool.{cases_Bool}
use Rattle.lk_osq.specs.Rows.{IsIdle, may_give, asked, stored, moved, with_tail, with_node, applied}
use Rattle.lk_osq.specs.Rows.{row, stepped, gives, next}
use Rattle.lk_osq.specs.Shown.{phase_by, phase_of, phase_at, Shows, told_on, IsLawfulIfAny}
use Rattle.lk_osq.specs.Run.{Act, machine_after, events_of, history, rest_cpu, at_rest, AreInRange}
use Rattle.lk_osq.specs.RunLaws.{ActKeeps, RunKeeps}
use Rattle.lk_osq.proofs.Cases.{cpu_cases}
use Rattle.lk_osq.proofs.Steps.{shows_by, tail-set, cpu-set_same, cpu-set_other, cpus-set}
use Rattle.lk_osq.proofs.Steps.{cpus-with_tail}
use Rattle.lk_osq.proofs.Rows.{rows_keep}
use Rattle.lk_osq.proofs.Handed.{are_handed}

-- a processor is asked to give up
asked_keeps : (m : Machine) (t : Told) (p : ℕ) → p < length m.cpus → Shows m t
    → Shows (set_cpu m p (asked (cpu_at m p))) t
asked_keeps m t p within ok =
    let c = asked (cpu_at m p) in
    let same = cpu-set_same m p c within in
    let phase : (u : ℕ) → phase_at (set_cpu m p c) u ≡ phase_at m u =
    (λ u. elim
    (cpu_cases u p) [
      | inl e ↦ rw e (ap phase_of same)
      | inr ne ↦ ap phase_of
          (cpu-set_other m p u c ne)
    ]) in
    let node : (u : ℕ) → (cpu_at (set_cpu m p c) u).node ≡ (cpu_at m u).node =
    (λ u. elim
    (cpu_cases u p) [
      | inl e ↦ rw e (ap (λ (d : Cpu). d.node) same)
      | inr ne ↦ ap
          (λ (d : Cpu). d.node) (cpu-set_other m p u c ne)
    ]) in
    shows_by m.tail (λ u. (cpu_at m u).node) (tail-set m p c) node
    (subst (λ f. OsqAgrees m.tail f (λ u. (cpu_at m u).node) t) (λ i u. sym (phase u) i) ok.agrees)

give_keeps : (m : Machine) (t : Told) (p : ℕ) → p < length m.cpus → Shows m t → (b : Bool)
    → Shows (if b then set_cpu m p (asked (cpu_at m p)) else m) t
give_keeps m t p within ok true = asked_keeps m t p within ok
give_keeps m t p within ok false = ok

step_keeps : (m : Machine) (t : Told) (p : ℕ) → p < length m.cpus → Shows m t → (x : Option Place)
    → (cpu_at m p).place ≡ x
    → Shows (stepped m p x).0 (told_on (stepped m p x).1 t) × IsLawfulIfAny (stepped m p x).1 t
step_keeps m t p within ok None e = (ok, tt)
step_keeps m t p within ok (Some d) e = rows_keep m t p within ok d e

pub acts_keep : ActKeeps
acts_keep m t true p within ok = (give_keeps m t p within ok (gives (cpu_at m p)), tt)
acts_keep m t false p within ok = step_keeps m t p within ok (cpu_at m p).place refl

-- no act changes how many processors there are

cpus_node : (m : Machine) (x : Option (ℕ × Store)) → length (with_node m x).cpus ≡ length m.cpus
cpus_node m None = refl
cpus_node m (Some s) = cpus-set m s.0 (record (cpu_at m s.0) { node = stored (node_at m s.0) s.1 })

cpus_applied : (m : Machine) (p : ℕ) (o : Outcome) → length (applied m p o).cpus ≡ length m.cpus
cpus_applied m p o =
    let n = with_node (with_tail m o.tail) o.node in
    cpus-set n p (moved (cpu_at n p) o.leads) ∙ cpus_node
    (with_tail m o.tail) o.node ∙ cpus-with_tail m o.tail

pub cpus_next : (m : Machine) (b : Bool) (p : ℕ) → length (next m b p).0.cpus ≡ length m.cpus
cpus_next m true p = go (gives (cpu_at m p))
  where
    go : (b : Bool)
        → length (if b then set_cpu m p (asked (cpu_at m p)) else m).cpus ≡ length m.cpus
    go true = cpus-set m p (asked (cpu_at m p))
    go false = refl
cpus_next m false p = go (cpu_at m p).place
  where
    go : (x : Option Place) → length (stepped m p x).0.cpus ≡ length m.cpus
    go None = refl
    go (Some d) = cpus_applied m p (row m p (cpu_at m p) d)

-- at rest

rest_is : (r : ℕ) → (phase_of (rest_cpu r) ≡ Outside) × ((rest_cpu r).node ≡ rest_node)
rest_is r = (go (nat_lt 0 r), refl)
  where
    go : (b : Bool) → phase_by (if b then Some at.O1 else None) None None ≡ Outside
    go true = refl
    go false = refl

rest_at : (rs : List ℕ) (u : ℕ)
    → (phase_of (get_or (map rest_cpu rs) u no_cpu) ≡ Outside)
    × ((get_or (map rest_cpu rs) u no_cpu).node ≡ rest_node)
rest_at [] u = (refl, refl)
rest_at (r ∷ rs) zero = rest_is r
rest_at (r ∷ rs) (suc u) = rest_at rs u

rest_cpu_at : (rs : List ℕ) (u : ℕ)
    → (phase_at (at_rest rs) u ≡ Outside) × ((cpu_at (at_rest rs) u).node ≡ rest_node)
unfolding cpu_at
rest_cpu_at rs u = rest_at rs u

pub rest_shows : (rs : List ℕ) → Shows (at_rest rs) nothing_told
rest_shows rs =
    record {
      agrees = record {
        queue = record {
          inside = λ i u h. absurd (cc);
          place = λ u h. absurd (grind (arith, rest_cpu_at rs u, h));
          once = λ i j u h k. absurd (cc);
          no_tail = λ h. refl;
          tail_is = λ i u h k. absurd (cc);
          first = λ u h. absurd (cc);
          behind = λ i u h. absurd (cc);
          pair = λ i u v h k. absurd (cc);
          last = λ i u h k. absurd (cc);
          outside = λ u h. ap (λ (n : Node). n.next) (rest_cpu_at rs u).1;
          fresh = λ u h. ap (λ (n : Node). n.flag) (rest_cpu_at rs u).1;
        };
        front = inl (record { holders = refl; waiting = refl; handed = refl });
      };
    }

-- runs

-- there is one holder at most
few : (m : Machine) (t : Told) → Shows m t → length t.holders ≤ 1
few m t ok = elim ok.agrees.front [
  | inl n ↦ rw n.holders (omega arith)
  | inr f ↦ elim f [ inl o ↦ rw o.holders (omega arith) | inr h ↦ rw h.holders (omega arith) ]
]

-- an act, and then others
first_then : (m k : Machine) (t : Told) (acts : List Act) (o : Option OsqEvent)
    → length t.holders ≤ 1 → Shows k (told_on o t) → IsLawfulIfAny o t
    → ((s : Told) → Shows k s
    → IsLawfulAfter (history k acts) s × Shows (machine_after k acts) (told_by (history k acts) s))
    → IsLawfulAfter (events_of o ++ history k acts) t
    × Shows (machine_after k acts) (told_by (events_of o ++ history k acts) t)
first_then m k t acts None small s l rest = rest t s
first_then m k t acts (Some e) small s l rest = let r =
    rest (told e.cpu e.what t) s in ((small, l, r.0), r.1)

pub run_from : (acts : List Act) (m : Machine) (t : Told) → AreInRange (length m.cpus) acts
    → Shows m t
    → IsLawfulAfter (history m acts) t × Shows (machine_after m acts) (told_by (history m acts) t)
run_from [] m t range ok = (few m t ok, ok)
run_from (a ∷ acts) m t range ok =
    let kept = acts_keep m t a.give a.cpu range.0 ok in
    let k = (next m a.give a.cpu).0 in
    let inside : AreInRange (length k.cpus) acts =
    subst (λ n. AreInRange n acts) (sym (cpus_next m a.give a.cpu)) range.1 in
    first_then m k t acts (next m a.give a.cpu).1 (few m t ok) kept.0 kept.1
    (λ s shown. run_from acts k s inside shown)

pub runs_keep : RunKeeps
runs_keep rounds acts range =
    let r = run_from acts (at_rest rounds) nothing_told
    (subst (λ n. AreInRange n acts) (sym (length-map_rest rounds)) range) (rest_shows rounds) in
    (r.0, are_handed [] (history (at_rest rounds) acts) nothing_told r.0 (λ q h. absurd (cc)), r.1)
  where
    length-map_rest : (rs : List ℕ) → length (map rest_cpu rs) ≡ length rs
    length-map_rest [] = refl
    length-map_rest (r ∷ rs) = ap suc (length-map_rest rs)

-- the same for what a call gave
pub act_kept : (m n : Machine) (o : Option OsqEvent) (give : Bool) (p : ℕ) → p < length m.cpus
    → n ≡ (next m give p).0 → o ≡ (next m give p).1
    → (t : Told) → Shows m t → Shows n (told_on o t) × IsLawfulIfAny o t
act_kept m n o give p within e h t ok =
    let k = acts_keep m t give p within ok in (
      subst (λ x. Shows x (told_on o t)) (sym e)
          (subst (λ x. Shows (next m give p).0 (told_on x t)) (sym h) k.0),
      subst (λ x. IsLawfulIfAny x t)
          (sym h) k.1,
    )

-- one processor more
pub rest_more : (rs : List ℕ) (i r : ℕ) → slice_get rs i ≡ Some r
    → map rest_cpu (take (i + 1) rs) ≡ map rest_cpu (take i rs) ++ rest_cpu r ∷ []
rest_more [] i r h = cc
rest_more (x ∷ xs) zero r h = let e : x ≡ r = grind arith in ap (λ y. rest_cpu y ∷ []) e
rest_more (x ∷ xs) (suc i) r h = let e : suc i + 1 ≡ suc (i + 1) =
    omega arith in rw e (ap (λ ys. rest_cpu x ∷ ys) (rest_more xs i r h))

gives_not : (c : Cpu) → (may_give c.place ≡ false) ⊎ (c.request ≡ true) → gives c ≡ false
gives_not c h = grind (arith, h, cases_Bool c.request, cases_Bool (may_give c.place))

idle_is : (m : Machine) (give : Bool) (p : ℕ) → IsIdle m give p
    → ((next m give p).0 ≡ m) × ((next m give p).1 ≡ None)
idle_is m true p h = let e = gives_not (cpu_at m p) h in (rw e refl, refl)
idle_is m false p h = (rw h refl, rw h refl)

-- the same for what a call gave
pub idle_kept : (m n : Machine) (o : Option OsqEvent) (give : Bool) (p : ℕ) → n ≡ (next m give p).0
    → o ≡ (next m give p).1 → IsIdle m give p
    → (n ≡ m) × (o ≡ None)
idle_kept m n o give p e h idle = let r = idle_is m give p idle in (e ∙ r.0, h ∙ r.1)
