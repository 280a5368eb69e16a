-- What a row changes of a machine, as functions of the processors.
use Rattle.std.proofs.Common.{◌≡◌, ◌≢◌, ◌<◌, ℕ, zero, suc, Option, Some, None, List, [], ◌∷◌}
use Rattle.std.proofs.Common.{length, inl, inr, ap, refl, sym, ◌∙◌, subst, set}
use Rattle.std.proofs.lemmas.List.{get_or-set_same, get_or-set_other}
use Rattle.lk_osq.specs.declared.nodes.Node.{Node}
use Rattle.lk_osq.specs.declared.nodes.Cpu.{Cpu}
use Rattle.lk_osq.specs.Phase.{Phase}
use Rattle.lk_osq.specs.Queue.{Moves}
use Rattle.lk_osq.specs.History.{Told}
use Rattle.lk_osq.specs.Agree.{OsqAgrees}
use Rattle.lk_osq.specs.Machine.{Machine, cpu_at, node_at, set_cpu, set_node, set_tail, no_cpu}
use Rattle.lk_osq.specs.declared.outcomes.Lead.{Lead}
use Rattle.lk_osq.specs.declared.outcomes.Lead.TheVariants.{Goes, Knows, Meets, Ends}
use Rattle.lk_osq.specs.declared.outcomes.Store.{Store}
use Rattle.lk_osq.specs.Rows.{stored, moved, with_tail}
use Rattle.lk_osq.specs.Shown.{phase_of, phase_at, Shows}
use Rattle.lk_osq.proofs.Cases.{cpu_cases}

pub cpu-set_same : (m : Machine) (p : ℕ) (c : Cpu) → p < length m.cpus
    → cpu_at (set_cpu m p c) p ≡ c
unfolding cpu_at set_cpu
cpu-set_same m p c h = get_or-set_same m.cpus p c no_cpu h

pub cpu-set_other : (m : Machine) (p q : ℕ) (c : Cpu) → q ≢ p
    → cpu_at (set_cpu m p c) q ≡ cpu_at m q
unfolding cpu_at set_cpu
cpu-set_other m p q c ne = get_or-set_other m.cpus p q c no_cpu ne

pub tail-set : (m : Machine) (p : ℕ) (c : Cpu) → (set_cpu m p c).tail ≡ m.tail
unfolding set_cpu
tail-set m p c = refl

length-set_list : {A : Type 0} (xs : List A) (i : ℕ) (x : A) → length (set xs i x) ≡ length xs
length-set_list [] i x = refl
length-set_list (y ∷ xs) zero x = refl
length-set_list (y ∷ xs) (suc i) x = ap suc (length-set_list xs i x)

pub cpus-set : (m : Machine) (p : ℕ) (c : Cpu) → length (set_cpu m p c).cpus ≡ length m.cpus
unfolding set_cpu
cpus-set m p c = length-set_list m.cpus p c

pub cpu-tail : (m : Machine) (x : Option ℕ) (q : ℕ) → cpu_at (set_tail m x) q ≡ cpu_at m q
unfolding cpu_at
cpu-tail m x q = refl

pub cpu-with_tail : (m : Machine) (x : Option (Option ℕ)) (q : ℕ)
    → cpu_at (with_tail m x) q ≡ cpu_at m q
cpu-with_tail m None q = refl
cpu-with_tail m (Some x) q = cpu-tail m x q

pub cpus-with_tail : (m : Machine) (x : Option (Option ℕ))
    → length (with_tail m x).cpus ≡ length m.cpus
cpus-with_tail m None = refl
cpus-with_tail m (Some x) = refl

-- the phase does not depend on the node
lead_node : (c : Cpu) (x : Node) (l : Lead)
    → phase_of (moved (record c { node = x }) l) ≡ phase_of (moved c l)
lead_node c x (Goes d) = refl
lead_node c x (Knows d a) = refl
lead_node c x (Meets d b) = refl
lead_node c x Ends = refl

-- where it goes, its node stays
lead_keeps : (c : Cpu) (l : Lead) → (moved c l).node ≡ c.node
lead_keeps c (Goes d) = refl
lead_keeps c (Knows d a) = refl
lead_keeps c (Meets d b) = refl
lead_keeps c Ends = refl

-- a row that stores in no node
pub record Turns (m m' : Machine) (p : ℕ) (q q' : Phase) : Type 0 where
  pub acts : Moves (phase_at m) (phase_at m') p q q'
  pub nodes : (u : ℕ) → (cpu_at m' u).node ≡ (cpu_at m u).node

-- a row that stores in the node of a
pub record Stores (m m' : Machine) (p : ℕ) (q q' : Phase) (a : ℕ) (x : Node) : Type 0 where
  pub acts : Moves (phase_at m) (phase_at m') p q q'
  pub writes : Moves (λ u. (cpu_at m u).node) (λ u. (cpu_at m' u).node) a (node_at m a) x

module _ (m : Machine) (p : ℕ) (within : p < length m.cpus) where
  -- it goes on from a machine that differs in the tail alone
  pub goes_on : (x : Option (Option ℕ)) (l : Lead)
      → Turns m (set_cpu (with_tail m x) p (moved (cpu_at (with_tail m x) p) l)) p
      (phase_of (cpu_at m p)) (phase_of (moved (cpu_at m p) l))
  goes_on x l =
      let n = with_tail m x in
      let lt : p < length n.cpus = rw (cpus-with_tail m x) within in
      let same = cpu-set_same n p (moved (cpu_at n p) l) lt in
      record {
        acts = record {
          was = refl;
          now = ap phase_of same ∙ ap (λ c. phase_of (moved c l)) (cpu-with_tail m x p);
          others = λ u ne. ap phase_of
              (cpu-set_other n p u (moved (cpu_at n p) l) ne ∙ cpu-with_tail m x u);
        };
        nodes = λ u. elim (cpu_cases u p) [
          | inl e ↦ rw e
              (ap (λ (c : Cpu). c.node) same ∙ lead_keeps (cpu_at n p) l ∙ ap (λ (c : Cpu). c.node)
              (cpu-with_tail m x p))
          | inr ne ↦ ap (λ (c : Cpu). c.node)
              (cpu-set_other n p u (moved (cpu_at n p) l) ne ∙ cpu-with_tail m x u)
        ];
      }

  -- it stores in a node, and goes on
  pub stores_on : (a : ℕ) (s : Store) (l : Lead) → a < length m.cpus
      → Stores m
      (set_cpu (set_node m a (stored (node_at m a) s)) p
      (moved (cpu_at (set_node m a (stored (node_at m a) s)) p) l)) p
      (phase_of (cpu_at m p)) (phase_of (moved (cpu_at m p) l)) a (stored (node_at m a) s)
  stores_on a s l there =
      let x = stored (node_at m a) s in
      let n = set_node m a x in
      let lt : p < length n.cpus = rw (cpus-set m a (record (cpu_at m a) { node = x })) within in
      let d = moved (cpu_at n p) l in
      let same = cpu-set_same n p d lt in
      let here : cpu_at n a ≡ record (cpu_at m a) { node = x } =
      cpu-set_same m a (record (cpu_at m a) { node = x }) there in
      let other : (u : ℕ) → u ≢ a
      → cpu_at n u ≡ cpu_at m u =
      (λ u ne. cpu-set_other m a u (record (cpu_at m a) { node = x }) ne) in
      let phase : (u : ℕ)
      → phase_at n u ≡ phase_at m u =
      (λ u. elim
      (cpu_cases u a) [
        | inl e ↦ rw e (ap phase_of here)
        | inr ne ↦ ap phase_of
            (other u ne)
      ]) in
      let node : (u : ℕ)
      → (cpu_at (set_cpu n p d) u).node ≡ (cpu_at n u).node = (λ u. elim (cpu_cases u p) [
        | inl e ↦ rw e (ap (λ (c : Cpu). c.node) same ∙ lead_keeps (cpu_at n p) l)
        | inr ne ↦ ap (λ (c : Cpu). c.node) (cpu-set_other n p u d ne)
      ]) in
      let leads : phase_of (moved (cpu_at n p) l) ≡ phase_of (moved (cpu_at m p) l) =
      elim (cpu_cases p a) [
        | inl e ↦ ap (λ c. phase_of (moved c l)) (ap (cpu_at n) e ∙ here) ∙ lead_node
            (cpu_at m a) x l ∙ ap (λ u. phase_of (moved (cpu_at m u) l)) (sym e)
        | inr ne ↦ ap (λ c. phase_of (moved c l)) (other p ne)
      ] in
      record {
        acts = record {
          was = refl;
          now = ap phase_of same ∙ leads;
          others = λ u ne. ap phase_of (cpu-set_other n p u d ne) ∙ phase u;
        };
        writes = record {
          was = refl;
          now = node a ∙ ap (λ (c : Cpu). c.node) here;
          others = λ u ne. node u ∙ ap (λ (c : Cpu). c.node) (other u ne);
        };
      }

-- a machine shows what agrees with it
pub shows_by : {m : Machine} {t : Told} (x : Option ℕ) (f : ℕ → Node) → m.tail ≡ x
    → ((u : ℕ) → (cpu_at m u).node ≡ f u) → OsqAgrees x (phase_at m) f t → Shows m t
shows_by {m = m} {t = t} x f e nodes ok =
    record {
      agrees =
          subst (λ y. OsqAgrees y (phase_at m) (λ p. (cpu_at m p).node) t) (sym e)
          (subst (λ g. OsqAgrees x (phase_at m) g t) (λ i u. sym (nodes u) i) ok);
    }
