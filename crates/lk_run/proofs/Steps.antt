-- What a step of a processor does to a call.
use Rattle.std.proofs.Common.{◌≡◌, ℕ, ◌<◌, List, [], ◌++◌, append-nil, append_assoc, Bool, true}
use Rattle.std.proofs.Common.{false, eqb, refl, sym, ap, ◌∙◌, subst, arith, ◌||◌}
use Rattle.lk_run.proofs.Names.{Manner, Spins, LockName, Pc, Verb, Try, Calls, Mark, Takes}
use Rattle.lk_run.proofs.Names.{lock_name, terms_of, Ledger, turned, Any, HasLooked, HasTaken}
use Rattle.lk_run.proofs.Names.{Passes, is_busy, ActsIn, looks_by, queues_up, IsOf, KeepsRest}
use Rattle.lk_run.proofs.Names.{calls_of, view_of, Cpu, Domain, View}
use Rattle.lk_names.specs.declared.names.Kind.TheVariants.{Spin}
use Rattle.lk_domain.proofs.Ways.{IsSeat, Moved, Took, Missed, acts_first}
use Rattle.lk_domain.specs.{Ledgers.Look, Paths.HasMissed, Plans.kind_at, Plays.{Acts, ActsOn}}
use Rattle.lk_domain.specs.{Standing.IsAt, Waits.{MayTake, Moves, Gains, Misses}}

-- the seat of a processor of the domain
pub seat_of : (d : Domain) (a : Cpu) → IsOf a d → IsSeat d.plan a.number (view_of a)
seat_of d a of = record { plan = of.plan; number = a.numbered; awake = of.awake }

pub still_of : (d : Domain) (a b : Cpu) → KeepsRest a b → IsOf a d → IsOf b d
still_of d a b rest of =
    record {
      table = rest.same.table ∙ of.table;
      plan = ap (λ (w : Rattle.lk_domain.specs.Who.Who). w.plan) rest.same.who ∙ of.plan;
      low = subst (λ (n : ℕ). n < Rattle.lk_domain.specs.Plans.cpus_of d.plan) (sym rest.same.number) of.low;
      awake = of.awake;
    }

pub rest_both : (a b c : Cpu) → KeepsRest a b → KeepsRest b c → KeepsRest a c
rest_both a b c h k =
    record {
      same = record {
        table = k.same.table ∙ h.same.table;
        id = k.same.id ∙ h.same.id;
        number = k.same.number ∙ h.same.number;
        who = k.same.who ∙ h.same.who;
      };
      slots = k.slots ∙ h.slots;
    }

pub rest_same : (a : Cpu) → KeepsRest a a
rest_same a = record { same = record { table = refl; id = refl; number = refl; who = refl }; slots = refl }

module _ (d : Domain) (v : Verb) (l : ℕ) (old : Calls) (a b : Cpu) (rest : KeepsRest a b) where
  pub moved : (c : Pc) → Moved d.plan a.number v l c old (view_of a) (view_of b) → Moves d v l c old a b
  moved c m =
      record {
        waits = subst (λ (p : ℕ). IsAt (terms_of d.plan) p v l c Any old (calls_of b)) (sym rest.same.number) m.at;
        ledger = m.ledger;
      }

  pub took : Took d.plan a.number v l Spins old (view_of a) (view_of b) → Gains d v l Spins old a b
  took m =
      record {
        taken = subst (λ (p : ℕ). HasTaken (terms_of d.plan) p v l Spins old (calls_of b)) (sym rest.same.number) m.taken;
        once = m.once;
        ledger = m.ledger;
      }

  pub missed : Missed d.plan a.number v l old (view_of a) (view_of b) → Misses d v l old a b
  missed m =
      record {
        missed = subst (λ (p : ℕ). HasMissed (terms_of d.plan) p v l old (calls_of b)) (sym rest.same.number) m.missed;
        ledger = m.ledger;
      }

-- what nested calls leave of the ledger

pub passes_none : (b : Bool) (g h : Ledger) → h ≡ g → Passes b g h
passes_none b g h e =
    record {
      share = ap (λ (x : Ledger). x.share) e;
      own = ap (λ (x : Ledger). x.own) e;
      out = ap (λ (x : Ledger). x.out) e;
      look = ap (λ (x : Ledger). x.look) e;
      seen = let z = ap (λ (x : Ledger). x.seen) e in omega arith;
      more = [];
      looks = ap (λ (x : Ledger). x.looks) e ∙ sym (append-nil g.looks);
      still = λ _. e;
    }

pub passes_both : (b : Bool) (g h i : Ledger) → Passes b g h → Passes b h i → Passes b g i
passes_both b g h i p q =
    record {
      share = q.share ∙ p.share;
      own = q.own ∙ p.own;
      out = q.out ∙ p.out;
      look = q.look ∙ p.look;
      seen = let x = p.seen in let y = q.seen in omega arith;
      more = p.more ++ q.more;
      looks = q.looks ∙ (ap (λ (xs : List Look). xs ++ q.more) p.looks ∙ append_assoc g.looks p.more q.more);
      still = λ e. q.still e ∙ p.still e;
    }

pub looked : (l : ℕ) (m : Manner) (old : Calls) (last : List Mark) (g h i : Ledger) → Passes ((eqb l 0) || is_busy old) g h
    → i ≡ turned h (lock_name l) (Takes m) last → HasLooked l m old last g i
looked l m old last g h i p e = record { between = h; passes = p; now = e }

-- what a step call asks of a call on the lock itself
pub plain_in : (kind : Pc → Bool) (m : View) (v : Verb) (n : LockName) → n.wait ≡ false → queues_up v ≡ false
    → Acts kind m v n.index → ActsIn kind m v n
plain_in kind m v n plain off acts =
    let name : lock_name n.index ≡ n = λ i. record { index = n.index; wait = sym plain i } in
    record {
      acts = subst (ActsOn kind m v) name acts;
      inside = plain ∙ sym off;
      after = λ w. let z : true ≡ false = sym w ∙ plain in absurd (cc z);
    }

-- of a try that begins
pub tries : (d : Domain) (l : ℕ) (a : Cpu) → IsOf a d → MayTake l (calls_of a) → kind_at d.plan l ≡ Spin
    → ActsIn (looks_by Try) (view_of a) Try (lock_name l)
tries d l a of may kind =
    plain_in (looks_by Try) (view_of a) Try (lock_name l) refl refl
    (acts_first (looks_by Try) d.plan a.number Try l (view_of a) (seat_of d a of) refl may.fresh may.free may.few kind refl)
