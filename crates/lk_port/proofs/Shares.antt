-- What is so of a share by its family.
use Rattle.std.proofs.Common.{◌≡◌, ℕ, ◌<◌, List, Bool, true, false, refl, sym, ap, ◌∙◌, subst}
use Rattle.std.proofs.{Math.Bool.Bool-set, Math.Logic.∥∥₁_elim}
use Rattle.std.specs.Arc.{arc_value}
use Rattle.lk_port.proofs.Names.{true≢false, Rw, Spin, kind_at, locks_of, Cpu, Domain, domain_of}
use Rattle.lk_port.proofs.Names.{may_halt, Stands, Pending, Share}
use Rattle.lk_domain.specs.{Plans.cpus_of, Seats.{IsIn, IsSame}, Who.Who}
use Rattle.lk_pvdomain.specs.{declared.domain.PvDomain.PvDomain, declared.waiter.PvWaiter.PvWaiter}
use Rattle.lk_port.specs.{Shares.{By, IsOf}, declared.share.Share.TheVariants.{Runs, Halts}}
use Rattle.lk_port.specs.declared.pending.Pending.TheVariants as pending

-- it is the share of this domain, whose waiters halt
abbrev pub IsHalting : Share → PvDomain → Type 0
IsHalting s d = By s (λ _. ⊥) (λ e. d ≡ e)

module _ (P : Domain → Type 0) (Q : PvDomain → Type 0) where
  -- what is so where waiters run, and of the domain where they halt

  pub runs_by : (s : Share) → may_halt s ≡ false → P (domain_of s) → By s P Q
  runs_by (Runs a) e p = p
  runs_by (Halts a) e p = absurd (true≢false e)

  pub running : (s : Share) → may_halt s ≡ false → By s P Q → P (domain_of s)
  running (Runs a) e p = p
  running (Halts a) e p = absurd (true≢false e)

  pub halts_by : (s : Share) (d : PvDomain) → IsHalting s d → Q d → By s P Q
  halts_by (Runs a) d is q = absurd is
  halts_by (Halts a) d is q = subst Q is q

  pub halting : (s : Share) (d : PvDomain) → IsHalting s d → By s P Q → Q d
  halting (Runs a) d is p = absurd is
  halting (Halts a) d is q = subst Q (sym is) q

-- there is one
pub halting_in : (s : Share) → may_halt s ≡ true → (d : PvDomain) × IsHalting s d
halting_in (Runs a) e = absurd (true≢false (sym e))
halting_in (Halts a) e = (arc_value a, refl)

-- its domain is that one
pub same_domain : (s : Share) (d : PvDomain) → IsHalting s d → domain_of s ≡ d.domain
same_domain (Runs a) d is = absurd is
same_domain (Halts a) d is = sym (ap (λ (e : PvDomain). e.domain) is)

pub low_in : {l : ℕ} (s : Share) (d : PvDomain) → IsHalting s d → l < locks_of (domain_of s).plan → l < locks_of d.domain.plan
low_in {l} s d is low = subst (λ (e : Domain). l < locks_of e.plan) (same_domain s d is) low

-- a domain that has a reader-writer lock halts none
pub runs_rw : (s : Share) (l : ℕ) → kind_at (domain_of s).plan l ≡ Rw → may_halt s ≡ false
runs_rw (Runs a) l e = refl
runs_rw (Halts a) l e =
    let d = arc_value a in
    absurd (let z : Spin ≡ Rw = sym (d.domain.lawful.spins d.halting l) ∙ e in let no : ⊥ = cc z in no)

-- nor does one in which such a call waits

abbrev pub is_running : Pending → Bool
is_running (pending.Spins w) = true
is_running (pending.Reads w) = true
is_running (pending.Writes w) = true
is_running _ = false

runs_waiting : (s : Share) (ws : List Bool) (o : Pending) (cpu : Cpu) → is_running o ≡ true → Stands s ws o cpu → may_halt s ≡ false
runs_waiting (Runs a) ws o cpu e h = refl
runs_waiting (Halts a) ws pending.Free cpu e h = absurd (true≢false (sym e))
runs_waiting (Halts a) ws (pending.Spins w) cpu e h = absurd h
runs_waiting (Halts a) ws (pending.Reads w) cpu e h = absurd h
runs_waiting (Halts a) ws (pending.Writes w) cpu e h = absurd h
runs_waiting (Halts a) ws (pending.Halts w) cpu e h = absurd (true≢false (sym e))

pub runs_pending : (s : Share) (ws : List Bool) (o : Pending) (cpu : Cpu) → is_running o ≡ true → ∥ Stands s ws o cpu ∥₁ → may_halt s ≡ false
runs_pending s ws o cpu e h = ∥∥₁_elim h (Bool-set (may_halt s) false) (runs_waiting s ws o cpu e)

-- and one does in which the other call waits

halts_with : (s : Share) (ws : List Bool) (w : PvWaiter) (cpu : Cpu) → Stands s ws (pending.Halts w) cpu → may_halt s ≡ true
halts_with (Runs a) ws w cpu h = absurd h
halts_with (Halts a) ws w cpu h = refl

pub halts_waiting : (s : Share) (ws : List Bool) (o : Pending) (w : PvWaiter) (cpu : Cpu) → o ≡ pending.Halts w → Stands s ws o cpu → may_halt s ≡ true
halts_waiting s ws o w cpu e h = halts_with s ws w cpu (subst (λ (x : Pending). Stands s ws x cpu) e h)

-- the processor is one of its domain as before
pub still_in : (s : Share) (a b : Cpu) → IsSame a b → IsOf a s → IsOf b s
still_in s a b same of =
    record {
      seat = record {
        table = same.table ∙ of.seat.table;
        plan = ap (λ (w : Who). w.plan) same.who ∙ of.seat.plan;
        low = subst (λ (n : ℕ). n < cpus_of (domain_of s).plan) (sym same.number) of.seat.low;
      };
      fit = of.fit;
    }

-- and of the one that halts
pub is_of : {cpu : Cpu} (s : Share) (d : PvDomain) → IsHalting s d → IsOf cpu s → IsIn cpu d.domain
is_of {cpu} s d is of = subst (λ (e : Domain). IsIn cpu e) (same_domain s d is) of.seat
