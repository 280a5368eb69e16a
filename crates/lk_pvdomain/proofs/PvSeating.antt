-- The seat of a processor that may halt, as the steps at the ledger ask for it; and what it is after a call.
use Rattle.std.proofs.Common.{◌≡◌, ◌<◌, ℕ, true, false, sym, ap, ◌∙◌, subst}
use Rattle.std.proofs.{Crossing.crosses, Math.Bool.Bool-set}
use Rattle.lk_pvdomain.proofs.Names.{halts, cpus_of, IsSame, Who, Cpu, Domain, Plan, PvDomain}
use denote.Param.Send.{IsSync, sendable}
use Rattle.lk_domain.proofs.Crossing.{domain_field_sync}
use Rattle.lk_pvdomain.specs.PvSeats.{IsOf}
use Rattle.lk_pvdomain.specs.contracts.domain.PvDomain as Contract

-- its family halts, so that it notes nothing
pub not_awake : (d : PvDomain) (cpu : Cpu) → IsOf cpu d → (w : Who) → w ≡ cpu.seat.me.0.who → halts w.plan.mode ≡ false → ⊥
not_awake d cpu o w same awake =
    let no : true ≡ false = sym (ap (λ (k : Plan). halts k.mode) (ap (λ (v : Who). v.plan) same ∙ o.plan) ∙ d.halting) ∙ awake in
    cc no

-- it is one of its domain as before
pub same_of : (d : PvDomain) (a b : Cpu) → IsSame a b → IsOf a d → IsOf b d
same_of d a b same of =
    record {
      table = same.table ∙ of.table;
      plan = ap (λ (w : Who). w.plan) same.who ∙ of.plan;
      low = subst (λ (n : ℕ). n < cpus_of d.domain.plan) (sym same.number) of.low;
    }

-- what is the same domain is the same one that halts
pub one_domain : (a b : PvDomain) → a.domain ≡ b.domain → a ≡ b
one_domain a b e =
    subst (λ (x : Domain). (h : halts x.plan.mode ≡ true) → record { domain = x; halting = h } ≡ b) (sym e)
    (λ h i. record { domain = b.domain; halting = Bool-set (halts b.domain.plan.mode) true h b.halting i }) a.halting

-- a domain may be seen by several threads at once
pub pv_domain_sync : IsSync Contract.the_row
pv_domain_sync = search (sendable, crosses, domain_field_sync) depth 40

-- as a field of another type
pub pv_domain_field_sync : IsSync Contract.the_field.row
pv_domain_field_sync = search (sendable, crosses, domain_field_sync, pv_domain_sync) depth 40
