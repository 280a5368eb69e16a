-- A table runs by the plan of a domain whose waiters halt.
use Rattle.std.proofs.Common.{◌≡◌, ℕ, zero, suc, length, refl, sym, ap, ◌∙◌, get_or, true}
use Rattle.std.proofs.Common.{arith, replicate}
use Rattle.std.specs.List.{sum}
use Rattle.lk_pvdomain.proofs.Names.{Mode, halts, turns_by, turns_of, Plan}
use Rattle.lk_names.specs.declared.names.Kind.TheVariants.{Spin}
use Rattle.lk_domain.specs.Plans.{IsRunningPlan}
use Rattle.lk_pvdomain.specs.{PvPlans.{IsLawful, IsPlanOf}, declared.plan.PvPlan.PvPlan}

-- all kinds of a list of spinlocks are that
pub all_spin : (n i : ℕ) → get_or (replicate n Spin) i Spin ≡ Spin
all_spin zero i = refl
all_spin (suc n) zero = refl
all_spin (suc n) (suc i) = all_spin n i

-- processors halt by it, and a table runs by it
pub halts_by : (p : PvPlan) (k : Plan) → IsPlanOf p k → halts k.mode ≡ true
halts_by p k e = ap halts e.mode

pub runs_by : (p : PvPlan) (k : Plan) → IsLawful p → IsPlanOf p k → IsRunningPlan k
runs_by p k h e =
    let turns : turns_of k ≡ p.spins = ap (λ (m : Mode). turns_by m k.threshold) e.mode ∙ e.spins in
    let same : length k.balances.items ≡ length p.balances.items = ap length e.balances in
    let shares : length k.shares.items ≡ length p.shares.items = ap length e.shares in
    record {
      some = let a = e.cpus in let b = h.some in omega arith;
      cpus = let a = e.cpus in let b = h.cpus in omega arith;
      any = let a = e.locks in let b = h.any in omega arith;
      locks = let a = e.locks in let b = h.locks in omega arith;
      accounts = let b = h.accounts in omega (arith, same, b);
      small = let a = ap sum e.balances in let b = h.small in omega (arith, a, b);
      shares = shares ∙ sym e.cpus;
      turns = let b = h.turns in omega (arith, turns, b);
      spins = λ on l. e.kinds l;
    }
