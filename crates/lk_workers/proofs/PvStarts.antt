-- What a domain whose waiters halt says of its workers.
use Rattle.std.proofs.Common.{◌≡◌, ◌<◌, ℕ, List, length, get_or, sym, ap, subst, ◌∙◌, arith}
use Rattle.std.proofs.lemmas.List.{length-map}
use Rattle.std.specs.Prelude.{replicate}
use Rattle.std.specs.List.{sum}
use Rattle.lk_names.specs.Jobs.{full}
use Rattle.lk_names.specs.declared.names.Mode.TheVariants.{Pv}
use Rattle.lk_names.specs.Workload.{IsLawful, Workload, workers_of}
use Rattle.lk_law.specs.Agree.{halts}
use Rattle.lk_domain.specs.Calls.{Calls}
use Rattle.lk_domain.specs.Ledgers.{Ledger}
use Rattle.lk_domain.specs.declared.plan.Plan.{Plan}
use Rattle.lk_guard.specs.Idle.{IsFree, pv_crew_of}
use Rattle.lk_guard.specs.Deeds.{writes_in}
use Rattle.lk_pvdomain.specs.PvPlans.{IsLawful as IsLawfulPv, IsPlanOf}
use Rattle.lk_pvdomain.specs.PvSeats.{AllRest, AreDealt}
use Rattle.lk_domain.specs.declared.cpu.Cpu.{Cpu}
use Rattle.lk_pvdomain.specs.declared.domain.PvDomain.{PvDomain}
use Rattle.lk_pvdomain.specs.declared.plan.PvPlan.{PvPlan}
use Rattle.lk_workers.specs.Plans.{IsFor, IsPvPlanOf}
use Rattle.lk_workers.specs.UnderLock.{terms_in}
use Rattle.lk_workers.specs.Workers.{InOrder, IsDealt, Rests}

-- a domain may be made of the plan of a lawful workload
pub lawful_plan : (work : Workload) (p : PvPlan) → IsLawful work → IsPvPlanOf work p → IsLawfulPv p
lawful_plan work p lawful of =
    let cpus : length p.shares.items ≡ workers_of work = ap length of.shares ∙ length-map work.jobs writes_in in
    record {
      some = omega (arith, cpus, lawful.some);
      cpus = omega (arith, cpus, lawful.few);
      any = omega (arith, of.locks);
      locks = omega (arith, of.locks);
      accounts = omega (arith, ap length of.balances, lawful.accounts);
      small = subst (λ (bs : List ℕ). sum bs < full) (sym of.balances) lawful.total;
      turns = omega (arith, of.spins);
      few = omega (arith, of.spins);
    }

-- and a domain of it has the plan of its table
pub suits : (work : Workload) (p : PvPlan) (k : Plan) → IsLawful work → work.mode ≡ Pv → IsPvPlanOf work p → IsPlanOf p k → IsFor work k
suits work p k lawful mode for of =
    let cpus : length p.shares.items ≡ workers_of work = ap length for.shares ∙ length-map work.jobs writes_in in
    record {
      lawful = lawful;
      guard = (λ i. record {
        terms = record {
          format = (of.format ∙ for.format) i;
          mode = (of.mode ∙ sym mode) i;
          threshold = (of.spins ∙ for.spins) i;
          sockets = (of.sockets ∙ ap (λ (n : ℕ). replicate n 0) cpus) i;
        };
        kind = (of.kinds 0 ∙ sym (lawful.guarded mode)) i;
        opening = (of.balances ∙ for.balances) i;
      }) ∙ ap (λ b. record { terms = terms_in b work; kind = work.guard; opening = work.balances }) (sym (ap halts mode));
      cpus = of.cpus ∙ cpus;
      shares = of.shares ∙ for.shares;
    }

-- its new processors are dealt
pub dealt : (d : PvDomain) (cpus : List Cpu) → AreDealt d cpus → InOrder (IsDealt (pv_crew_of d)) cpus
dealt d cpus all i c within =
    let new = all i c within in
    let frames = ap (λ (s : Calls). s.frames) new.calls in
    let free : IsFree (get_or cpus i c) = record {
      nothing = record { frames = frames; holds = ap (λ (s : Calls). s.holds) new.calls; home = ap (λ (g : Ledger). g.out) new.ledger };
      rests = record { frames = frames; awake = ap (λ (s : Calls). s.halted) new.calls; fresh = ap (λ (s : Calls). s.looked) new.calls };
    } in
    record { rests = record { ready = (new.domain_is, free); number = new.number; who = new.who }; ledger = new.ledger }

-- and at their end they rest
pub rest : (d : PvDomain) (cpus : List Cpu) → InOrder (Rests (pv_crew_of d)) cpus → AllRest d cpus
rest d cpus all i c within =
    let r = all i c within in
    let nothing = r.ready.1.nothing in
    record { domain_is = r.ready.0; number = r.number; who = r.who; frames = nothing.frames; holds = nothing.holds; home = nothing.home }
