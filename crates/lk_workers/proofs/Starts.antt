-- Workers before and after their jobs, and their processors; and what a queued domain says of its own.
use Rattle.std.proofs.Common.{◌≡◌, ◌<◌, ℕ, Some, List, [], ◌∷◌, length, map, get_or, sym, ap, subst, ◌∙◌, arith}
use Rattle.std.proofs.lemmas.List.{length-map, get_or-map as get_or_map_within}
use Rattle.std.proofs.Math.ListN.{get_or-map}
use Rattle.std.specs.Prelude.{slice_get, false}
use Rattle.std.specs.List.{sum}
use Rattle.std.proofs.lemmas.Option.{slice_get_within, get_or_from_slice_get}
use Rattle.lk_names.specs.Jobs.{full}
use Rattle.lk_names.specs.ListOf.{ListOf}
use Rattle.lk_names.specs.declared.ledger.Job.{Job}
use Rattle.lk_names.specs.declared.ledger.Seen.{Seen}
use Rattle.lk_names.specs.declared.names.Kind.TheVariants.{Spin}
use Rattle.lk_names.specs.Workload.{IsLawful, Workload, jobs_of, workers_of, workload_of}
use Rattle.lk_names.specs.declared.job_file.JobFile.{JobFile}
use Rattle.lk_domain.specs.Calls.{Calls}
use Rattle.lk_domain.specs.Ends.{AllRest}
use Rattle.lk_domain.specs.Ledgers.{Ledger, with_share}
use Rattle.lk_domain.specs.Plans.{IsLawfulPlan, IsSamePlan}
use Rattle.lk_domain.specs.Seated.{HoldsNothing}
use Rattle.lk_domain.specs.Seats.{AreDealt, ledger_of, view_of}
use Rattle.lk_domain.specs.declared.cpu.Cpu.{Cpu}
use Rattle.lk_domain.specs.declared.domain.Domain.{Domain}
use Rattle.lk_domain.specs.declared.plan.Plan.{Plan}
use Rattle.lk_domain.proofs.Seating.{in_of, of_in}
use Rattle.lk_guard.specs.Idle.{Crew, Stays, crew_of}
use Rattle.lk_guard.specs.Deeds.{Worked, writes_in}
use Rattle.lk_guard.specs.Guards.{guard_in}
use Rattle.lk_law.specs.Agree.{halts}
use Rattle.lk_workers.specs.Plans.{IsFor, IsPlanOf}
use Rattle.lk_workers.specs.UnderLock.{terms_in}
use Rattle.lk_workers.specs.Workers.{AreReady, AreThrough, InOrder, IsDealt, IsReady, IsThrough, Rests, cpu_of, no_records, reads_of}
use Rattle.lk_workers.specs.declared.worker.Worker.{Worker}

-- a domain may be made of the plan of a lawful workload
pub lawful_plan : (work : Workload) (plan : Plan) → halts work.mode ≡ false → IsLawful work → IsPlanOf work plan → IsLawfulPlan plan
lawful_plan work plan awake lawful of =
    let cpus : length plan.topology.sockets.items ≡ workers_of work = ap length of.sockets ∙ lawful.each in
    record {
      awake = ap halts of.mode ∙ awake;
      some = omega (arith, cpus, lawful.some);
      cpus = omega (arith, cpus, lawful.few);
      any = omega (arith, ap length of.locks);
      locks = omega (arith, ap length of.locks);
      accounts = omega (arith, ap length of.balances, lawful.accounts);
      small = subst (λ (bs : List ℕ). sum bs < full) (sym of.balances) lawful.total;
      shares = ap length of.shares ∙ (length-map work.jobs writes_in ∙ sym cpus);
    }

-- the same plan in other room is one that a domain of it has
pub suits : (work : Workload) (k j : Plan) → halts work.mode ≡ false → IsLawful work → IsSamePlan k j → IsPlanOf work j → IsFor work k
suits work k j awake lawful same of = record {
  lawful = lawful;
  guard = (λ i. record {
    terms = record {
      format = (same.format ∙ of.format) i;
      mode = (same.mode ∙ of.mode) i;
      threshold = (same.threshold ∙ of.threshold) i;
      sockets = (same.sockets ∙ of.sockets) i;
    };
    kind = get_or ((same.locks ∙ of.locks) i) 0 Spin;
    opening = (same.balances ∙ of.balances) i;
  }) ∙ ap (λ b. record { terms = terms_in b work; kind = work.guard; opening = work.balances }) (sym awake);
  cpus = ap length (same.sockets ∙ of.sockets) ∙ lawful.each;
  shares = same.shares ∙ of.shares;
}

-- its new processors are dealt
pub dealt : (d : Domain) (cpus : List Cpu) → halts d.plan.mode ≡ false → AreDealt d cpus → InOrder (IsDealt (crew_of d)) cpus
dealt d cpus awake all i c within =
    let new = all i c within in
    let nothing : HoldsNothing (view_of (get_or cpus i c)) = record { frames = ap (λ (s : Calls). s.frames) new.calls; holds = ap (λ (s : Calls). s.holds) new.calls; home = ap (λ (g : Ledger). g.out) new.ledger } in
    record { rests = record { ready = (of_in (get_or cpus i c) d new.domain_is awake, nothing); number = new.number; who = new.who }; ledger = new.ledger }

-- and at their end they rest
pub rest : (d : Domain) (cpus : List Cpu) → InOrder (Rests (crew_of d)) cpus → AllRest d cpus
rest d cpus all i c within =
    let r = all i c within in
    record { domain_is = in_of (get_or cpus i c) d r.ready.0; number = r.number; who = r.who; frames = r.ready.1.frames; holds = r.ready.1.holds; home = r.ready.1.home }

module _ (crew : Crew) where
  -- workers on new processors, with room for their records, are ready
  pub all_ready : (work : Workload) (cpus : List Cpu) (ws : List Worker) → IsFor work crew.plan → InOrder (IsDealt crew) cpus → map cpu_of ws ≡ cpus
      → map reads_of ws ≡ map no_records work.jobs → AreReady crew work ws
  all_ready work cpus ws of all are room i w within =
      let here : get_or cpus i (cpu_of w) ≡ cpu_of (get_or ws i w) = ap (λ (cs : List Cpu). get_or cs i (cpu_of w)) (sym are) ∙ get_or-map cpu_of ws i w in
      let inside : i < length cpus = omega (arith, within, ap length are, length-map ws cpu_of) in
      let new : IsDealt crew i (cpu_of (get_or ws i w)) = subst (IsDealt crew i) here (all i (cpu_of w) inside) in
      let share = ap (λ (ns : List ℕ). get_or ns i 0) of.shares ∙ get_or-map writes_in work.jobs i [] in
      let below : i < length work.jobs = omega (arith, within, length-map ws reads_of, ap length room, length-map work.jobs no_records) in
      record {
        rests = new.rests;
        ledger = new.ledger ∙ ap with_share share;
        reads = sym (get_or-map reads_of ws i w) ∙ (ap (λ (l : List (ListOf Seen)). get_or l i (reads_of w)) room ∙ get_or_map_within no_records work.jobs i [] (reads_of w) below);
      }

  -- after their jobs the processors rest
  pub all_rest : (work : Workload) (cpus : List Cpu) (ws : List Worker) → cpus ≡ map cpu_of ws → AreThrough crew work ws → InOrder (Rests crew) cpus
  all_rest work cpus ws are through i c within =
      at_list ws (λ w below. (through i w below).rests) are (omega (arith, within, ap length are, length-map ws cpu_of))
    where
      at_list : (l : List Worker) → ((w : Worker) → i < length l → Rests crew i (get_or l i w).cpu) → cpus ≡ map cpu_of l → i < length l → Rests crew i (get_or cpus i c)
      at_list [] each same below = absurd (omega (arith, below))
      at_list (y ∷ l) each same below =
          subst (Rests crew i) (sym (ap (λ (cs : List Cpu). get_or cs i c) same ∙ get_or_map_within cpu_of (y ∷ l) i y c below)) (each y below)

  -- a worker that was ready is through after its jobs
  pub is_through : (jobs all : List Job) (i : ℕ) (old new : Worker) → all ≡ jobs → IsReady crew jobs i old → Stays crew old.cpu new.cpu
      → Worked (guard_in crew.plan) old.cpu.number all (ledger_of old.cpu) (ledger_of new.cpu) old.reads.items new.reads.items → IsThrough crew jobs i new
  is_through jobs all i old new these ready stays worked = record {
    rests = record {
      ready = stays.ready;
      number = stays.same.number ∙ ready.rests.number;
      who = stays.same.who ∙ ready.rests.who;
    };
    worked = subst (λ (js : List Job). Worked (guard_in crew.plan) i js (with_share (writes_in jobs)) (ledger_of new.cpu) [] new.reads.items) these
        (subst (λ (n : ℕ). Worked (guard_in crew.plan) n all (with_share (writes_in jobs)) (ledger_of new.cpu) [] new.reads.items) ready.rests.number
        (subst (λ (g : Ledger). Worked (guard_in crew.plan) old.cpu.number all g (ledger_of new.cpu) [] new.reads.items) ready.ledger
        (subst (λ (rs : List Seen). Worked (guard_in crew.plan) old.cpu.number all (ledger_of old.cpu) (ledger_of new.cpu) rs new.reads.items)
        (ap (λ (l : ListOf Seen). l.items) ready.reads) worked)));
  }

-- the jobs of a worker, as they are read
pub jobs_shown : (file : JobFile) (i : ℕ) (jobs : ListOf Job) → slice_get file.jobs.items i ≡ Some jobs → jobs_of (workload_of file) i ≡ jobs.items
jobs_shown file i jobs is =
    get_or_map_within (λ (js : ListOf Job). js.items) file.jobs.items i jobs [] (slice_get_within file.jobs.items i jobs is) ∙ ap (λ (js : ListOf Job). js.items) (get_or_from_slice_get file.jobs.items i jobs jobs is)
