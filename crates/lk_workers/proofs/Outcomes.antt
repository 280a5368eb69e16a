-- All workers together, with the journal at the end of their domain.
use Rattle.std.proofs.Common.{◌≡◌, ◌+◌, ◌<◌, ◌≤◌, ℕ, zero, suc, List, [], ◌∷◌, ⊎_elim, length, map, get_or, refl, sym, ap, subst, ◌∙◌, arith, length-append}
use Rattle.std.specs.List.{flat_map, sum_by}
use Rattle.std.proofs.lemmas.Bool.{cases_lt}
use Rattle.std.proofs.lemmas.List.{get_or_past, length-map}
use Rattle.std.proofs.Math.ListN.{get_or-map}
use Rattle.lk_names.specs.Journal.{Replays, balances_after}
use Rattle.lk_names.specs.declared.ledger.Entry.{Entry}
use Rattle.lk_names.specs.declared.ledger.Job.{Job}
use Rattle.lk_names.specs.declared.ledger.Seen.{Seen}
use Rattle.lk_names.specs.Workload.{Workload, jobs_of, workers_of}
use Rattle.lk_names.specs.Outcome.{IsFresh, IsMerge, IsOutcome, IsReadAt, label_of, writes_from}
use Rattle.lk_domain.specs.Ends.{In, IsFinal, past_at}
use Rattle.lk_domain.specs.Keeps.{AreEnded, IsPast}
use Rattle.lk_domain.specs.Ledgers.{Ledger, Look, with_share}
use Rattle.lk_domain.specs.Places.{places}
use Rattle.lk_domain.specs.Seats.{ledger_of}
use Rattle.lk_domain.specs.declared.cpu.Cpu.{Cpu}
use Rattle.lk_domain.specs.declared.plan.Plan.{Plan}
use Rattle.lk_guard.specs.Idle.{Crew}
use Rattle.lk_guard.specs.Deeds.{Deed, AreDeeds, Worked, records_of, reads_in, writes_in}
use Rattle.lk_guard.specs.Guards.{Guard, guard_in}
use Rattle.lk_workers.specs.Ended.{IsEnd, balances_in, journal_in, looks_in}
use Rattle.lk_workers.specs.Plans.{IsFor}
use Rattle.lk_workers.specs.UnderLock.{AreLooksOf, UnderLock, records_by}
use Rattle.lk_workers.specs.Workers.{AreThrough, all_records, cpu_of, records_in}
use Rattle.lk_workers.specs.declared.ended.Ended.{Ended}
use Rattle.lk_workers.specs.declared.worker.Worker.{Worker}
use Rattle.lk_workers.proofs.JobCounts.{more_reads}
use Rattle.lk_workers.proofs.Deeds as deeds
use Rattle.lk_workers.proofs.Deeds.{placed, looks_by}
use Rattle.lk_workers.proofs.Gathered.{Notes, by_worker, tags_gathered}
use Rattle.lk_workers.proofs.Places.{all_in, entries_are, entry_at, in_flat, in_get, stands}

-- What a worker did, of whichever kind, with the journal at the end: its deeds are its entries there, its
-- records and its looks, and these are of beginnings of the journal.
pub record Told (plan : Plan) (js : List Entry) (i : ℕ) (jobs : List Job) (g : Ledger) (reads : List Seen) : Type 0 where
  pub start : Ledger
  pub done : List Deed
  pub are : AreDeeds (guard_in plan) i 1 jobs start done
  pub own : places i js ≡ placed done
  pub records : reads ≡ records_of done
  pub looks : g.looks ≡ looks_by done
  pub ended : AreEnded plan js (looks_by done)

-- it did its jobs, and the journal has of it what it knew
told : (plan : Plan) (jobs : List Job) (js : List Entry) (i : ℕ) (g : Ledger) (reads : List Seen)
    → Worked (guard_in plan) i jobs (with_share (writes_in jobs)) g [] reads → IsPast plan js (past_at i g) → Told plan js i jobs g reads
told plan jobs js i g reads worked past =
    let first : Ledger = with_share (writes_in jobs) in
    let ds = worked.deeds in
    let looks : g.looks ≡ looks_by ds = ap (λ (l : Ledger). l.looks) worked.ledger ∙ deeds.looks_after first ds in
    record {
      start = first;
      done = ds;
      are = worked.are;
      own = sym past.own ∙ (ap (λ (l : Ledger). l.own) worked.ledger ∙ deeds.own_after first ds);
      records = worked.records;
      looks = looks;
      ended = subst (AreEnded plan js) looks past.looked;
    }

-- some worker, where there is one
one_of : {W : Type 0} (ws : List W) (i : ℕ) → i < length ws → W
one_of [] i within = absurd (omega (arith, within))
one_of (w ∷ ws) i within = w

get_itself : {W : Type 0} (ws : List W) (i : ℕ) (d : W) → get_or ws i (get_or ws i d) ≡ get_or ws i d
get_itself [] i d = refl
get_itself (w ∷ ws) zero d = refl
get_itself (w ∷ ws) (suc i) d = get_itself ws i d

-- workers of a crew, by what its processors know and by their records
module _ (crew : Crew) (work : Workload) (of : IsFor work crew.plan) (js : List Entry) (ws : List Worker) (many : length ws ≡ workers_of work)
    (each : (i : ℕ) (d : Worker) → i < length ws → Told crew.plan js i (jobs_of work i) (ledger_of (cpu_of (get_or ws i d))) (records_in (get_or ws i d))) where
  abbrev pub looks_of : Cpu → List Look
  looks_of c = (ledger_of c).looks

  told_at : (i : ℕ) (below : i < workers_of work) → (w : Worker) × (i < length ws) × Told crew.plan js i (jobs_of work i) (ledger_of (cpu_of (get_or ws i w))) (records_in (get_or ws i w))
  told_at i below = let within : i < length ws = omega (arith, below, many) in (one_of ws i within, within, each i (one_of ws i within) within)

  notes : (i : ℕ) (d : Worker) → i < length ws → Notes records_in (0 + i) (jobs_of work i) (get_or ws i d)
  notes i d within =
      let t = each i d within in
      let h : Guard = guard_in crew.plan in
      subst (λ (j : ℕ). Notes records_in j (jobs_of work i) (get_or ws i d)) (let e : i ≡ 0 + i = omega arith in e) (record {
        own = λ r is. deeds.record_worker h i 1 (jobs_of work i) t.start t.done r t.are (subst (In r) t.records is);
        tags = ap (map _) t.records ∙ deeds.tags_are h i 1 (jobs_of work i) t.start t.done t.are;
      })

  -- the entries of the journal are those of the jobs that write
  merged : ((q : ℕ) → length ws ≤ q → places q js ≡ []) → IsMerge js work
  merged none worker = ⊎_elim
      (λ below.
      let t = (told_at worker below).2 in
      ap (map label_of) (sym (entries_are 0 worker js) ∙ ap (map entry_at) t.own) ∙ deeds.labels_are (guard_in crew.plan) worker 1 (jobs_of work worker) t.start t.done t.are)
      (λ past.
      ap (map label_of) (sym (entries_are 0 worker js) ∙ ap (map entry_at) (none worker (omega (arith, many, past)))) ∙ ap (writes_from 1) (sym (get_or_past work.jobs worker [] past)))
      (cases_lt worker (workers_of work))

  -- a record of a worker has seen what it should
  fresh_of : (r : Seen) (i : ℕ) (w : Worker) → i < length ws → get_or ws i w ≡ w → In r (records_in w) → IsFresh js (flat_map records_in ws) r
  fresh_of r i w within is mine =
      let h : Guard = guard_in crew.plan in
      let jobs = jobs_of work i in
      let t : Told crew.plan js i jobs (ledger_of (cpu_of w)) (records_in w) =
      subst (λ (v : Worker). Told crew.plan js i jobs (ledger_of (cpu_of v)) (records_in v)) is (each i w within) in
      let here = subst (In r) t.records mine in
      let by : r.worker ≡ i = deeds.record_worker h i 1 jobs t.start t.done r t.are here in
      let place : (k : ℕ) (e : Entry) → _ → e.worker ≡ r.worker → In (k, e) (placed t.done) = λ k e at same.
      subst (λ (m : ℕ). In (m, e) (placed t.done)) (let z : 0 + k ≡ k = omega arith in z) (subst (In (0 + k, e)) t.own (stands 0 i k js e at (same ∙ by))) in
      record {
        after = λ k e at same less. (deeds.fresh_entry h i 1 jobs t.start t.done r k e t.are here (place k e at same)).0 less;
        before = λ k e at same less. (deeds.fresh_entry h i 1 jobs t.start t.done r k e t.are here (place k e at same)).1 less;
        rises = λ k s at same less.
            let from = in_flat records_in ws s (in_get (flat_map records_in ws) k s at) in
            let other = each from.0 w from.1 in
            let theirs : s.worker ≡ from.0 = deeds.record_worker h from.0 1 (jobs_of work from.0) other.start other.done s other.are (subst (In s) other.records (from.2 w)) in
            let one : from.0 ≡ i = sym theirs ∙ (same ∙ by) in
            let in_w : In s (records_in w) = subst (λ (v : Worker). In s (records_in v)) (ap (λ (j : ℕ). get_or ws j w) one ∙ is) (from.2 w) in
            deeds.fresh_record h i 1 jobs t.start t.done r s t.are here (subst (In s) t.records in_w) less;
      }

  read_of : (r : Seen) → In r (flat_map records_in ws) → IsReadAt work.balances js r
  read_of r is =
      let from = in_flat records_in ws r is in
      let i : ℕ = from.0 in
      let w = one_of ws i from.1 in
      let t = each i w from.1 in
      subst (λ (bs : List ℕ). IsReadAt bs js r) (ap (λ (h : Guard). h.opening) of.guard) (deeds.reads_right crew.plan js i 1 (jobs_of work i) t.start t.done r t.are t.ended (subst (In r) t.records (from.2 w)))

  pub outcome : (cpus : List Cpu) (closing : List ℕ) → cpus ≡ map cpu_of ws → IsFinal crew.plan cpus js → closing ≡ balances_after crew.plan.balances.items js → IsOutcome work js (flat_map records_in ws) closing
  outcome cpus closing are final sums = record {
    replays = subst (λ (bs : List ℕ). Replays bs js) (ap (λ (h : Guard). h.opening) of.guard) final.replays;
    merge = merged (λ q past. final.none q (omega (arith, past, ap length are, length-map ws cpu_of)));
    records = tags_gathered records_in 0 work.jobs ws many notes;
    read_at = all_in (IsReadAt work.balances js) (flat_map records_in ws) read_of;
    fresh = all_in (IsFresh js (flat_map records_in ws)) (flat_map records_in ws) (λ r is.
        let from = in_flat records_in ws r is in
        let w = one_of ws from.0 from.1 in
        fresh_of r from.0 (get_or ws from.0 w) from.1 (get_itself ws from.0 w) (from.2 w));
    closing = sums ∙ ap (λ (bs : List ℕ). balances_after bs js) (ap (λ (h : Guard). h.opening) of.guard);
  }

  -- the looks of one worker
  looks_at : (i : ℕ) (w : Worker) → i < length ws → AreLooksOf (guard_in crew.plan) i (jobs_of work i) (records_by i (flat_map records_in ws)) (looks_of (cpu_of (get_or ws i w)))
  looks_at i w within =
      let h : Guard = guard_in crew.plan in
      let jobs = jobs_of work i in
      let t = each i w within in
      let zero_i : 0 + i ≡ i = omega arith in
      let records : records_by i (flat_map records_in ws) ≡ records_of t.done = ap (λ (j : ℕ). records_by j (flat_map records_in ws)) (sym zero_i) ∙ (by_worker records_in 0 work.jobs ws many notes i w within ∙ t.records) in
      subst (λ (rs : List Seen). AreLooksOf h i jobs rs (looks_of (cpu_of (get_or ws i w)))) (sym records) (subst (AreLooksOf h i jobs (records_of t.done)) (sym t.looks) (record {
        shown = deeds.sights_show h i 1 jobs t.start t.done t.are;
        taken = deeds.others_taken h i 1 jobs t.start t.done t.are;
        twice = deeds.others_twice h i 1 jobs t.start t.done t.are;
      }))

  pub under_lock : (cpus : List Cpu) → cpus ≡ map cpu_of ws → UnderLock work (flat_map records_in ws) (map looks_of cpus)
  under_lock cpus are = record {
    each = length-map cpus looks_of ∙ (ap length are ∙ (length-map ws cpu_of ∙ many));
    looks_are = λ i below.
        let found = told_at i below in
        let shown : get_or (map looks_of cpus) i [] ≡ looks_of (cpu_of (get_or ws i found.0)) = ap (λ (cs : List Cpu). get_or (map looks_of cs) i []) are ∙ looks_map ws i found.0 found.1 in
        subst (λ (h : Guard). AreLooksOf h i (jobs_of work i) (records_by i (flat_map records_in ws)) (get_or (map looks_of cpus) i [])) of.guard
        (subst (AreLooksOf (guard_in crew.plan) i (jobs_of work i) (records_by i (flat_map records_in ws))) (sym shown) (looks_at i found.0 found.1));
  }
    where
      looks_map : (l : List Worker) (i : ℕ) (d : Worker) → i < length l → get_or (map looks_of (map cpu_of l)) i [] ≡ looks_of (cpu_of (get_or l i d))
      looks_map [] i d within = absurd (omega (arith, within))
      looks_map (y ∷ l) zero d within = refl
      looks_map (y ∷ l) (suc i) d within = looks_map l i d (omega (arith, within))

-- each worker has told, after the jobs and the end
all_told : (crew : Crew) (work : Workload) (js : List Entry) (ws : List Worker) (cpus : List Cpu) → cpus ≡ map cpu_of ws
    → AreThrough crew work ws → IsFinal crew.plan cpus js
    → (i : ℕ) (w : Worker) → i < length ws → Told crew.plan js i (jobs_of work i) (ledger_of (cpu_of (get_or ws i w))) (records_in (get_or ws i w))
all_told crew work js ws cpus are through final i w within =
    let here : get_or cpus i (cpu_of w) ≡ cpu_of (get_or ws i w) = ap (λ (cs : List Cpu). get_or cs i (cpu_of w)) are ∙ get_or-map cpu_of ws i w in
    let past = final.past i (cpu_of w) (omega (arith, within, ap length are, length-map ws cpu_of)) in
    told crew.plan (jobs_of work i) js i (ledger_of (cpu_of (get_or ws i w))) (records_in (get_or ws i w)) (through i w within).worked
    (subst (λ (c : Cpu). IsPast crew.plan js (past_at i (ledger_of c))) here past)

-- there are as many records as jobs that read
all_count : (file : List (List Job)) (ws : List Worker) → length ws ≡ length file
    → ((i : ℕ) (w : Worker) → i < length ws → length (records_in (get_or ws i w)) ≡ reads_in (get_or file i []))
    → length (all_records ws) ≡ sum_by reads_in file
all_count [] [] many each = refl
all_count [] (w ∷ ws) many each = absurd (omega (arith, many))
all_count (jobs ∷ file) [] many each = absurd (omega (arith, many))
all_count (jobs ∷ file) (w ∷ ws) many each =
    omega (arith, each 0 w (omega arith), all_count file ws (omega (arith, many)) (λ i x within. each (suc i) x (omega (arith, within))), length-append (records_in w) (all_records ws), more_reads jobs file)

-- so all records of workers that are through have the room that was taken for them
pub through_count : (crew : Crew) (work : Workload) (ws : List Worker) → length ws ≡ workers_of work → AreThrough crew work ws
    → length (all_records ws) ≡ sum_by reads_in work.jobs
through_count crew work ws many through = all_count work.jobs ws many (λ i w within.
    let t = (through i w within).worked in
    ap length t.records ∙ deeds.records_count (guard_in crew.plan) i 1 (jobs_of work i) (with_share (writes_in (jobs_of work i))) t.deeds t.are)

-- what comes of a domain that is closed once its workers are through
pub all_outcome : (crew : Crew) (work : Workload) (ws : List Worker) (cpus : List Cpu) (rs : List Seen) (ended : Ended)
    → IsFor work crew.plan → length ws ≡ workers_of work → AreThrough crew work ws → cpus ≡ map cpu_of ws → rs ≡ all_records ws → IsEnd crew cpus ended
    → IsOutcome work (journal_in ended) rs (balances_in ended) × UnderLock work rs (looks_in ended)
all_outcome crew work ws cpus rs ended of many through are reads end =
    let js = journal_in ended in
    let each = all_told crew work js ws cpus are through end.final in (
      subst (λ (l : List Seen). IsOutcome work js l (balances_in ended)) (sym reads)
          (outcome crew work of js ws many each cpus (balances_in ended) are end.final end.balances),
      subst (λ (l : List Seen). UnderLock work l (looks_in ended)) (sym reads)
          (subst (UnderLock work (all_records ws)) (sym end.looks) (under_lock crew work of js ws many each cpus are)),
    )
