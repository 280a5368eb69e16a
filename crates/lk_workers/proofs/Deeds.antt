-- What the deeds of one worker say of its entries, records and looks.
use Rattle.std.proofs.Common.{◌≡◌, ◌+◌, ◌*◌, ◌<◌, ◌≤◌, ℕ, false, List, [], ◌∷◌, ◌++◌, Option, Some, ⊎_elim, length, map, take, if◌then◌else◌, refl, sym, ap, subst, ◌∙◌, arith, length-take-le}
use Rattle.std.specs.Prelude.{is_none, is_some}
use Rattle.std.specs.List.{All, AllZip}
use Rattle.std.proofs.lemmas.List.{append-nil, append_assoc}
use Rattle.std.proofs.lemmas.List.Elements.{All-nil, All-cons}
use Rattle.lk_names.specs.Jobs.{reply_to}
use Rattle.lk_names.specs.Journal.{balances_after, is_write}
use Rattle.lk_names.specs.declared.ledger.Entry.{Entry}
use Rattle.lk_names.specs.declared.ledger.Job.{Job}
use Rattle.lk_names.specs.declared.ledger.Seen.{Seen}
use Rattle.lk_names.specs.Outcome.{IsReadAt, label_of, tag_of, reads_from, writes_from}
use Rattle.lk_domain.specs.Ends.{In}
use Rattle.lk_domain.specs.Keeps.{AreEnded, IsEnded, IsVersion}
use Rattle.lk_domain.specs.Ledgers.{Ledger, Look}
use Rattle.lk_domain.specs.declared.plan.Plan.{Plan}
use Rattle.lk_guard.proofs.Balances.{right_reply}
use Rattle.lk_guard.specs.Deeds.{Deed, wrote, saw, AreDeeds, after_deed, after_deeds, records_of, reads_in, writes_in}
use Rattle.lk_guard.specs.Guards.{Guard, IsBare, IsToWrite, guard_in}
use Rattle.lk_guard.specs.Reads.{Answers}
use Rattle.lk_workers.specs.UnderLock.{Shows, others, sights}
use Rattle.lk_workers.proofs.Places.{entry_at}

-- the entries with their places, and the looks
abbrev pub placed : List Deed → List (ℕ × Entry)
placed [] = []
placed (wrote place e k l ∷ ds) = (place, e) ∷ placed ds
placed (saw r k ∷ ds) = placed ds

abbrev pub looks_by : List Deed → List Look
looks_by [] = []
looks_by (wrote place e k l ∷ ds) = k ∷ l ∷ looks_by ds
looks_by (saw r k ∷ ds) = k ∷ looks_by ds

pub own_after : (g : Ledger) (ds : List Deed) → (after_deeds g ds).own ≡ g.own ++ placed ds
own_after g [] = sym (append-nil g.own)
own_after g (wrote place e k l ∷ ds) = own_after (after_deed g (wrote place e k l)) ds ∙ append_assoc g.own ((place, e) ∷ []) (placed ds)
own_after g (saw r k ∷ ds) = own_after (after_deed g (saw r k)) ds

pub looks_after : (g : Ledger) (ds : List Deed) → (after_deeds g ds).looks ≡ g.looks ++ looks_by ds
looks_after g [] = sym (append-nil g.looks)
looks_after g (wrote place e k l ∷ ds) =
    looks_after (after_deed g (wrote place e k l)) ds ∙ (append_assoc (g.looks ++ k ∷ []) (l ∷ []) (looks_by ds) ∙ append_assoc g.looks (k ∷ []) (l ∷ looks_by ds))
looks_after g (saw r k ∷ ds) = looks_after (after_deed g (saw r k)) ds ∙ append_assoc g.looks (k ∷ []) (looks_by ds)

-- a look that loaded nothing is none of those that loaded a version, and one that did is
sights_bare : (k : Look) (ks : List Look) → IsBare k → sights (k ∷ ks) ≡ sights ks
sights_bare k ks bare = ap (λ (v : Option ℕ). if is_some v then k ∷ sights ks else sights ks) bare.version

others_bare : (k : Look) (ks : List Look) → IsBare k → others (k ∷ ks) ≡ k ∷ others ks
others_bare k ks bare = ap (λ (v : Option ℕ). if is_none v then k ∷ others ks else others ks) bare.version

sights_seen : (k : Look) (v : ℕ) (ks : List Look) → k.version ≡ Some v → sights (k ∷ ks) ≡ k ∷ sights ks
sights_seen k v ks is = ap (λ (w : Option ℕ). if is_some w then k ∷ sights ks else sights ks) is

others_seen : (k : Look) (v : ℕ) (ks : List Look) → k.version ≡ Some v → others (k ∷ ks) ≡ others ks
others_seen k v ks is = ap (λ (w : Option ℕ). if is_none w then k ∷ others ks else others ks) is

-- a pair of a worker's number and job, with the worker
abbrev pub tagged : ℕ → ℕ × Job → ℕ × ℕ × Job
tagged worker x = (worker, x.0, x.1)

module _ (h : Guard) (p : ℕ) where
  -- the entries are of the jobs that write
  pub labels_are : (n : ℕ) (jobs : List Job) (g : Ledger) (ds : List Deed) → AreDeeds h p n jobs g ds → map label_of (map entry_at (placed ds)) ≡ writes_from n jobs
  labels_are n [] g [] are = refl
  labels_are n [] g (d ∷ ds) are = absurd are
  labels_are n (job ∷ jobs) g [] are = absurd are
  labels_are n (job ∷ jobs) g (wrote place e k l ∷ ds) are =
      let more = labels_are (n + 1) jobs (after_deed g (wrote place e k l)) ds are.1 in
      (λ i. (are.0.number i, are.0.task i) ∷ more i) ∙ ap (λ b. if b then (n, job) ∷ writes_from (n + 1) jobs else writes_from (n + 1) jobs) (sym are.0.writes)
  labels_are n (job ∷ jobs) g (saw r k ∷ ds) are =
      labels_are (n + 1) jobs (after_deed g (saw r k)) ds are.1 ∙ ap (λ b. if b then (n, job) ∷ writes_from (n + 1) jobs else writes_from (n + 1) jobs) (sym are.0.reads)

  -- and the records of those that read
  pub tags_are : (n : ℕ) (jobs : List Job) (g : Ledger) (ds : List Deed) → AreDeeds h p n jobs g ds → map tag_of (records_of ds) ≡ map (tagged p) (reads_from n jobs)
  tags_are n [] g [] are = refl
  tags_are n [] g (d ∷ ds) are = absurd are
  tags_are n (job ∷ jobs) g [] are = absurd are
  tags_are n (job ∷ jobs) g (wrote place e k l ∷ ds) are =
      tags_are (n + 1) jobs (after_deed g (wrote place e k l)) ds are.1 ∙ ap (λ b. map (tagged p) (if b then reads_from (n + 1) jobs else (n, job) ∷ reads_from (n + 1) jobs)) (sym are.0.writes)
  tags_are n (job ∷ jobs) g (saw r k ∷ ds) are =
      let more = tags_are (n + 1) jobs (after_deed g (saw r k)) ds are.1 in
      (λ i. (are.0.worker i, are.0.number i, are.0.task i) ∷ more i) ∙ ap (λ b. map (tagged p) (if b then reads_from (n + 1) jobs else (n, job) ∷ reads_from (n + 1) jobs)) (sym are.0.reads)

  -- there are as many
  pub records_count : (n : ℕ) (jobs : List Job) (g : Ledger) (ds : List Deed) → AreDeeds h p n jobs g ds → length (records_of ds) ≡ reads_in jobs
  records_count n [] g [] are = refl
  records_count n [] g (d ∷ ds) are = absurd are
  records_count n (job ∷ jobs) g [] are = absurd are
  records_count n (job ∷ jobs) g (wrote place e k l ∷ ds) are =
      let here : reads_in (job ∷ jobs) ≡ 0 + reads_in jobs = ap (λ b. (if b then 0 else 1) + reads_in jobs) are.0.writes in
      omega (arith, here, records_count (n + 1) jobs (after_deed g (wrote place e k l)) ds are.1)
  records_count n (job ∷ jobs) g (saw r k ∷ ds) are =
      let here : reads_in (job ∷ jobs) ≡ 1 + reads_in jobs = ap (λ b. (if b then 0 else 1) + reads_in jobs) are.0.reads in
      omega (arith, here, records_count (n + 1) jobs (after_deed g (saw r k)) ds are.1)

  pub record_worker : (n : ℕ) (jobs : List Job) (g : Ledger) (ds : List Deed) (r : Seen) → AreDeeds h p n jobs g ds → In r (records_of ds) → r.worker ≡ p
  record_worker n [] g [] r are is = absurd is
  record_worker n [] g (d ∷ ds) r are is = absurd are
  record_worker n (job ∷ jobs) g [] r are is = absurd is
  record_worker n (job ∷ jobs) g (wrote place e k l ∷ ds) r are is = record_worker (n + 1) jobs (after_deed g (wrote place e k l)) ds r are.1 is
  record_worker n (job ∷ jobs) g (saw x k ∷ ds) r are is = ⊎_elim
      (λ e. ap (λ (y : Seen). y.worker) e ∙ are.0.worker)
      (λ t. record_worker (n + 1) jobs (after_deed g (saw x k)) ds r are.1 t) is

  -- numbers and places rise
  entry_low : (n : ℕ) (jobs : List Job) (g : Ledger) (ds : List Deed) (c : ℕ) (e : Entry) → AreDeeds h p n jobs g ds → In (c, e) (placed ds) → (n ≤ e.number) × (g.seen ≤ c)
  entry_low n [] g [] c e are is = absurd is
  entry_low n [] g (d ∷ ds) c e are is = absurd are
  entry_low n (job ∷ jobs) g [] c e are is = absurd is
  entry_low n (job ∷ jobs) g (wrote place x k l ∷ ds) c e are is = ⊎_elim
      (λ q. (omega (arith, are.0.number, ap (λ (y : ℕ × Entry). y.1.number) q), omega (arith, are.0.written.seen, ap (λ (y : ℕ × Entry). y.0) q)))
      (λ t. let low = entry_low (n + 1) jobs (after_deed g (wrote place x k l)) ds c e are.1 t in (omega (arith, low.0), omega (arith, low.1, are.0.written.seen))) is
  entry_low n (job ∷ jobs) g (saw x k ∷ ds) c e are is =
      let low = entry_low (n + 1) jobs (after_deed g (saw x k)) ds c e are.1 is in (omega (arith, low.0), omega (arith, low.1, are.0.read.seen))

  record_low : (n : ℕ) (jobs : List Job) (g : Ledger) (ds : List Deed) (r : Seen) → AreDeeds h p n jobs g ds → In r (records_of ds) → (n ≤ r.number) × (g.seen ≤ r.version)
  record_low n [] g [] r are is = absurd is
  record_low n [] g (d ∷ ds) r are is = absurd are
  record_low n (job ∷ jobs) g [] r are is = absurd is
  record_low n (job ∷ jobs) g (wrote place x k l ∷ ds) r are is =
      let low = record_low (n + 1) jobs (after_deed g (wrote place x k l)) ds r are.1 is in (omega (arith, low.0), omega (arith, low.1, are.0.written.seen))
  record_low n (job ∷ jobs) g (saw x k ∷ ds) r are is = ⊎_elim
      (λ q. (omega (arith, are.0.number, ap (λ (y : Seen). y.number) q), omega (arith, are.0.read.seen, ap (λ (y : Seen). y.version) q)))
      (λ t. let low = record_low (n + 1) jobs (after_deed g (saw x k)) ds r are.1 t in (omega (arith, low.0), omega (arith, low.1, are.0.read.seen))) is

  -- a record is behind the entries before it, and before those behind it
  pub fresh_entry : (n : ℕ) (jobs : List Job) (g : Ledger) (ds : List Deed) (r : Seen) (c : ℕ) (e : Entry) → AreDeeds h p n jobs g ds → In r (records_of ds) → In (c, e) (placed ds)
      → (e.number < r.number → c < r.version) × (r.number < e.number → r.version ≤ c)
  fresh_entry n [] g [] r c e are is at = absurd is
  fresh_entry n [] g (d ∷ ds) r c e are is at = absurd are
  fresh_entry n (job ∷ jobs) g [] r c e are is at = absurd is
  fresh_entry n (job ∷ jobs) g (wrote place x k l ∷ ds) r c e are is at = ⊎_elim
      (λ q.
      let low = record_low (n + 1) jobs (after_deed g (wrote place x k l)) ds r are.1 is in
      let place_is : c ≡ place = ap (λ (y : ℕ × Entry). y.0) q in
      let number : e.number ≡ n = ap (λ (y : ℕ × Entry). y.1.number) q ∙ are.0.number in
      ((λ less. omega (arith, low.1, place_is)), (λ less. absurd (omega (arith, low.0, number, less)))))
      (λ t. fresh_entry (n + 1) jobs (after_deed g (wrote place x k l)) ds r c e are.1 is t) at
  fresh_entry n (job ∷ jobs) g (saw x k ∷ ds) r c e are is at = ⊎_elim
      (λ q.
      let low = entry_low (n + 1) jobs (after_deed g (saw x k)) ds c e are.1 at in
      let version : r.version ≡ x.version = ap (λ (y : Seen). y.version) q in
      let number : r.number ≡ n = ap (λ (y : Seen). y.number) q ∙ are.0.number in
      ((λ less. absurd (omega (arith, low.0, number, less))), (λ less. omega (arith, low.1, version))))
      (λ t. fresh_entry (n + 1) jobs (after_deed g (saw x k)) ds r c e are.1 t at) is

  -- and the versions of the records rise
  pub fresh_record : (n : ℕ) (jobs : List Job) (g : Ledger) (ds : List Deed) (r t : Seen) → AreDeeds h p n jobs g ds → In r (records_of ds) → In t (records_of ds) → t.number < r.number → t.version ≤ r.version
  fresh_record n [] g [] r t are is at less = absurd is
  fresh_record n [] g (d ∷ ds) r t are is at less = absurd are
  fresh_record n (job ∷ jobs) g [] r t are is at less = absurd is
  fresh_record n (job ∷ jobs) g (wrote place x k l ∷ ds) r t are is at less = fresh_record (n + 1) jobs (after_deed g (wrote place x k l)) ds r t are.1 is at less
  fresh_record n (job ∷ jobs) g (saw x k ∷ ds) r t are is at less = ⊎_elim
      (λ q.
      let number : r.number ≡ n = ap (λ (y : Seen). y.number) q ∙ are.0.number in
      ⊎_elim
      (λ z. let other : t.number ≡ n = ap (λ (y : Seen). y.number) z ∙ are.0.number in absurd (omega (arith, number, other, less)))
      (λ z. let low = record_low (n + 1) jobs (after_deed g (saw x k)) ds t are.1 z in absurd (omega (arith, low.0, number, less))) at)
      (λ q.
      let low = record_low (n + 1) jobs (after_deed g (saw x k)) ds r are.1 q in
      ⊎_elim
      (λ z. let version : t.version ≡ x.version = ap (λ (y : Seen). y.version) z in omega (arith, low.1, version))
      (λ z. fresh_record (n + 1) jobs (after_deed g (saw x k)) ds r t are.1 q z less) at) is

  -- the looks that loaded a version are those of the reads, and show their records
  pub sights_show : (n : ℕ) (jobs : List Job) (g : Ledger) (ds : List Deed) → AreDeeds h p n jobs g ds → AllZip (Shows h p) (sights (looks_by ds)) (records_of ds)
  sights_show n [] g [] are = tt
  sights_show n [] g (d ∷ ds) are = absurd are
  sights_show n (job ∷ jobs) g [] are = absurd are
  sights_show n (job ∷ jobs) g (wrote place e k l ∷ ds) are =
      subst (λ (ks : List Look). AllZip (Shows h p) ks (records_of ds)) (sym (sights_bare k (l ∷ looks_by ds) are.0.written.bare.0 ∙ sights_bare l (looks_by ds) are.0.written.bare.1))
      (sights_show (n + 1) jobs (after_deed g (wrote place e k l)) ds are.1)
  sights_show n (job ∷ jobs) g (saw r k ∷ ds) are =
      let answers = subst (λ (j : Job). Answers (length h.opening) j r.reply k.loads) (sym are.0.task) are.0.read.answers in
      let here : Shows h p k r = record { taken = are.0.read.taken; version = are.0.read.version; answers = answers } in
      subst (λ (ks : List Look). AllZip (Shows h p) ks (r ∷ records_of ds)) (sym (sights_seen k r.version (looks_by ds) are.0.read.version))
      (here, sights_show (n + 1) jobs (after_deed g (saw r k)) ds are.1)

  -- and the others are two for each write
  pub others_taken : (n : ℕ) (jobs : List Job) (g : Ledger) (ds : List Deed) → AreDeeds h p n jobs g ds → All (IsToWrite h p) (others (looks_by ds))
  others_taken n [] g [] are = All-nil (IsToWrite h p)
  others_taken n [] g (d ∷ ds) are = absurd are
  others_taken n (job ∷ jobs) g [] are = absurd are
  others_taken n (job ∷ jobs) g (wrote place e k l ∷ ds) are =
      let taken = IsToWrite h p in
      let more = others_taken (n + 1) jobs (after_deed g (wrote place e k l)) ds are.1 in
      subst (All taken) (sym (others_bare k (l ∷ looks_by ds) are.0.written.bare.0 ∙ ap (λ ks. k ∷ ks) (others_bare l (looks_by ds) are.0.written.bare.1)))
      (All-cons taken k (l ∷ others (looks_by ds)) are.0.written.taken.0 (All-cons taken l (others (looks_by ds)) are.0.written.taken.1 more))
  others_taken n (job ∷ jobs) g (saw r k ∷ ds) are =
      subst (All (IsToWrite h p)) (sym (others_seen k r.version (looks_by ds) are.0.read.version)) (others_taken (n + 1) jobs (after_deed g (saw r k)) ds are.1)

  pub others_twice : (n : ℕ) (jobs : List Job) (g : Ledger) (ds : List Deed) → AreDeeds h p n jobs g ds → length (others (looks_by ds)) ≡ 2 * writes_in jobs
  others_twice n [] g [] are = refl
  others_twice n [] g (d ∷ ds) are = absurd are
  others_twice n (job ∷ jobs) g [] are = absurd are
  others_twice n (job ∷ jobs) g (wrote place e k l ∷ ds) are =
      let more = others_twice (n + 1) jobs (after_deed g (wrote place e k l)) ds are.1 in
      let one : writes_in (job ∷ jobs) ≡ 1 + writes_in jobs = ap (λ b. (if b then 1 else 0) + writes_in jobs) are.0.writes in
      let two = ap length (others_bare k (l ∷ looks_by ds) are.0.written.bare.0 ∙ ap (λ ks. k ∷ ks) (others_bare l (looks_by ds) are.0.written.bare.1)) in
      omega (arith, more, one, two)
  others_twice n (job ∷ jobs) g (saw r k ∷ ds) are =
      let more = others_twice (n + 1) jobs (after_deed g (saw r k)) ds are.1 in
      let none : writes_in (job ∷ jobs) ≡ 0 + writes_in jobs = ap (λ b. (if b then 1 else 0) + writes_in jobs) are.0.reads in
      omega (arith, more, none, ap length (others_seen k r.version (looks_by ds) are.0.read.version))

-- a record whose look is of a beginning of the journal
read_at : (k : Plan) (js : List Entry) (r : Seen) (look : Look) → IsEnded k js look → look.version ≡ Some r.version → Answers (length k.balances.items) r.job r.reply look.loads → is_write r.job ≡ false
    → IsReadAt k.balances.items js r
read_at k js r look ended version answers reads =
    let n : ℕ = ended.0 in
    let at : r.version ≡ length (take n js) = subst (IsVersion (take n js)) version ended.2.version in
    let same : r.version ≡ n = at ∙ length-take-le n js ended.1 in
    record {
      version = omega (arith, same, ended.1);
      reads = reads;
      right = right_reply k (take n js) r.job r.reply look.loads ended.2.loads answers reads ∙ ap (λ (m : ℕ). reply_to (balances_after k.balances.items (take m js)) r.job) (sym same);
    }

-- each record says what its job answers on a beginning of the journal of which its look is
pub reads_right : (plan : Plan) (js : List Entry) (p n : ℕ) (jobs : List Job) (g : Ledger) (ds : List Deed) (r : Seen) → AreDeeds (guard_in plan) p n jobs g ds → AreEnded plan js (looks_by ds) → In r (records_of ds)
    → IsReadAt plan.balances.items js r
reads_right plan js p n [] g [] r are ended is = absurd is
reads_right plan js p n [] g (d ∷ ds) r are ended is = absurd are
reads_right plan js p n (job ∷ jobs) g [] r are ended is = absurd is
reads_right plan js p n (job ∷ jobs) g (wrote place e k l ∷ ds) r are ended is = reads_right plan js p (n + 1) jobs (after_deed g (wrote place e k l)) ds r are.1 ended.1.1 is
reads_right plan js p n (job ∷ jobs) g (saw x k ∷ ds) r are ended is = ⊎_elim
    (λ q.
    let answers : Answers (length plan.balances.items) x.job x.reply k.loads = subst (λ (j : Job). Answers (length plan.balances.items) j x.reply k.loads) (sym are.0.task) are.0.read.answers in
    subst (IsReadAt plan.balances.items js) (sym q) (read_at plan js x k ended.0 are.0.read.version answers (ap is_write are.0.task ∙ are.0.reads)))
    (λ t. reads_right plan js p (n + 1) jobs (after_deed g (saw x k)) ds r are.1 ended.1 t) is
