-- The numbers of the entries' jobs come out of those of the reads: a worker's jobs are numbered from
-- 1.
use Rattle.std.proofs.Common.{◌≡◌, ◌<◌, ◌+◌, ◌==◌, ℕ, zero, suc, Bool, true, false, cond, List, [], ◌∷◌, ◌++◌, drop, map, true≢false, refl, sym, ap, ◌∙◌, arith, if◌then◌else◌}
use Rattle.std.specs.Prelude.{slice_index_or}
use Rattle.std.proofs.lemmas.Bool.Decides.{nat_tests}
use Rattle.lk_names.specs.declared.ledger.Job.{Job}
use Rattle.lk_names.specs.declared.ledger.Entry.{Entry}
use Rattle.lk_names.specs.Journal.{is_write}
use Rattle.lk_names.specs.Workload.{jobs_of}
use Rattle.lk_names.specs.Outcome.{entries_of, label_of, writes_from, reads_from, asked_from, tag_of}
use Rattle.lk_job_forms.specs.TextLaws.{IsToldEntry, OutcomesAreTold}
use Rattle.lk_job_forms.proofs.OutcomeTexts.{AreAlike, outcome_same}

abbrev number_in : ℕ × Job → ℕ
number_in x = x.0

abbrev job_in : ℕ × Job → Job
job_in x = x.1

-- the reads of one worker

-- what one worker asks, of what all ask
picked : ℕ → List (ℕ × ℕ × Job) → List (ℕ × Job)
picked w [] = []
picked w (x ∷ xs) = cond (x.0 == w) ((x.1, x.2) ∷ picked w xs) (picked w xs)

picked-append : (w : ℕ) (xs ys : List (ℕ × ℕ × Job)) → picked w (xs ++ ys) ≡ picked w xs ++ picked w ys
unfolding picked
picked-append w [] ys = refl
picked-append w (x ∷ xs) ys = by_test (x.0 == w) (picked-append w xs ys)
  where
    by_test : (b : Bool) → picked w (xs ++ ys) ≡ picked w xs ++ picked w ys
        → cond b ((x.1, x.2) ∷ picked w (xs ++ ys)) (picked w (xs ++ ys)) ≡ cond b ((x.1, x.2) ∷ picked w xs) (picked w xs) ++ picked w ys
    by_test true rest = ap (λ l. (x.1, x.2) ∷ l) rest
    by_test false rest = rest

abbrev asked_by : ℕ → List (ℕ × Job) → List (ℕ × ℕ × Job)
asked_by s xs = map (λ x. (s, x.0, x.1)) xs

own_picked : (s : ℕ) (xs : List (ℕ × Job)) → picked s (asked_by s xs) ≡ xs
unfolding picked
own_picked s [] = refl
own_picked s (x ∷ xs) = let own : (s == s) ≡ true = grind (arith, nat_tests) in rw own (ap (λ l. x ∷ l) (own_picked s xs))

others_picked : (s w : ℕ) (xs : List (ℕ × Job)) → s < w → picked w (asked_by s xs) ≡ []
unfolding picked
others_picked s w [] less = refl
others_picked s w (x ∷ xs) less = let other : (s == w) ≡ false = grind (arith, nat_tests, less) in rw other (others_picked s w xs less)

earlier_picked : (s w : ℕ) (xs : List (ℕ × Job)) → w < s → picked w (asked_by s xs) ≡ []
unfolding picked
earlier_picked s w [] less = refl
earlier_picked s w (x ∷ xs) less = let other : (s == w) ≡ false = grind (arith, nat_tests, less) in rw other (earlier_picked s w xs less)

later_picked : (s w : ℕ) (jobs : List (List Job)) → w < s → picked w (asked_from s jobs) ≡ []
unfolding picked
later_picked s w [] less = refl
later_picked s w (js ∷ jobs) less =
    picked-append w (asked_by s (reads_from 1 js)) (asked_from (s + 1) jobs)
    ∙ ap (λ l. l ++ picked w (asked_from (s + 1) jobs)) (earlier_picked s w (reads_from 1 js) less)
    ∙ later_picked (s + 1) w jobs (omega (arith, less))

append-nil : {A : Type 0} (xs : List A) → xs ++ [] ≡ xs
append-nil [] = refl
append-nil (x ∷ xs) = ap (λ l. x ∷ l) (append-nil xs)

worker_picked : (s i : ℕ) (jobs : List (List Job)) → picked (s + i) (asked_from s jobs) ≡ reads_from 1 (slice_index_or jobs i [])
unfolding picked
worker_picked s i [] = refl
worker_picked s zero (js ∷ jobs) =
    let here : s + 0 ≡ s = omega arith in
    rw here (picked-append s (asked_by s (reads_from 1 js)) (asked_from (s + 1) jobs)
    ∙ ap (λ l. l ++ picked s (asked_from (s + 1) jobs)) (own_picked s (reads_from 1 js))
    ∙ ap (λ l. reads_from 1 js ++ l) (later_picked (s + 1) s jobs (omega arith))
    ∙ append-nil (reads_from 1 js))
worker_picked s (suc i) (js ∷ jobs) =
    let there : s + suc i ≡ (s + 1) + i = omega arith in
    rw there (picked-append ((s + 1) + i) (asked_by s (reads_from 1 js)) (asked_from (s + 1) jobs)
    ∙ ap (λ l. l ++ picked ((s + 1) + i) (asked_from (s + 1) jobs)) (others_picked s ((s + 1) + i) (reads_from 1 js) (omega arith))
    ∙ worker_picked (s + 1) i jobs)

-- the jobs of one worker

-- a job that reads has its number at its turn, and the next ones have greater ones
below_reads : (n m : ℕ) (j : Job) (js : List Job) (xs : List (ℕ × Job)) → m < n → reads_from n js ≡ (m, j) ∷ xs → ⊥
below_reads n m j [] xs less is = cc
below_reads n m j (k ∷ js) xs less is = by_test (is_write k) (λ later. below_reads (n + 1) m j js xs (omega (arith, less)) later) is
  where
    by_test : (b : Bool) → (reads_from (n + 1) js ≡ (m, j) ∷ xs → ⊥) → (if b then reads_from (n + 1) js else (n, k) ∷ reads_from (n + 1) js) ≡ (m, j) ∷ xs → ⊥
    by_test true rest is = rest is
    by_test false rest is = let same : n ≡ m = ap (λ l. number_in (slice_index_or l 0 (n, k))) is in omega (arith, less, same)

jobs_same : (n : ℕ) (js ks : List Job) → reads_from n js ≡ reads_from n ks → map job_in (writes_from n js) ≡ map job_in (writes_from n ks) → js ≡ ks
jobs_same n [] [] reads writes = refl
jobs_same n [] (k ∷ ks) reads writes = by_test (is_write k) reads writes
  where
    by_test : (b : Bool) → [] ≡ (if b then reads_from (n + 1) ks else (n, k) ∷ reads_from (n + 1) ks) → [] ≡ map job_in (if b then (n, k) ∷ writes_from (n + 1) ks else writes_from (n + 1) ks) → [] ≡ k ∷ ks
    by_test true reads writes = cc
    by_test false reads writes = cc
jobs_same n (j ∷ js) [] reads writes = by_test (is_write j) reads writes
  where
    by_test : (b : Bool) → (if b then reads_from (n + 1) js else (n, j) ∷ reads_from (n + 1) js) ≡ [] → map job_in (if b then (n, j) ∷ writes_from (n + 1) js else writes_from (n + 1) js) ≡ [] → j ∷ js ≡ []
    by_test true reads writes = cc
    by_test false reads writes = cc
jobs_same n (j ∷ js) (k ∷ ks) reads writes = by_tests (is_write j) (is_write k) (λ r w. jobs_same (n + 1) js ks r w) reads writes
  where
    by_tests : (b c : Bool) → (reads_from (n + 1) js ≡ reads_from (n + 1) ks → map job_in (writes_from (n + 1) js) ≡ map job_in (writes_from (n + 1) ks) → js ≡ ks) → (if b then reads_from (n + 1) js else (n, j) ∷ reads_from (n + 1) js) ≡ (if c then reads_from (n + 1) ks else (n, k) ∷ reads_from (n + 1) ks)
        → map job_in (if b then (n, j) ∷ writes_from (n + 1) js else writes_from (n + 1) js) ≡ map job_in (if c then (n, k) ∷ writes_from (n + 1) ks else writes_from (n + 1) ks) → j ∷ js ≡ k ∷ ks
    by_tests true true rest reads writes =
        let head : j ≡ k = ap (λ l. slice_index_or l 0 j) writes in
        let tails : map job_in (writes_from (n + 1) js) ≡ map job_in (writes_from (n + 1) ks) = ap (λ l. drop 1 l) writes in
        ap (λ x. x ∷ js) head ∙ ap (λ l. k ∷ l) (rest reads tails)
    by_tests false false rest reads writes =
        let head : j ≡ k = ap (λ l. job_in (slice_index_or l 0 (n, j))) reads in
        let tails : reads_from (n + 1) js ≡ reads_from (n + 1) ks = ap (λ l. drop 1 l) reads in
        ap (λ x. x ∷ js) head ∙ ap (λ l. k ∷ l) (rest tails writes)
    by_tests true false rest reads writes = absurd (below_reads (n + 1) n k js _ (omega arith) reads)
    by_tests false true rest reads writes = absurd (below_reads (n + 1) n j ks _ (omega arith) (sym reads))

-- the entries of one worker

abbrev numbers_of : ℕ → List Entry → List ℕ
numbers_of w js = map (λ e. e.number) (entries_of w js)

jobs_alike : (w : ℕ) (js ks : List Entry) → AreAlike js ks → map job_in (map label_of (entries_of w js)) ≡ map job_in (map label_of (entries_of w ks))
jobs_alike w [] [] alike = refl
jobs_alike w [] (f ∷ ks) alike = absurd alike
jobs_alike w (e ∷ js) [] alike = absurd alike
jobs_alike w (e ∷ js) (f ∷ ks) alike = by_tests (e.worker == w) (f.worker == w) (ap (λ v. v == w) alike.0.worker) (jobs_alike w js ks alike.1)
  where
    by_tests : (b c : Bool) → b ≡ c → map job_in (map label_of (entries_of w js)) ≡ map job_in (map label_of (entries_of w ks))
        → map job_in (map label_of (cond b (e ∷ entries_of w js) (entries_of w js))) ≡ map job_in (map label_of (cond c (f ∷ entries_of w ks) (entries_of w ks)))
    by_tests true true same rest = ap (λ j. j ∷ map job_in (map label_of (entries_of w js))) alike.0.job ∙ ap (λ l. f.job ∷ l) rest
    by_tests false false same rest = rest
    by_tests true false same rest = absurd (true≢false same)
    by_tests false true same rest = absurd (true≢false (sym same))

entry_is : (e f : Entry) → IsToldEntry e f → e.number ≡ f.number → e ≡ f
entry_is e f told number =
    let by_worker : ℕ → Entry = λ x. record { worker = x; number = e.number; job = e.job; reply = e.reply } in
    let by_number : ℕ → Entry = λ x. record { worker = f.worker; number = x; job = e.job; reply = e.reply } in
    let by_job : Job → Entry = λ x. record { worker = f.worker; number = f.number; job = x; reply = e.reply } in
    ap by_worker told.worker ∙ ap by_number number ∙ ap by_job told.job ∙ ap (λ x. record { worker = f.worker; number = f.number; job = f.job; reply = x }) told.reply

numbers-labels : (es : List Entry) → map number_in (map label_of es) ≡ map (λ e. e.number) es
numbers-labels [] = refl
numbers-labels (e ∷ es) = ap (λ l. e.number ∷ l) (numbers-labels es)

numbered_same : (js ks : List Entry) → AreAlike js ks → ((w : ℕ) → numbers_of w js ≡ numbers_of w ks) → js ≡ ks
numbered_same [] [] alike numbers = refl
numbered_same [] (f ∷ ks) alike numbers = absurd alike
numbered_same (e ∷ js) [] alike numbers = absurd alike
numbered_same (e ∷ js) (f ∷ ks) alike numbers =
    let own : (f.worker == f.worker) ≡ true = grind (arith, nat_tests) in
    let first = heads (e.worker == f.worker) (f.worker == f.worker) own (same_test f.worker) (numbers f.worker) in
    ap (λ x. x ∷ js) (entry_is e f alike.0 first) ∙ ap (λ l. f ∷ l) (numbered_same js ks alike.1 (λ w. tails w (e.worker == w) (f.worker == w) (same_test w) (numbers w)))
  where
    same_test : (w : ℕ) → (e.worker == w) ≡ (f.worker == w)
    same_test w = ap (λ v. v == w) alike.0.worker

    heads : (b c : Bool) → c ≡ true → b ≡ c → map (λ x. x.number) (cond b (e ∷ entries_of f.worker js) (entries_of f.worker js)) ≡ map (λ x. x.number) (cond c (f ∷ entries_of f.worker ks) (entries_of f.worker ks))
        → e.number ≡ f.number
    heads true true own same is = ap (λ l. slice_index_or l 0 e.number) is
    heads true false own same is = absurd (true≢false same)
    heads false true own same is = absurd (true≢false (sym same))
    heads false false own same is = absurd (true≢false (sym own))

    tails : (w : ℕ) (b c : Bool) → b ≡ c → map (λ x. x.number) (cond b (e ∷ entries_of w js) (entries_of w js)) ≡ map (λ x. x.number) (cond c (f ∷ entries_of w ks) (entries_of w ks))
        → numbers_of w js ≡ numbers_of w ks
    tails w true true same is = ap (λ l. drop 1 l) is
    tails w false false same is = is
    tails w true false same is = absurd (true≢false same)
    tails w false true same is = absurd (true≢false (sym same))

pub outcomes_told : OutcomesAreTold
outcomes_told work other js ks rs ss bs cs mine yours small also is =
    let told = outcome_same js ks rs ss bs cs small also is in
    let asked : asked_from 0 work.jobs ≡ asked_from 0 other.jobs = sym mine.records ∙ ap (λ l. map tag_of l) told.1 ∙ yours.records in
    (numbered_same js ks told.0 (numbers told.0 asked), told.1, told.2)
  where
    numbers : AreAlike js ks → asked_from 0 work.jobs ≡ asked_from 0 other.jobs → (w : ℕ) → numbers_of w js ≡ numbers_of w ks
    numbers alike asked w =
        let reads = sym (worker_picked 0 w work.jobs) ∙ ap (λ l. picked (0 + w) l) asked ∙ worker_picked 0 w other.jobs in
        let writes = ap (λ l. map job_in l) (sym (mine.merge w)) ∙ jobs_alike w js ks alike ∙ ap (λ l. map job_in l) (yours.merge w) in
        let same = jobs_same 1 (jobs_of work w) (jobs_of other w) reads writes in
        let labels = mine.merge w ∙ ap (λ l. writes_from 1 l) same ∙ sym (yours.merge w) in
        sym (numbers-labels (entries_of w js)) ∙ ap (λ l. map number_in l) labels ∙ numbers-labels (entries_of w ks)
