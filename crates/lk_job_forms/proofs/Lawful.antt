-- What lines of a job file say is lawful.
use Rattle.std.proofs.Common.{◌≡◌, ◌≢◌, ◌≤◌, ◌<◌, ◌+◌, ◌==◌, ℕ, List, [], ◌∷◌, ◌++◌, Option, None, Some, Result, Ok, IfOk, length, replicate, refl, sym, ap, ◌∙◌, arith, nat_le, nat_lt, add-zero, length-append, if◌then◌else◌, codes}
use Rattle.std.specs.Prelude.{All, slice_set}
use Rattle.std.specs.List.{sum}
use Rattle.std.specs.Str.{bytes_eq}
use Rattle.std.proofs.lemmas.Bool.Decides.{nat_tests}
use Rattle.std.proofs.lemmas.Result.{IfOk-at_ok}
use Rattle.std.proofs.lemmas.List.{length-set, length-replicate}
use Rattle.std.proofs.lemmas.List.Elements.{All-nil, All-cons, All-replicate, All-set, All-get_or, All-push}
use Rattle.std.proofs.lemmas.List.Sums.{sum_by-cons, sum_by-set}
use Rattle.lk_names.specs.declared.names.Format.{Format}
use Rattle.lk_names.specs.declared.names.Kind.{Kind}
use Rattle.lk_names.specs.declared.names.Kind.TheVariants.{Spin, Rw}
use Rattle.lk_names.specs.declared.names.Mode.{Mode}
use Rattle.lk_names.specs.declared.names.Mode.TheVariants.{Virt, Native, Cna, Pv}
use Rattle.lk_names.specs.declared.ledger.Job.{Job}
use Rattle.lk_names.specs.declared.ledger.Job.TheVariants.{Sum}
use Rattle.lk_names.specs.Jobs.{full}
use Rattle.lk_names.specs.declared.limits.TheConstants.{MAX_SOCKET, MAX_TURNS, MAX_ACCOUNTS, MAX_AMOUNT, MAX_JOBS, MAX_WORKERS}
use Rattle.lk_names.specs.Workload.{Workload, workers_of, jobs_of, job_count, IsFair, IsLawful}
use Rattle.lk_forms.specs.Words.{words, is_text, is_comment}
use Rattle.lk_forms.specs.Operations.{and_then, or_fault}
use Rattle.lk_forms.specs.Grammar.{one_word, two_words, no_words, number_in, numbers_from, cpu_word, kind_word, mode_of, mode_word}
use Rattle.lk_forms.specs.declared.answers.Fault.TheVariants.{UnknownWord, OutOfRange}
use Rattle.lk_forms.specs.declared.answers.Which.TheVariants.{Total}
use Rattle.lk_forms.specs.declared.answers.LineRefusal.{LineRefusal}
use Rattle.lk_forms.specs.declared.answers.LineRefusal.TheVariants.{Bad, Limit}
use Rattle.lk_forms.proofs.Changes.{and_then-ok, if-ok, else-ok, number_in-ok, cpu_word-ok}
use Rattle.lk_job_forms.specs.declared.keyword.Keyword.{Keyword}
use Rattle.lk_job_forms.specs.declared.keyword.Keyword.TheVariants as keyword
use Rattle.lk_job_forms.specs.Lines.{suited, balances_from, balances_of, opened, three_words, amount_word, move_of, add_of, get_of, job_of, worker_job, line_args}
use Rattle.lk_forms.specs.Ranks.{fault_of_ranks}
use Rattle.lk_job_forms.specs.Keywords.{keyword_of, rank_of, order, fault_of_place}
use Rattle.lk_job_forms.specs.Grammar.{Reading, IsSound, nothing_read, format_said, read_format, read, read_words, read_ranked, read_known, read_placed}
use Rattle.lk_job_forms.proofs.Drafts.{job_count-none}
use Rattle.lk_job_forms.proofs.Kept.{then_keeps, if_keeps, unless_keeps}

-- a lawful workload, without a job where there was none
record Keeps (w v : Workload) : Type 0 where
  lawful : IsLawful v
  none : job_count w.jobs ≡ 0 → job_count v.jobs ≡ 0

-- the lines that stand once

-- a guard that suits its family
suits : (m : Mode) (k g : Kind) → suited m k ≡ Ok g → m ≡ Pv → g ≡ Spin
suits Pv Spin g is pv = cc
suits Pv Rw g is pv = cc
suits Virt k g is pv = cc
suits Native k g is pv = cc
suits Cna k g is pv = cc

-- the numbers of the words are as many, and within the range
length-numbers : (low high : ℕ) (before : List ℕ) (words : List (List ℕ)) (ns : List ℕ) → numbers_from low high before words ≡ Ok ns → length ns ≡ length before + length words
length-numbers low high before [] ns is = let same : before ≡ ns = cc in rw (← same) (sym (add-zero _))
length-numbers low high before (word ∷ words) ns is =
    let read = and_then-ok (number_in low high word) (λ n. numbers_from low high (before ++ n ∷ []) words) ns is in
    omega (arith, length-numbers low high (before ++ read.0 ∷ []) words ns read.2, length-append before (read.0 ∷ []))

numbers_within : (low high : ℕ) (before : List ℕ) (words : List (List ℕ)) (ns : List ℕ) → numbers_from low high before words ≡ Ok ns → All (λ n. n ≤ high) before → All (λ n. n ≤ high) ns
numbers_within low high before [] ns is within = let same : before ≡ ns = cc in rw (← same) within
numbers_within low high before (word ∷ words) ns is within =
    let read = and_then-ok (number_in low high word) (λ n. numbers_from low high (before ++ n ∷ []) words) ns is in
    numbers_within low high (before ++ read.0 ∷ []) words ns read.2 (All-push (λ n. n ≤ high) before read.0 within (number_in-ok low high word read.0 read.1).1)

-- there are not too many balances
few_balances : (before : List ℕ) (words : List (List ℕ)) (bs : List ℕ) → balances_from before words ≡ Ok bs → length before ≤ MAX_ACCOUNTS → length bs ≤ MAX_ACCOUNTS
few_balances before [] bs is few = let same : before ≡ bs = cc in rw (← same) few
few_balances before (word ∷ words) bs is few =
    let more = else-ok (nat_le MAX_ACCOUNTS (length before)) (Bad OutOfRange) (and_then (number_in 0 MAX_AMOUNT word) (λ n. balances_from (before ++ n ∷ []) words)) bs is in
    let read = and_then-ok (number_in 0 MAX_AMOUNT word) (λ n. balances_from (before ++ n ∷ []) words) bs more.1 in
    let below : length before < MAX_ACCOUNTS = grind (arith, nat_tests, more.0) in
    few_balances (before ++ read.0 ∷ []) words bs read.2 (omega (arith, length-append before (read.0 ∷ []), below))

-- where there is no job, each is as it should be
none_fair : (P : Job → Type 0) (jobs : List (List Job)) → job_count jobs ≡ 0 → All (λ js. All P js) jobs
none_fair P [] none = All-nil (λ js. All P js)
none_fair P (js ∷ jobs) none =
    let counts = sum_by-cons (λ (js : List Job). length js) js jobs in
    All-cons (λ js. All P js) js jobs (by_length js (omega (arith, counts, none))) (none_fair P jobs (omega (arith, counts, none)))
  where
    by_length : (js : List Job) → length js ≡ 0 → All P js
    by_length [] e = All-nil P
    by_length (j ∷ js) e = absurd (omega (arith, e))

-- the job that words say is fair
amount_bounded : (word : List ℕ) (n : ℕ) → amount_word word ≡ Ok n → n < full
amount_bounded word n is = omega (arith, (number_in-ok 0 MAX_AMOUNT word n is).1)

job_fair : (accounts : ℕ) (verb : List ℕ) (args : List (List ℕ)) → IfOk (job_of accounts verb args) (IsFair accounts)
job_fair accounts verb args =
    if_keeps _ (bytes_eq verb (codes "move")) _ _ (λ _. moves) (λ _.
    if_keeps _ (bytes_eq verb (codes "add")) _ _ (λ _. adds) (λ _.
    if_keeps _ (bytes_eq verb (codes "sum")) _ _ (λ _. sums args) (λ _.
    if_keeps _ (bytes_eq verb (codes "get")) _ _ (λ _. gets) (λ _. tt))))
  where
    moves : IfOk (move_of accounts args) (IsFair accounts)
    moves = then_keeps _ (three_words args) _ (λ all _. then_keeps _ (cpu_word accounts all.0) _ (λ from f. then_keeps _ (cpu_word accounts all.1) _ (λ to t.
        then_keeps _ (amount_word all.2) _ (λ amount n. ((cpu_word-ok accounts all.0 from f, cpu_word-ok accounts all.1 to t), amount_bounded all.2 amount n)))))

    adds : IfOk (add_of accounts args) (IsFair accounts)
    adds = then_keeps _ (two_words args) _ (λ both _. then_keeps _ (cpu_word accounts both.0) _ (λ account a.
        then_keeps _ (amount_word both.1) _ (λ amount n. (cpu_word-ok accounts both.0 account a, amount_bounded both.1 amount n))))

    sums : (args : List (List ℕ)) → IfOk (no_words args Sum) (IsFair accounts)
    sums [] = (tt, tt)
    sums (word ∷ words) = tt

    gets : IfOk (get_of accounts args) (IsFair accounts)
    gets = then_keeps _ (one_word args) _ (λ word _. then_keeps _ (cpu_word accounts word) _ (λ account a. (cpu_word-ok accounts word account a, tt)))

-- so many workers without a job
count_none : (n : ℕ) → length (replicate {A = List Job} n []) ≡ n
count_none n = length-replicate n []

module _ (w : Workload) (lawful : IsLawful w) where
  mode_kept : (args : List (List ℕ)) → IfOk (line_args keyword.Mode w args) (Keeps w)
  mode_kept args = then_keeps _ (one_word args) _ (λ word _. then_keeps _ (mode_word word) _ (λ m is. kept word m (mode_of word) refl is))
    where
      kept : (word : List ℕ) (m : Mode) (found : Option Mode) → mode_of word ≡ found → or_fault UnknownWord found ≡ Ok m → Keeps w (record w { mode = m; guard = Spin })
      kept word m None named is = cc
      kept word m (Some n) named is =
          let same : mode_of word ≡ Some m = cc in
          record {
            lawful = record { guarded = λ _. refl; some = lawful.some; few = lawful.few; each = lawful.each; near = lawful.near; threshold = lawful.threshold; accounts = lawful.accounts; total = lawful.total; jobs = lawful.jobs; fair = lawful.fair };
            none = λ none. none;
          }

  guard_kept : (args : List (List ℕ)) → IfOk (line_args keyword.Guard w args) (Keeps w)
  guard_kept args = then_keeps _ (one_word args) _ (λ word _. then_keeps _ (kind_word word) _ (λ k _. then_keeps _ (suited w.mode k) _ (λ g is. record {
    lawful = record { guarded = suits w.mode k g is; some = lawful.some; few = lawful.few; each = lawful.each; near = lawful.near; threshold = lawful.threshold; accounts = lawful.accounts; total = lawful.total; jobs = lawful.jobs; fair = lawful.fair };
    none = λ none. none;
  })))

  workers_kept : (args : List (List ℕ)) → IfOk (line_args keyword.Workers w args) (Keeps w)
  workers_kept args = then_keeps _ (one_word args) _ (λ word _. then_keeps _ (number_in 1 MAX_WORKERS word) _ (λ n is.
      let within = number_in-ok 1 MAX_WORKERS word n is in
      record {
        lawful = record {
          guarded = lawful.guarded;
          some = omega (arith, within.0, count_none n);
          few = omega (arith, within.1, count_none n);
          each = length-replicate n 0 ∙ sym (count_none n);
          near = All-replicate (λ socket. socket ≤ MAX_SOCKET) n 0 (omega arith);
          threshold = lawful.threshold;
          accounts = lawful.accounts;
          total = lawful.total;
          jobs = omega (arith, job_count-none n);
          fair = All-replicate (λ jobs. All (IsFair (length w.balances)) jobs) n [] (All-nil (IsFair (length w.balances)));
        };
        none = λ none. job_count-none n;
      }))

  sockets_kept : (args : List (List ℕ)) → IfOk (line_args keyword.Sockets w args) (Keeps w)
  sockets_kept args = if_keeps _ (length args == workers_of w) _ _ (λ all. then_keeps _ (numbers_from 0 MAX_SOCKET [] args) _ (λ ss is.
      let count = length-numbers 0 MAX_SOCKET [] args ss is in
      record {
        lawful = record {
          guarded = lawful.guarded;
          some = lawful.some;
          few = lawful.few;
          each = grind (arith, nat_tests, all, count);
          near = numbers_within 0 MAX_SOCKET [] args ss is (All-nil (λ n. n ≤ MAX_SOCKET));
          threshold = lawful.threshold;
          accounts = lawful.accounts;
          total = lawful.total;
          jobs = lawful.jobs;
          fair = lawful.fair;
        };
        none = λ none. none;
      })) (λ other. tt)

  threshold_kept : (args : List (List ℕ)) → IfOk (line_args keyword.Threshold w args) (Keeps w)
  threshold_kept args = then_keeps _ (one_word args) _ (λ word _. then_keeps _ (number_in 0 MAX_TURNS word) _ (λ t is. record {
    lawful = record { guarded = lawful.guarded; some = lawful.some; few = lawful.few; each = lawful.each; near = lawful.near; threshold = (number_in-ok 0 MAX_TURNS word t is).1; accounts = lawful.accounts; total = lawful.total; jobs = lawful.jobs; fair = lawful.fair };
    none = λ none. none;
  }))

  -- before the first job
  accounts_kept : job_count w.jobs ≡ 0 → (args : List (List ℕ)) → IfOk (line_args keyword.Accounts w args) (Keeps w)
  accounts_kept none [] = tt
  accounts_kept none (word ∷ words) = then_keeps _ (balances_of (word ∷ words)) _ (λ bs is.
      let opens = and_then-ok (balances_from [] (word ∷ words)) opened bs is in
      let room = if-ok (nat_lt (sum opens.0) full) (Ok opens.0) (Limit Total) bs opens.2 in
      let same : opens.0 ≡ bs = cc (room.1) in
      let below = rw same at room.0 in
      record {
        lawful = record {
          guarded = lawful.guarded;
          some = lawful.some;
          few = lawful.few;
          each = lawful.each;
          near = lawful.near;
          threshold = lawful.threshold;
          accounts = few_balances [] (word ∷ words) bs (opens.1 ∙ ap Ok same) (omega arith);
          total = grind (arith, nat_tests, below);
          jobs = lawful.jobs;
          fair = none_fair (IsFair (length bs)) w.jobs none;
        };
        none = λ none. none;
      })

  end_kept : (args : List (List ℕ)) → IfOk (line_args keyword.End w args) (Keeps w)
  end_kept [] = record { lawful = lawful; none = λ none. none }
  end_kept (word ∷ words) = tt

  -- the lines of jobs

  job_kept : (args : List (List ℕ)) → IfOk (line_args keyword.Job w args) IsLawful
  job_kept [] = tt
  job_kept (word ∷ args) = then_keeps _ (cpu_word (workers_of w) word) _ (λ worker is. by_words worker (cpu_word-ok (workers_of w) word worker is) args)
    where
      by_words : (worker : ℕ) → worker < workers_of w → (args : List (List ℕ)) → IfOk (worker_job w worker args) IsLawful
      by_words worker below [] = tt
      by_words worker below (verb ∷ args) = then_keeps _ (job_of (length w.balances) verb args) _ (λ job is.
          let fair = IfOk-at_ok (IsFair (length w.balances)) is (job_fair (length w.balances) verb args) in
          if_keeps _ (nat_le MAX_JOBS (job_count w.jobs)) _ _ (λ many. tt) (λ few.
          let mine = All-get_or (λ js. All (IsFair (length w.balances)) js) w.jobs worker [] below lawful.fair in
          let more = jobs_of w worker ++ job ∷ [] in
          let counts = sum_by-set (λ (js : List Job). length js) w.jobs worker more [] below in
          let longer : length more ≡ length (jobs_of w worker) + 1 = length-append (jobs_of w worker) (job ∷ []) in
          let under : job_count w.jobs < MAX_JOBS = grind (arith, nat_tests, few) in
          let same : length (slice_set w.jobs worker more) ≡ length w.jobs = length-set w.jobs worker more in
          record {
            guarded = lawful.guarded;
            some = rw same lawful.some;
            few = rw same lawful.few;
            each = lawful.each ∙ sym same;
            near = lawful.near;
            threshold = lawful.threshold;
            accounts = lawful.accounts;
            total = lawful.total;
            jobs = omega (arith, counts, longer, under);
            fair = All-set (λ js. All (IsFair (length w.balances)) js) w.jobs worker more (All-push (IsFair (length w.balances)) (jobs_of w worker) job mine fair) lawful.fair;
          }))

-- each line

-- lines come in the order of their ranks
by_ranks : (last rank : ℕ) → fault_of_ranks order last rank ≡ None → last ≤ rank
by_ranks last rank fine = grind (arith, nat_tests, fine)

placed_by : (r : Reading) (last : ℕ) (k : Keyword) (args : List (List ℕ)) → r.rank ≡ Some last → fault_of_ranks order last (rank_of k) ≡ None → IsSound r → IfOk (line_args k r.work args) (Keeps r.work)
    → IfOk (read_placed r k args) IsSound
placed_by r last k args behind fine sound kept = then_keeps _ (line_args k r.work args) _ (λ v is.
    let keeps = IfOk-at_ok (Keeps r.work) is kept in
    let order = by_ranks last (rank_of k) fine in
    record { lawful = keeps.lawful; early = λ low. keeps.none (sound.early (rw behind (omega (arith, order, low)))) })

placed_sound : (r : Reading) (last : ℕ) (k : Keyword) (args : List (List ℕ)) → r.rank ≡ Some last → fault_of_place last k ≡ None → IsSound r → IfOk (read_placed r k args) IsSound
placed_sound r last keyword.Format args behind fine sound = tt
placed_sound r last keyword.Mode args behind fine sound = placed_by r last keyword.Mode args behind fine sound (mode_kept r.work sound.lawful args)
placed_sound r last keyword.Guard args behind fine sound = placed_by r last keyword.Guard args behind fine sound (guard_kept r.work sound.lawful args)
placed_sound r last keyword.Workers args behind fine sound = placed_by r last keyword.Workers args behind fine sound (workers_kept r.work sound.lawful args)
placed_sound r last keyword.Sockets args behind fine sound = placed_by r last keyword.Sockets args behind fine sound (sockets_kept r.work sound.lawful args)
placed_sound r last keyword.Threshold args behind fine sound = placed_by r last keyword.Threshold args behind fine sound (threshold_kept r.work sound.lawful args)
placed_sound r last keyword.Accounts args behind fine sound =
    let early : job_count r.work.jobs ≡ 0 = sound.early (rw behind (by_ranks last 6 fine)) in
    placed_by r last keyword.Accounts args behind fine sound (accounts_kept r.work sound.lawful early args)
placed_sound r last keyword.Job args behind fine sound = then_keeps _ (line_args keyword.Job r.work args) _ (λ v is.
    let kept = IfOk-at_ok IsLawful is (job_kept r.work sound.lawful args) in
    record { lawful = kept; early = λ low. absurd (omega (arith, low)) })
placed_sound r last keyword.End args behind fine sound = placed_by r last keyword.End args behind fine sound (end_kept r.work sound.lawful args)

-- what one line makes is sound
pub placed_after : (r : Reading) (last : ℕ) (k : Keyword) (args : List (List ℕ)) (w : Workload) → r.rank ≡ Some last → fault_of_place last k ≡ None → line_args k r.work args ≡ Ok w → IsSound r
    → IsSound (record { rank = Some (rank_of k); work = w })
placed_after r last k args w behind fine is sound =
    let reads : Workload → Result Reading LineRefusal = λ v. Ok (record { rank = Some (rank_of k); work = v }) in
    IfOk-at_ok IsSound (ap (λ x. and_then x reads) is) (placed_sound r last k args behind fine sound)

-- the last rank is that of the line `end` alone
pub end_alone : (k : Keyword) → k ≢ keyword.End → rank_of k ≡ 8 → ⊥
end_alone keyword.Format other is = omega (arith, is)
end_alone keyword.Mode other is = omega (arith, is)
end_alone keyword.Guard other is = omega (arith, is)
end_alone keyword.Workers other is = omega (arith, is)
end_alone keyword.Sockets other is = omega (arith, is)
end_alone keyword.Threshold other is = omega (arith, is)
end_alone keyword.Accounts other is = omega (arith, is)
end_alone keyword.Job other is = omega (arith, is)
end_alone keyword.End other is = other refl

pub known_sound : (r : Reading) (last : ℕ) (k : Keyword) (args : List (List ℕ)) → r.rank ≡ Some last → IsSound r → IfOk (read_known r last (Some k) args) IsSound
known_sound r last k args behind sound = unless_keeps _ (fault_of_place last k) (read_placed r k args) (λ fine. placed_sound r last k args behind fine sound)

ranked_sound : (r : Reading) (rank : Option ℕ) (first : List ℕ) (args : List (List ℕ)) → r.rank ≡ rank → IsSound r → IfOk (read_ranked r rank first args) IsSound
ranked_sound r None first args behind sound = by_format (format_said first args)
  where
    by_format : (said : Option Format) → IfOk (read_format r said) IsSound
    by_format None = tt
    by_format (Some format) =
        let lawful = sound.lawful in
        record {
          lawful = record { guarded = lawful.guarded; some = lawful.some; few = lawful.few; each = lawful.each; near = lawful.near; threshold = lawful.threshold; accounts = lawful.accounts; total = lawful.total; jobs = lawful.jobs; fair = lawful.fair };
          early = λ low. sound.early (rw behind (omega arith));
        }
ranked_sound r (Some last) first args behind sound = by_keyword (keyword_of first)
  where
    by_keyword : (o : Option Keyword) → IfOk (read_known r last o args) IsSound
    by_keyword None = tt
    by_keyword (Some k) = known_sound r last k args behind sound

-- what lines say stays sound
pub read_sound : (r : Reading) (line : List ℕ) → IsSound r → IfOk (read r line) IsSound
read_sound r line sound = if_keeps _ (is_text line) _ _ (λ text. by_words (words line)) (λ other. tt)
  where
    by_words : (all : List (List ℕ)) → IfOk (read_words r all) IsSound
    by_words [] = sound
    by_words (first ∷ args) = if_keeps _ (is_comment first) _ _ (λ comment. sound) (λ said. ranked_sound r r.rank first args refl sound)

-- before the first line
pub first_sound : IsSound nothing_read
first_sound = record {
  lawful = record {
    guarded = λ pv. refl;
    some = omega arith;
    few = omega arith;
    each = refl;
    near = All-replicate (λ socket. socket ≤ MAX_SOCKET) 1 0 (omega arith);
    threshold = omega arith;
    accounts = omega arith;
    total = omega arith;
    jobs = omega arith;
    fair = All-replicate (λ jobs. All (IsFair 0) jobs) 1 [] (All-nil (IsFair 0));
  };
  early = λ low. refl;
}
