-- A line behind `go`, read by what was said before it.
use Rattle.std.proofs.Common.{◌≡◌, ◌≤◌, ◌<◌, ◌+◌, ◌-◌, ◌^◌, ◌==◌, ◌⊎◌, inl, inr, ℕ, Bool, true, false, List, [], ◌∷◌, Option, None, Some, unwrap_or, Result, IfOk, Ok, Err, length, refl, sym, arith, nat_le, if◌then◌else◌}
use Rattle.std.proofs.lemmas.Bool.Decides.{nat_tests}
use Rattle.std.proofs.Math.Nat.{eq-or-lt_of_le}
use Rattle.lk_forms.specs.declared.limits.TheConstants.{MAX_ACTS}
use Rattle.lk_forms.specs.Words.{words, is_text, is_comment}
use Rattle.lk_names.specs.declared.events.Act.{Act}
use Rattle.lk_names.specs.declared.events.Act.TheVariants as act
use Rattle.lk_rows.specs.Acts.{processor_of}
use Rattle.lk_forms.specs.Keywords.{keyword_of, fault_of_place}
use Rattle.lk_forms.specs.Operations.{and_then}
use Rattle.lk_forms.specs.Grammar.{Reading, read, read_words, read_ranked, read_known, scheduled, one_word, two_words, number_in, cpu_word, run_of, act_line, step_line, schedule_args, cpus_of, has_go, has_end, last_rank, reading_of}
use Rattle.lk_forms.specs.Schedule.{rank_behind, schedule_known, schedule_words, schedule_of, IsInSchedule, SaysNext, IsWithin}
use Rattle.lk_forms.specs.declared.answers.Fault.TheVariants.{NotText}
use Rattle.lk_forms.specs.declared.answers.Which.TheVariants.{Acts}
use Rattle.lk_forms.specs.declared.answers.LineRefusal.{LineRefusal}
use Rattle.lk_forms.specs.declared.answers.LineRefusal.TheVariants.{Bad, Limit}
use Rattle.lk_forms.specs.declared.answers.Sched.{Sched}
use Rattle.lk_forms.specs.declared.answers.Sched.TheVariants.{Blank, Run, End}
use Rattle.lk_forms.specs.declared.keyword.Keyword.{Keyword}
use Rattle.lk_forms.specs.declared.keyword.Keyword.TheVariants as keyword
use Rattle.lk_forms.proofs.Changes.{and_then-ok, if-ok, number_in-ok, cpu_word-ok, no_words-ok}
use Rattle.lk_forms.proofs.Readings.{unless-ok, Steps, skips, begins, sets, schedules, kept}

-- what is read with a line that says this
abbrev with_said : Reading → Result Sched LineRefusal → Result Reading LineRefusal
with_said r said = and_then said (λ s. Ok (scheduled r s))

-- the keyword of a line behind `go`, by the rank of the last line
known_9 : (r : Reading) (k : Keyword) (args : List (List ℕ)) → read_known r 9 (Some k) args ≡ with_said r (schedule_known (cpus_of r.setup) (length r.acts) false (Some k) args)
known_9 r keyword.Format args = refl
known_9 r _ args = refl

known_10 : (r : Reading) (k : Keyword) (args : List (List ℕ)) → read_known r 10 (Some k) args ≡ with_said r (schedule_known (cpus_of r.setup) (length r.acts) false (Some k) args)
known_10 r keyword.Format args = refl
known_10 r _ args = refl

known_11 : (r : Reading) (k : Keyword) (args : List (List ℕ)) → read_known r 11 (Some k) args ≡ with_said r (schedule_known (cpus_of r.setup) (length r.acts) true (Some k) args)
known_11 r keyword.Format args = refl
known_11 r _ args = refl

-- the reading is told so with each line of the schedule
known-same : (r : Reading) (last : ℕ) (k : Option Keyword) (args : List (List ℕ)) → nat_le 9 last ≡ true → last ≤ 11
    → read_known r last k args ≡ with_said r (schedule_known (cpus_of r.setup) (length r.acts) (last == 11) k args)
known-same r last None args go few = refl
known-same r last (Some k) args go few = by_rank (eq-or-lt_of_le low)
  where
    low : 9 ≤ last
    low = grind (arith, nat_tests, go)

    by_last : (10 ≡ last) ⊎ (10 < last) → read_known r last (Some k) args ≡ with_said r (schedule_known (cpus_of r.setup) (length r.acts) (last == 11) (Some k) args)
    by_last (inl is) = rw (← is) (known_10 r k args)
    by_last (inr more) = let is : 11 ≡ last = omega arith in rw (← is) (known_11 r k args)

    by_rank : (9 ≡ last) ⊎ (9 < last) → read_known r last (Some k) args ≡ with_said r (schedule_known (cpus_of r.setup) (length r.acts) (last == 11) (Some k) args)
    by_rank (inl is) = rw (← is) (known_9 r k args)
    by_rank (inr more) = by_last (eq-or-lt_of_le {n = 10} (omega arith))

ranked-same : (r : Reading) (rank : Option ℕ) (first : List ℕ) (args : List (List ℕ)) → nat_le 9 (unwrap_or rank 0) ≡ true → unwrap_or rank 0 ≤ 11
    → read_ranked r rank first args ≡ with_said r (schedule_known (cpus_of r.setup) (length r.acts) (unwrap_or rank 0 == 11) (keyword_of first) args)
ranked-same r None first args go few = cc
ranked-same r (Some last) first args go few = known-same r last (keyword_of first) args go few

words-same : (r : Reading) (ws : List (List ℕ)) → has_go r ≡ true → last_rank r ≤ 11 → read_words r ws ≡ with_said r (schedule_words (cpus_of r.setup) (length r.acts) (has_end r) ws)
words-same r [] go few = refl
words-same r (first ∷ args) go few = by_comment (is_comment first) (ranked-same r r.rank first args go few)
  where
    by_comment : (b : Bool) → read_ranked r r.rank first args ≡ with_said r (schedule_known (cpus_of r.setup) (length r.acts) (has_end r) (keyword_of first) args)
        → (if b then Ok r else read_ranked r r.rank first args) ≡ with_said r (if b then Ok Blank else schedule_known (cpus_of r.setup) (length r.acts) (has_end r) (keyword_of first) args)
    by_comment true same = refl
    by_comment false same = same

line-same : (r : Reading) (line : List ℕ) → has_go r ≡ true → last_rank r ≤ 11 → read r line ≡ with_said r (schedule_of (cpus_of r.setup) (length r.acts) (has_end r) line)
line-same r line go few = by_text (is_text line) (words-same r (words line) go few)
  where
    by_text : (b : Bool) → read_words r (words line) ≡ with_said r (schedule_words (cpus_of r.setup) (length r.acts) (has_end r) (words line))
        → (if b then read_words r (words line) else Err (Bad NotText)) ≡ with_said r (if b then schedule_words (cpus_of r.setup) (length r.acts) (has_end r) (words line) else Err (Bad NotText))
    by_text true same = same
    by_text false same = refl

says-next : (r : Reading) (line : List ℕ) (said : Result Sched LineRefusal) → read r line ≡ with_said r said → SaysNext r line said
says-next r line (Ok said) same = same
says-next r line (Err why) same = same

-- ranks end with that of the line `end`
rank-small : (r r' : Reading) → Steps r r' → last_rank r ≤ 11 → last_rank r' ≤ 11
rank-small r _ skips few = few
rank-small r _ (begins format first) few = omega arith
rank-small r _ (sets last k s behind fine header changes) few = grind (arith, nat_tests, header)
rank-small r _ (schedules last k args Blank behind fine schedule said) few = few
rank-small r _ (schedules last k args (Run what times) behind fine schedule said) few = omega arith
rank-small r _ (schedules last k args End behind fine schedule said) few = omega arith

pub last_rank-small : (lines : List (List ℕ)) → last_rank (reading_of lines) ≤ 11
last_rank-small lines = kept (λ r. last_rank r ≤ 11) rank-small lines (omega arith)

-- a line of the schedule says behind these lines what it says by what they said
pub schedule-reads : (before : List (List ℕ)) (cpus acts : ℕ) (ended : Bool) (line : List ℕ) → IsInSchedule (reading_of before) cpus acts ended
    → SaysNext (reading_of before) line (schedule_of cpus acts ended line)
schedule-reads before cpus acts ended line so =
    rw (← so.cpus, ← so.acts, ← so.ended) (says-next _ line _ (line-same (reading_of before) line so.go (last_rank-small before)))

-- acts are those of a processor that exists, at least one and not too many

run-within : (cpus made : ℕ) (what : Act) (times : ℕ) (said : Sched) → processor_of what < cpus → 1 ≤ times → run_of made what times ≡ Ok said → IsWithin cpus made said
run-within cpus made what times said below some is =
    let few = if-ok (nat_le (made + times) MAX_ACTS) (Ok (Run what times)) (Limit Acts) said is in
    let same : Run what times ≡ said = cc (few.1) in
    let within : made + times ≤ MAX_ACTS = grind (arith, nat_tests, few.0) in
    rw (← same) (below, some, within)

act-within : (what : ℕ → Act) (cpus made : ℕ) (args : List (List ℕ)) (said : Sched) → ((p : ℕ) → processor_of (what p) ≡ p) → act_line what cpus made args ≡ Ok said → IsWithin cpus made said
act-within what cpus made args said names is =
    let word = and_then-ok (one_word args) (λ word. and_then (cpu_word cpus word) (λ p. run_of made (what p) 1)) said is in
    let p = and_then-ok (cpu_word cpus word.0) (λ p. run_of made (what p) 1) said word.2 in
    run-within cpus made (what p.0) 1 said (rw (names p.0) (cpu_word-ok cpus word.0 p.0 p.1)) (omega arith) p.2

step-within : (cpus made : ℕ) (args : List (List ℕ)) (said : Sched) → step_line cpus made args ≡ Ok said → IsWithin cpus made said
step-within cpus made args said is =
    let both = and_then-ok (two_words args) (λ both. and_then (cpu_word cpus both.0) (λ p. and_then (number_in 1 (2 ^ 64 - 1) both.1) (λ n. run_of made (act.Step p) n))) said is in
    let p = and_then-ok (cpu_word cpus both.0.0) (λ p. and_then (number_in 1 (2 ^ 64 - 1) both.0.1) (λ n. run_of made (act.Step p) n)) said both.2 in
    let n = and_then-ok (number_in 1 (2 ^ 64 - 1) both.0.1) (λ n. run_of made (act.Step p.0) n) said p.2 in
    run-within cpus made (act.Step p.0) n.0 said (cpu_word-ok cpus both.0.0 p.0 p.1) (number_in-ok 1 (2 ^ 64 - 1) both.0.1 n.0 n.1).0 n.2

args-within : (k : Keyword) (cpus made : ℕ) (args : List (List ℕ)) (said : Sched) → schedule_args k cpus made args ≡ Ok said → IsWithin cpus made said
args-within keyword.Step cpus made args said is = step-within cpus made args said is
args-within keyword.Int cpus made args said is = act-within (λ p. act.Interrupt p) cpus made args said (λ p. refl) is
args-within keyword.Pre cpus made args said is = act-within (λ p. act.Preempt p) cpus made args said (λ p. refl) is
args-within keyword.Res cpus made args said is = act-within (λ p. act.Resume p) cpus made args said (λ p. refl) is
args-within keyword.Nudge cpus made args said is = act-within (λ p. act.Nudge p) cpus made args said (λ p. refl) is
args-within keyword.End cpus made args said is = rw (← no_words-ok args End said is) tt
args-within _ cpus made args said is = cc

known-within : (cpus made : ℕ) (ended : Bool) (k : Option Keyword) (args : List (List ℕ)) (said : Sched) → schedule_known cpus made ended k args ≡ Ok said → IsWithin cpus made said
known-within cpus made ended None args said is = cc
known-within cpus made ended (Some k) args said is = args-within k cpus made args said (unless-ok (fault_of_place (rank_behind ended) k) (schedule_args k cpus made args) said is).1

words-within : (cpus made : ℕ) (ended : Bool) (ws : List (List ℕ)) (said : Sched) → schedule_words cpus made ended ws ≡ Ok said → IsWithin cpus made said
words-within cpus made ended [] said is = let same : Blank ≡ said = cc in rw (← same) tt
words-within cpus made ended (first ∷ args) said is = by_comment (is_comment first) is
  where
    by_comment : (b : Bool) → (if b then Ok Blank else schedule_known cpus made ended (keyword_of first) args) ≡ Ok said → IsWithin cpus made said
    by_comment true blank = let same : Blank ≡ said = cc in rw (← same) tt
    by_comment false next = known-within cpus made ended (keyword_of first) args said next

pub schedule-within : (cpus made : ℕ) (ended : Bool) (line : List ℕ) (said : Sched) → schedule_of cpus made ended line ≡ Ok said → IsWithin cpus made said
schedule-within cpus made ended line said is =
    words-within cpus made ended (words line) said (if-ok (is_text line) (schedule_words cpus made ended (words line)) (Bad NotText) said is).1

pub within-ok : (cpus made : ℕ) (ended : Bool) (line : List ℕ) (result : Result Sched LineRefusal) → result ≡ schedule_of cpus made ended line → IfOk result (λ said. IsWithin cpus made said)
within-ok cpus made ended line (Ok said) is = schedule-within cpus made ended line said (sym is)
within-ok cpus made ended line (Err why) is = tt
