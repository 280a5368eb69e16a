-- What holds of the lines of a schedule.
use Rattle.std.proofs.Common.{◌≡◌, ◌≢◌, ◌≤◌, ◌<◌, ◌+◌, ◌-◌, ◌^◌, ℕ, Bool, true, false, List, [], ◌∷◌, Option, None, Some, Result, IfOk, Ok, Err, refl, sym, subst, arith, nat_le, if◌then◌else◌}
use Rattle.std.proofs.lemmas.Bool.Decides.{nat_tests}
use Rattle.lk_forms.specs.Words.{words, is_text, is_comment}
use Rattle.lk_forms.specs.Operations.{and_then, unless}
use Rattle.lk_forms.specs.Grammar.{one_word, two_words, number_in, cpu_word}
use Rattle.lk_forms.specs.declared.limits.TheConstants.{MAX_ACTS}
use Rattle.lk_forms.specs.declared.answers.Fault.{Fault}
use Rattle.lk_forms.specs.declared.answers.Fault.TheVariants.{NotText}
use Rattle.lk_forms.specs.declared.answers.Which.TheVariants.{Acts}
use Rattle.lk_forms.specs.declared.answers.LineRefusal.{LineRefusal}
use Rattle.lk_forms.specs.declared.answers.LineRefusal.TheVariants.{Bad, Limit, Memory}
use Rattle.lk_forms.proofs.Changes.{and_then-ok, if-ok, number_in-ok, cpu_word-ok, no_words-ok}
use Rattle.lk_forms.proofs.Readings.{unless-ok}
use Rattle.lk_forms.proofs.Places.{NoMemory, then-no_memory, one_word-no_memory, two_words-no_memory, number-no_memory, cpu-no_memory}
use Rattle.lk_osq_forms.specs.Keywords.{keyword_of, fault_of_place}
use Rattle.lk_osq_forms.specs.Lines.{line_by, run_of, step_line, give_line, schedule_args, rank_behind, schedule_known, schedule_of}
use Rattle.lk_osq_forms.specs.Schedule.{IsWithin}
use Rattle.lk_osq_forms.specs.declared.answers.Sched.{Sched}
use Rattle.lk_osq_forms.specs.declared.answers.Sched.TheVariants.{Blank, Run, End}
use Rattle.lk_osq_forms.specs.declared.keyword.Keyword.{Keyword}
use Rattle.lk_osq_forms.specs.declared.keyword.Keyword.TheVariants as keyword

-- ---- acts are those of a processor that exists, at least one and not too many

run-within : (cpus made : ℕ) (give : Bool) (p times : ℕ) (said : Sched) → p < cpus → 1 ≤ times
    → run_of made give p times ≡ Ok said → IsWithin cpus made said
run-within cpus made give p times said below some is =
    let few =
    if-ok (nat_le (made + times) MAX_ACTS) (Ok (Run give p times)) (Limit Acts) said is in
    let same : Run give p times ≡ said = cc (few.1) in
    let within : made + times ≤ MAX_ACTS = grind (arith, nat_tests, few.0) in
    rw (← same) (below, some, within)

give-within : (cpus made : ℕ) (args : List (List ℕ)) (said : Sched)
    → give_line cpus made args ≡ Ok said → IsWithin cpus made said
give-within cpus made args said is =
    let word =
    and_then-ok (one_word args)
    (λ word. and_then (cpu_word cpus word) (λ p. run_of made true p 1)) said is in
    let p = and_then-ok (cpu_word cpus word.0) (λ p. run_of made true p 1) said word.2 in
    run-within cpus made true p.0 1 said (cpu_word-ok cpus word.0 p.0 p.1) (omega arith) p.2

step-within : (cpus made : ℕ) (args : List (List ℕ)) (said : Sched)
    → step_line cpus made args ≡ Ok said → IsWithin cpus made said
step-within cpus made args said is =
    let both =
    and_then-ok (two_words args)
    (λ both. and_then (cpu_word cpus both.0)
    (λ p. and_then (number_in 1 (2 ^ 64 - 1) both.1) (λ n. run_of made false p n))) said is in
    let p = and_then-ok (cpu_word cpus both.0.0)
    (λ p. and_then (number_in 1 (2 ^ 64 - 1) both.0.1)
    (λ n. run_of made false p n)) said both.2 in
    let n = and_then-ok (number_in 1 (2 ^ 64 - 1) both.0.1)
    (λ n. run_of made false p.0 n) said p.2 in
    run-within cpus made false p.0 n.0 said (cpu_word-ok cpus both.0.0 p.0 p.1)
    (number_in-ok 1 (2 ^ 64 - 1) both.0.1 n.0 n.1).0 n.2

args-within : (k : Keyword) (cpus made : ℕ) (args : List (List ℕ)) (said : Sched)
    → schedule_args k cpus made args ≡ Ok said → IsWithin cpus made said
args-within keyword.Step cpus made args said is = step-within cpus made args said is
args-within keyword.Give cpus made args said is = give-within cpus made args said is
args-within keyword.End cpus made args said is = rw (← no_words-ok args End said is) tt
args-within _ cpus made args said is = cc

known-within : (cpus made : ℕ) (ended : Bool) (k : Option Keyword) (args : List (List ℕ))
    (said : Sched) → schedule_known cpus made ended k args ≡ Ok said
    → IsWithin cpus made said
known-within cpus made ended None args said is = cc
known-within cpus made ended (Some k) args said is =
    args-within k cpus made args said
    (unless-ok (fault_of_place (rank_behind ended) k) (schedule_args k cpus made args) said is).1

words-within : (cpus made : ℕ) (ended : Bool) (ws : List (List ℕ)) (said : Sched)
    → line_by Blank
    (λ first args. schedule_known cpus made ended (keyword_of first) args) ws ≡ Ok said
    → IsWithin cpus made said
words-within cpus made ended [] said is = let same : Blank ≡ said = cc in rw (← same) tt
words-within cpus made ended (first ∷ args) said is = by_comment (is_comment first) is
  where
    by_comment : (b : Bool)
        → (if b then Ok Blank else schedule_known cpus made ended (keyword_of first) args) ≡ Ok said
        → IsWithin cpus made said
    by_comment true blank = let same : Blank ≡ said = cc in rw (← same) tt
    by_comment false next = known-within cpus made ended (keyword_of first) args said next

schedule-within : (cpus made : ℕ) (ended : Bool) (line : List ℕ) (said : Sched)
    → schedule_of cpus made ended line ≡ Ok said → IsWithin cpus made said
schedule-within cpus made ended line said is =
    words-within cpus made ended (words line) said
    (if-ok (is_text line) _ (Bad NotText) said is).1

pub within-ok : (cpus made : ℕ) (ended : Bool) (line : List ℕ) (result : Result Sched LineRefusal)
    → result ≡ schedule_of cpus made ended line
    → IfOk result (λ said. IsWithin cpus made said)
within-ok cpus made ended line (Ok said) is =
    schedule-within cpus made ended line said (sym is)
within-ok cpus made ended line (Err why) is = tt

-- ---- no want of memory

run-no_memory : (acts : ℕ) (give : Bool) (p times : ℕ) → NoMemory (run_of acts give p times)
run-no_memory acts give p times = by_test (nat_le (acts + times) MAX_ACTS)
  where
    by_test : (b : Bool) → NoMemory (if b then Ok (Run give p times) else Err (Limit Acts))
    by_test true = tt
    by_test false = λ e. cc

module _ (cpus acts : ℕ) where
  step-no_memory : (args : List (List ℕ)) → NoMemory (step_line cpus acts args)
  step-no_memory args = then-no_memory (two_words args) _ (two_words-no_memory args) (λ both.
      then-no_memory (cpu_word cpus both.0) _ (cpu-no_memory cpus acts both.0) (λ p.
      then-no_memory (number_in 1 (2 ^ 64 - 1) both.1) _ (number-no_memory 1 (2 ^ 64 - 1) both.1)
      (λ n. run-no_memory acts false p n)))

  give-no_memory : (args : List (List ℕ)) → NoMemory (give_line cpus acts args)
  give-no_memory args = then-no_memory (one_word args) _ (one_word-no_memory args) (λ word.
      then-no_memory (cpu_word cpus word) _ (cpu-no_memory cpus acts word)
      (λ p. run-no_memory acts true p 1))

  args-no_memory : (k : Keyword) (args : List (List ℕ)) → NoMemory (schedule_args k cpus acts args)
  args-no_memory keyword.Step args = step-no_memory args
  args-no_memory keyword.Give args = give-no_memory args
  args-no_memory keyword.End [] = tt
  args-no_memory keyword.End (word ∷ args) = λ e. cc
  args-no_memory k args = λ e. cc

  unless-no_memory : (f : Option Fault) (x : Result Sched LineRefusal) → NoMemory x
      → NoMemory (unless f x)
  unless-no_memory None x none = none
  unless-no_memory (Some fault) x none = λ e. cc

  known-no_memory : (ended : Bool) (k : Option Keyword) (args : List (List ℕ))
      → NoMemory (schedule_known cpus acts ended k args)
  known-no_memory ended None args = λ e. cc
  known-no_memory ended (Some k) args =
      unless-no_memory (fault_of_place (rank_behind ended) k) _ (args-no_memory k args)

  words-no_memory : (ended : Bool) (ws : List (List ℕ))
      → NoMemory
      (line_by Blank (λ first args. schedule_known cpus acts ended (keyword_of first) args) ws)
  words-no_memory ended [] = tt
  words-no_memory ended (first ∷ args) = by_comment (is_comment first)
    where
      by_comment : (c : Bool)
          → NoMemory
          (if c then Ok Blank else schedule_known cpus acts ended (keyword_of first) args)
      by_comment true = tt
      by_comment false = known-no_memory ended (keyword_of first) args

  -- no line of a schedule needs memory
  pub schedule-no_memory : (ended : Bool) (line : List ℕ)
      → schedule_of cpus acts ended line ≢ Err Memory
  schedule-no_memory ended line e = subst NoMemory e (by_text (is_text line)) refl
    where
      by_text : (t : Bool)
          → NoMemory
          (if t then line_by Blank
          (λ first args. schedule_known cpus acts ended (keyword_of first) args)
          (words line) else Err (Bad NotText))
      by_text true = words-no_memory ended (words line)
      by_text false = λ e. cc
