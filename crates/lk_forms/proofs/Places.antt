-- What the place of a line decides, before `go` and behind `end`; and that no line of a schedule needs memory.
use Rattle.std.proofs.Common.{◌≡◌, ◌≢◌, ◌≤◌, ◌==◌, ◌&&◌, ◌||◌, not, ◌+◌, ◌^◌, ◌-◌, ℕ, Bool, true, false, List, [], ◌∷◌, Option, Some, None, Result, Ok, Err, nat_le, nat_lt, unwrap_or, if◌then◌else◌, refl, subst, arith}
use Rattle.std.proofs.lemmas.Bool.{leb-false, le-leb}
use Rattle.lk_names.specs.declared.events.Act.{Act}
use Rattle.lk_names.specs.declared.events.Act.TheVariants as act
use Rattle.lk_names.specs.declared.names.Format.{Format}
use Rattle.lk_rows.specs.declared.setup.Setup.{Setup}
use Rattle.lk_text.specs.Numbers.{number_of}
use Rattle.lk_forms.specs.declared.limits.TheConstants.{MAX_ACTS}
use Rattle.lk_forms.specs.Words.{words, is_text, is_comment}
use Rattle.lk_forms.specs.Keywords.{keyword_of, rank_of, order, fault_of_place}
use Rattle.lk_forms.specs.Ranks.{is_misplaced}
use Rattle.lk_forms.specs.Operations.{and_then, or_fault, unless}
use Rattle.lk_forms.specs.Grammar.{Reading, format_said, read_format, read, read_words, read_ranked, read_known, read_placed, read_header, one_word, two_words, in_range, number_in, cpu_word, run_of, step_line, act_line, schedule_args, header_line, last_rank, has_go}
use Rattle.lk_forms.specs.Schedule.{rank_behind, schedule_of, schedule_words, schedule_known}
use Rattle.lk_forms.specs.declared.answers.Fault.{Fault}
use Rattle.lk_forms.specs.declared.answers.Fault.TheVariants.{NotText, BadNumber, OutOfRange, Misplaced, Repeated}
use Rattle.lk_forms.specs.declared.answers.Which.TheVariants.{Acts}
use Rattle.lk_forms.specs.declared.answers.LineRefusal.{LineRefusal}
use Rattle.lk_forms.specs.declared.answers.LineRefusal.TheVariants.{Bad, Limit, Memory}
use Rattle.lk_forms.specs.declared.answers.Sched.{Sched}
use Rattle.lk_forms.specs.declared.answers.Sched.TheVariants.{Blank, Run}
use Rattle.lk_forms.specs.declared.keyword.Keyword.{Keyword}
use Rattle.lk_forms.specs.declared.keyword.Keyword.TheVariants as keyword

-- before `go`

-- an accepted line makes a reading of which this holds
abbrev Makes : (Reading → Type 0) → Result Reading LineRefusal → Type 0
Makes P (Ok r) = P r
Makes P (Err why) = Unit {0}

-- no line of the schedule may stand before `go`
misplaced : (last rank : ℕ) → nat_lt last 9 ≡ true → nat_lt 9 rank ≡ true → is_misplaced order last rank ≡ true
misplaced last rank early late = rw (early, late) (any_of ((last == 0) && not (rank == 1)) (nat_lt rank last) (((last == 9) && (rank == 9)) || (last == 11)))
  where
    any_of : (a b c : Bool) → (a || (b || (true || c))) ≡ true
    any_of true b c = refl
    any_of false true c = refl
    any_of false false c = refl

-- the lines so far have the same acts, and none of them stands behind `go`
abbrev Heads : Reading → Reading → Type 0
Heads r r' = (r'.acts ≡ r.acts) × (last_rank r' ≤ 9)

module _ (r : Reading) (early : has_go r ≡ false) where
  stays : Heads r r
  stays = (refl, (let below = leb-false 9 (last_rank r) early in omega arith))

  header_heads : (k : Keyword) (args : List (List ℕ)) → rank_of k ≤ 9 → Makes (Heads r) (read_header r k args)
  header_heads k args low = by_setup (header_line k r.setup args)
    where
      by_setup : (x : Result Setup LineRefusal) → Makes (Heads r) (and_then x (λ s. Ok (record r { rank = Some (rank_of k); setup = s })))
      by_setup (Ok s) = (refl, low)
      by_setup (Err why) = tt

  unless_heads : (f : Option Fault) (x : Result Reading LineRefusal) → Makes (Heads r) x → Makes (Heads r) (unless f x)
  unless_heads None x m = m
  unless_heads (Some fault) x m = tt

  late_heads : (last : ℕ) (k : Keyword) (args : List (List ℕ)) → nat_lt last 9 ≡ true → nat_lt 9 (rank_of k) ≡ true → (rank_of k == 0) ≡ false
      → Makes (Heads r) (read_known r last (Some k) args)
  late_heads last k args below late other = rw (other, misplaced last (rank_of k) below late) tt

  known_heads : (last : ℕ) (k : Keyword) (args : List (List ℕ)) → nat_lt last 9 ≡ true → Makes (Heads r) (read_known r last (Some k) args)
  known_heads last keyword.Step args below = late_heads last keyword.Step args below refl refl
  known_heads last keyword.Int args below = late_heads last keyword.Int args below refl refl
  known_heads last keyword.Pre args below = late_heads last keyword.Pre args below refl refl
  known_heads last keyword.Res args below = late_heads last keyword.Res args below refl refl
  known_heads last keyword.Nudge args below = late_heads last keyword.Nudge args below refl refl
  known_heads last keyword.End args below = late_heads last keyword.End args below refl refl
  known_heads last k args below = unless_heads (fault_of_place last k) (read_placed r k args) (header_heads k args (omega arith))

  ranked_heads : (rank : Option ℕ) (first : List ℕ) (args : List (List ℕ)) → nat_lt (unwrap_or rank 0) 9 ≡ true → Makes (Heads r) (read_ranked r rank first args)
  ranked_heads None first args below = by_format (format_said first args)
    where
      by_format : (said : Option Format) → Makes (Heads r) (read_format r said)
      by_format None = tt
      by_format (Some format) = (refl, omega arith)
  ranked_heads (Some last) first args below = by_keyword (keyword_of first)
    where
      by_keyword : (k : Option Keyword) → Makes (Heads r) (read_known r last k args)
      by_keyword None = tt
      by_keyword (Some k) = known_heads last k args below

  words_head : (ws : List (List ℕ)) → Makes (Heads r) (read_words r ws)
  words_head [] = stays
  words_head (first ∷ args) = by_comment (is_comment first)
    where
      by_comment : (c : Bool) → Makes (Heads r) (if c then Ok r else read_ranked r r.rank first args)
      by_comment true = stays
      by_comment false = ranked_heads r.rank first args (let below = leb-false 9 (last_rank r) early in le-leb _ _ (omega arith))

  -- a line that is accepted before `go`, or is `go`, says no act
  pub read-before_go : (line : List ℕ) (r' : Reading) → read r line ≡ Ok r' → (r'.acts ≡ r.acts) × (last_rank r' ≤ 9)
  read-before_go line r' e = subst (Makes (Heads r)) e (by_text (is_text line))
    where
      by_text : (t : Bool) → Makes (Heads r) (if t then read_words r (words line) else Err (Bad NotText))
      by_text true = words_head (words line)
      by_text false = tt

-- behind `end`

-- behind `end` no line with a keyword may stand
no_place : (k : Keyword) → (fault : Fault) × (fault_of_place 11 k ≡ Some fault)
no_place keyword.Format = (Repeated, refl)
no_place k = (Misplaced, refl)

-- behind `end` a line says nothing
pub schedule-ended : (cpus acts : ℕ) (line : List ℕ) (said : Sched) → schedule_of cpus acts true line ≡ Ok said → said ≡ Blank
schedule-ended cpus acts line said e = by_text (is_text line) e
  where
    known : (k : Option Keyword) (args : List (List ℕ)) → schedule_known cpus acts true k args ≡ Ok said → said ≡ Blank
    known None args h = cc
    known (Some k) args h = (let at = no_place k in let refused : unless (fault_of_place 11 k) (schedule_args k cpus acts args) ≡ Err (Bad at.0) = rw at.1 refl in cc)

    by_words : (ws : List (List ℕ)) → schedule_words cpus acts true ws ≡ Ok said → said ≡ Blank
    by_words [] h = cc
    by_words (first ∷ args) h = by_comment (is_comment first) h
      where
        by_comment : (c : Bool) → (if c then Ok Blank else schedule_known cpus acts true (keyword_of first) args) ≡ Ok said → said ≡ Blank
        by_comment true i = cc
        by_comment false i = known (keyword_of first) args i

    by_text : (t : Bool) → (if t then schedule_words cpus acts true (words line) else Err (Bad NotText)) ≡ Ok said → said ≡ Blank
    by_text true h = by_words (words line) h
    by_text false h = cc

-- no want of memory

-- the answer is no want of memory
abbrev pub NoMemory : {A : Type 0} → Result A LineRefusal → Type 0
NoMemory (Ok a) = Unit {0}
NoMemory (Err why) = why ≢ Memory

pub then-no_memory : {A B : Type 0} (x : Result A LineRefusal) (next : A → Result B LineRefusal) → NoMemory x → ((a : A) → NoMemory (next a)) → NoMemory (and_then x next)
then-no_memory (Ok a) next none later = later a
then-no_memory (Err why) next none later = none

or_fault-no_memory : {A : Type 0} (fault : Fault) (x : Option A) → NoMemory (or_fault fault x)
or_fault-no_memory fault None = λ e. cc
or_fault-no_memory fault (Some a) = tt

pub one_word-no_memory : (args : List (List ℕ)) → NoMemory (one_word args)
one_word-no_memory [] = λ e. cc
one_word-no_memory (a ∷ []) = tt
one_word-no_memory (a ∷ b ∷ args) = λ e. cc

pub two_words-no_memory : (args : List (List ℕ)) → NoMemory (two_words args)
two_words-no_memory [] = λ e. cc
two_words-no_memory (a ∷ []) = λ e. cc
two_words-no_memory (a ∷ b ∷ []) = tt
two_words-no_memory (a ∷ b ∷ c ∷ args) = λ e. cc

pub number-no_memory : (low high : ℕ) (word : List ℕ) → NoMemory (number_in low high word)
number-no_memory low high word = then-no_memory (or_fault BadNumber (number_of word)) (λ n. in_range low high n) (or_fault-no_memory BadNumber (number_of word)) (λ n. by_test n (nat_le low n && nat_le n high))
  where
    by_test : (n : ℕ) (b : Bool) → NoMemory (if b then Ok n else Err (Bad OutOfRange))
    by_test n true = tt
    by_test n false = λ e. cc

run-no_memory : (acts : ℕ) (what : Act) (times : ℕ) → NoMemory (run_of acts what times)
run-no_memory acts what times = by_test (nat_le (acts + times) MAX_ACTS)
  where
    by_test : (b : Bool) → NoMemory (if b then Ok (Run what times) else Err (Limit Acts))
    by_test true = tt
    by_test false = λ e. cc

module _ (cpus acts : ℕ) where
  pub cpu-no_memory : (word : List ℕ) → NoMemory (cpu_word cpus word)
  cpu-no_memory word = then-no_memory (or_fault BadNumber (number_of word)) (λ n. if nat_lt n cpus then Ok n else Err (Bad OutOfRange)) (or_fault-no_memory BadNumber (number_of word)) (λ n. by_test n (nat_lt n cpus))
    where
      by_test : (n : ℕ) (b : Bool) → NoMemory (if b then Ok n else Err (Bad OutOfRange))
      by_test n true = tt
      by_test n false = λ e. cc

  step-no_memory : (args : List (List ℕ)) → NoMemory (step_line cpus acts args)
  step-no_memory args = then-no_memory (two_words args) _ (two_words-no_memory args) (λ both.
      then-no_memory (cpu_word cpus both.0) _ (cpu-no_memory both.0) (λ p.
      then-no_memory (number_in 1 (2 ^ 64 - 1) both.1) _ (number-no_memory 1 (2 ^ 64 - 1) both.1) (λ n. run-no_memory acts (act.Step p) n)))

  act-no_memory : (what : ℕ → Act) (args : List (List ℕ)) → NoMemory (act_line what cpus acts args)
  act-no_memory what args = then-no_memory (one_word args) _ (one_word-no_memory args) (λ word.
      then-no_memory (cpu_word cpus word) _ (cpu-no_memory word) (λ p. run-no_memory acts (what p) 1))

  args-no_memory : (k : Keyword) (args : List (List ℕ)) → NoMemory (schedule_args k cpus acts args)
  args-no_memory keyword.Step args = step-no_memory args
  args-no_memory keyword.Int args = act-no_memory (λ p. act.Interrupt p) args
  args-no_memory keyword.Pre args = act-no_memory (λ p. act.Preempt p) args
  args-no_memory keyword.Res args = act-no_memory (λ p. act.Resume p) args
  args-no_memory keyword.Nudge args = act-no_memory (λ p. act.Nudge p) args
  args-no_memory keyword.End [] = tt
  args-no_memory keyword.End (word ∷ args) = λ e. cc
  args-no_memory k args = λ e. cc

  unless-no_memory : (f : Option Fault) (x : Result Sched LineRefusal) → NoMemory x → NoMemory (unless f x)
  unless-no_memory None x none = none
  unless-no_memory (Some fault) x none = λ e. cc

  known-no_memory : (ended : Bool) (k : Option Keyword) (args : List (List ℕ)) → NoMemory (schedule_known cpus acts ended k args)
  known-no_memory ended None args = λ e. cc
  known-no_memory ended (Some k) args = unless-no_memory (fault_of_place (rank_behind ended) k) _ (args-no_memory k args)

  words-no_memory : (ended : Bool) (ws : List (List ℕ)) → NoMemory (schedule_words cpus acts ended ws)
  words-no_memory ended [] = tt
  words-no_memory ended (first ∷ args) = by_comment (is_comment first)
    where
      by_comment : (c : Bool) → NoMemory (if c then Ok Blank else schedule_known cpus acts ended (keyword_of first) args)
      by_comment true = tt
      by_comment false = known-no_memory ended (keyword_of first) args

  -- no line of a schedule needs memory
  pub schedule-no_memory : (ended : Bool) (line : List ℕ) → schedule_of cpus acts ended line ≢ Err Memory
  schedule-no_memory ended line e = subst NoMemory e (by_text (is_text line)) refl
    where
      by_text : (t : Bool) → NoMemory (if t then schedule_words cpus acts ended (words line) else Err (Bad NotText))
      by_text true = words-no_memory ended (words line)
      by_text false = λ e. cc
