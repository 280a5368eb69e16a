-- What an accepted line of the header changes.
use Rattle.std.proofs.Common.{◌≡◌, ◌≤◌, ◌<◌, ◌+◌, ◌==◌, ◌&&◌, ℕ, Bool, true, false, List, [], ◌∷◌, ◌++◌, Result, Ok, Err, length, refl, sym, subst, arith, nat_le, nat_lt, add-zero, length-append, if◌then◌else◌}
use Rattle.std.proofs.lemmas.Bool.Decides.{nat_tests}
use Rattle.lk_names.specs.declared.names.Kind.{Kind}
use Rattle.lk_names.specs.declared.names.Mode.{Mode}
use Rattle.lk_names.specs.declared.limits.TheConstants.{MAX_SOCKET, MAX_TURNS}
use Rattle.lk_rows.specs.declared.setup.Op.{Op}
use Rattle.lk_rows.specs.declared.setup.Setup.{Setup}
use Rattle.lk_text.specs.Numbers.{number_of}
use Rattle.lk_forms.specs.declared.limits.TheConstants.{MAX_HANDLERS, MAX_LOCKS}
use Rattle.lk_forms.specs.Operations.{and_then, or_fault, ops_of}
use Rattle.lk_forms.specs.Grammar.{one_word, two_words, no_words, in_range, number_in, numbers_from, cpus_of, cpu_word, with_cpus, with_sockets, with_lock, with_program, with_handler, has_program, given_handlers, mode_word, kind_word, next_lock, mode_line, most_cpus, cpus_line, sockets_line, threshold_line, spins_line, lock_line, program_line, handler_line, irq_line, header_line}
use Rattle.lk_forms.specs.declared.answers.Fault.TheVariants.{WordCount, BadNumber, OutOfRange, Repeated}
use Rattle.lk_forms.specs.declared.answers.Which.TheVariants.{Handlers}
use Rattle.lk_forms.specs.declared.answers.LineRefusal.{LineRefusal}
use Rattle.lk_forms.specs.declared.answers.LineRefusal.TheVariants.{Bad, Limit}
use Rattle.lk_forms.specs.declared.keyword.Keyword.{Keyword}
use Rattle.lk_forms.specs.declared.keyword.Keyword.TheVariants as keyword

-- what one line may make of a setup
pub data Changes (s : Setup) : Setup → Type 0 where
  to_mode : (m : Mode) → Changes s (record s { mode = m })
  to_cpus : (n : ℕ) → 1 ≤ n → n ≤ most_cpus s.format → Changes s (with_cpus s n)
  to_sockets : (ns : List ℕ) → length ns ≡ cpus_of s → Changes s (with_sockets s ns)
  to_threshold : (t : ℕ) → t ≤ MAX_TURNS → Changes s (record s { threshold = t })
  to_spins : (n : ℕ) → 1 ≤ n → n ≤ MAX_TURNS → Changes s (record s { spins = n })
  one_lock : (k : Kind) → length s.locks.items < MAX_LOCKS → Changes s (with_lock s k)
  one_program : (p : ℕ) (words : List (List ℕ)) (ops : List Op) → p < cpus_of s → ops_of s.locks.items words ≡ Ok ops → Changes s (with_program s p ops)
  one_handler : (p : ℕ) (words : List (List ℕ)) (ops : List Op) → p < cpus_of s → length (given_handlers s p).items < MAX_HANDLERS → ops_of s.locks.items words ≡ Ok ops → Changes s (with_handler s p ops)
  nothing : Changes s s

-- what passed before a value
pub and_then-ok : {A B : Type 0} (first : Result A LineRefusal) (next : A → Result B LineRefusal) (b : B) → and_then first next ≡ Ok b → (a : A) × (first ≡ Ok a) × (next a ≡ Ok b)
and_then-ok (Ok a) next b is = (a, refl, is)
and_then-ok (Err why) next b is = cc

pub if-ok : {A : Type 0} (b : Bool) (first : Result A LineRefusal) (why : LineRefusal) (a : A) → (if b then first else Err why) ≡ Ok a → (b ≡ true) × (first ≡ Ok a)
if-ok true first why a is = (refl, is)
if-ok false first why a is = (cc, cc)

pub else-ok : {A : Type 0} (b : Bool) (why : LineRefusal) (other : Result A LineRefusal) (a : A) → (if b then Err why else other) ≡ Ok a → (b ≡ false) × (other ≡ Ok a)
else-ok true why other a is = (cc, cc)
else-ok false why other a is = (refl, is)

pub no_words-ok : {A : Type 0} (args : List (List ℕ)) (a b : A) → no_words args a ≡ Ok b → a ≡ b
no_words-ok [] a b is = cc
no_words-ok (word ∷ words) a b is = cc

pub number_in-ok : (low high : ℕ) (word : List ℕ) (n : ℕ) → number_in low high word ≡ Ok n → (low ≤ n) × (n ≤ high)
number_in-ok low high word n is =
    let read = and_then-ok (or_fault BadNumber (number_of word)) (λ m. in_range low high m) n is in
    let within = if-ok (nat_le low read.0 && nat_le read.0 high) (Ok read.0) (Bad OutOfRange) n read.2 in
    let same : read.0 ≡ n = cc (within.1) in
    rw (← same) (grind (arith, nat_tests, within.0))

pub cpu_word-ok : (cpus : ℕ) (word : List ℕ) (p : ℕ) → cpu_word cpus word ≡ Ok p → p < cpus
cpu_word-ok cpus word p is =
    let read = and_then-ok (or_fault BadNumber (number_of word)) (λ n. if nat_lt n cpus then Ok n else Err (Bad OutOfRange)) p is in
    let below = if-ok (nat_lt read.0 cpus) (Ok read.0) (Bad OutOfRange) p read.2 in
    let same : read.0 ≡ p = cc (below.1) in
    rw (← same) (grind (arith, nat_tests, below.0))

length-numbers : (low high : ℕ) (before : List ℕ) (words : List (List ℕ)) (ns : List ℕ) → numbers_from low high before words ≡ Ok ns → length ns ≡ length before + length words
length-numbers low high before [] ns is = let same : before ≡ ns = cc in rw (← same) (sym (add-zero _))
length-numbers low high before (word ∷ words) ns is =
    let read = and_then-ok (number_in low high word) (λ n. numbers_from low high (before ++ n ∷ []) words) ns is in
    omega (arith, length-numbers low high (before ++ read.0 ∷ []) words ns read.2, length-append before (read.0 ∷ []))

changed : (s t s' : Setup) → Changes s t → ◌≡◌ {A = Result Setup LineRefusal} (Ok t) (Ok s') → Changes s s'
changed s t s' change is = let same : t ≡ s' = cc in subst (λ x. Changes s x) same change

mode_line-ok : (s : Setup) (args : List (List ℕ)) (s' : Setup) → mode_line s args ≡ Ok s' → Changes s s'
mode_line-ok s args s' is =
    let word = and_then-ok (one_word args) (λ word. and_then (mode_word word) (λ m. Ok (record s { mode = m }))) s' is in
    let mode = and_then-ok (mode_word word.0) (λ m. Ok (record s { mode = m })) s' word.2 in
    changed s _ s' (to_mode mode.0) mode.2

cpus_line-ok : (s : Setup) (args : List (List ℕ)) (s' : Setup) → cpus_line s args ≡ Ok s' → Changes s s'
cpus_line-ok s args s' is =
    let word = and_then-ok (one_word args) (λ word. and_then (number_in 1 (most_cpus s.format) word) (λ n. Ok (with_cpus s n))) s' is in
    let n = and_then-ok (number_in 1 (most_cpus s.format) word.0) (λ n. Ok (with_cpus s n)) s' word.2 in
    let within = number_in-ok 1 (most_cpus s.format) word.0 n.0 n.1 in
    changed s _ s' (to_cpus n.0 within.0 within.1) n.2

sockets_line-ok : (s : Setup) (args : List (List ℕ)) (s' : Setup) → sockets_line s args ≡ Ok s' → Changes s s'
sockets_line-ok s args s' is =
    let all = if-ok (length args == cpus_of s) (and_then (numbers_from 0 MAX_SOCKET [] args) (λ ns. Ok (with_sockets s ns))) (Bad WordCount) s' is in
    let ns = and_then-ok (numbers_from 0 MAX_SOCKET [] args) (λ ns. Ok (with_sockets s ns)) s' all.1 in
    let many = length-numbers 0 MAX_SOCKET [] args ns.0 ns.1 in
    let count : length ns.0 ≡ cpus_of s = grind (arith, nat_tests, all.0, many) in
    changed s _ s' (to_sockets ns.0 count) ns.2

threshold_line-ok : (s : Setup) (args : List (List ℕ)) (s' : Setup) → threshold_line s args ≡ Ok s' → Changes s s'
threshold_line-ok s args s' is =
    let word = and_then-ok (one_word args) (λ word. and_then (number_in 0 MAX_TURNS word) (λ t. Ok (record s { threshold = t }))) s' is in
    let t = and_then-ok (number_in 0 MAX_TURNS word.0) (λ t. Ok (record s { threshold = t })) s' word.2 in
    changed s _ s' (to_threshold t.0 (number_in-ok 0 MAX_TURNS word.0 t.0 t.1).1) t.2

spins_line-ok : (s : Setup) (args : List (List ℕ)) (s' : Setup) → spins_line s args ≡ Ok s' → Changes s s'
spins_line-ok s args s' is =
    let word = and_then-ok (one_word args) (λ word. and_then (number_in 1 MAX_TURNS word) (λ n. Ok (record s { spins = n }))) s' is in
    let n = and_then-ok (number_in 1 MAX_TURNS word.0) (λ n. Ok (record s { spins = n })) s' word.2 in
    let within = number_in-ok 1 MAX_TURNS word.0 n.0 n.1 in
    changed s _ s' (to_spins n.0 within.0 within.1) n.2

lock_line-ok : (s : Setup) (args : List (List ℕ)) (s' : Setup) → lock_line s args ≡ Ok s' → Changes s s'
lock_line-ok s args s' is =
    let locks = length s.locks.items in
    let both = and_then-ok (two_words args) (λ both. and_then (or_fault BadNumber (number_of both.0)) (λ i. and_then (next_lock locks i) (λ next. and_then (kind_word both.1) (λ k. Ok (with_lock s k))))) s' is in
    let number = and_then-ok (or_fault BadNumber (number_of both.0.0)) (λ i. and_then (next_lock locks i) (λ next. and_then (kind_word both.0.1) (λ k. Ok (with_lock s k)))) s' both.2 in
    let next = and_then-ok (next_lock locks number.0) (λ next. and_then (kind_word both.0.1) (λ k. Ok (with_lock s k))) s' number.2 in
    let fits = if-ok ((number.0 == locks) && nat_lt number.0 MAX_LOCKS) (Ok number.0) (Bad OutOfRange) next.0 next.1 in
    let few : locks < MAX_LOCKS = grind (arith, nat_tests, fits.0) in
    let kind = and_then-ok (kind_word both.0.1) (λ k. Ok (with_lock s k)) s' next.2 in
    changed s _ s' (one_lock kind.0 few) kind.2

program_line-ok : (s : Setup) (args : List (List ℕ)) (s' : Setup) → program_line s args ≡ Ok s' → Changes s s'
program_line-ok s [] s' is = cc
program_line-ok s (cpu ∷ args) s' is =
    let p = and_then-ok (cpu_word (cpus_of s) cpu) (λ p. if has_program s p then Err (Bad Repeated) else and_then (ops_of s.locks.items args) (λ ops. Ok (with_program s p ops))) s' is in
    let first = else-ok (has_program s p.0) (Bad Repeated) (and_then (ops_of s.locks.items args) (λ ops. Ok (with_program s p.0 ops))) s' p.2 in
    let ops = and_then-ok (ops_of s.locks.items args) (λ ops. Ok (with_program s p.0 ops)) s' first.1 in
    changed s _ s' (one_program p.0 args ops.0 (cpu_word-ok (cpus_of s) cpu p.0 p.1) ops.1) ops.2

handler_line-ok : (s : Setup) (cpu : List ℕ) (args : List (List ℕ)) (s' : Setup) → handler_line s cpu args ≡ Ok s' → Changes s s'
handler_line-ok s cpu args s' is =
    let p = and_then-ok (cpu_word (cpus_of s) cpu) (λ p. if nat_le MAX_HANDLERS (length (given_handlers s p).items) then Err (Limit Handlers) else and_then (ops_of s.locks.items args) (λ ops. Ok (with_handler s p ops))) s' is in
    let few = else-ok (nat_le MAX_HANDLERS (length (given_handlers s p.0).items)) (Limit Handlers) (and_then (ops_of s.locks.items args) (λ ops. Ok (with_handler s p.0 ops))) s' p.2 in
    let less : length (given_handlers s p.0).items < MAX_HANDLERS = grind (arith, nat_tests, few.0) in
    let ops = and_then-ok (ops_of s.locks.items args) (λ ops. Ok (with_handler s p.0 ops)) s' few.1 in
    changed s _ s' (one_handler p.0 args ops.0 (cpu_word-ok (cpus_of s) cpu p.0 p.1) less ops.1) ops.2

irq_line-ok : (s : Setup) (args : List (List ℕ)) (s' : Setup) → irq_line s args ≡ Ok s' → Changes s s'
irq_line-ok s [] s' is = cc
irq_line-ok s (cpu ∷ args) s' is = handler_line-ok s cpu args s' is

-- an accepted line makes one of these changes
pub header_line-changes : (k : Keyword) (s : Setup) (args : List (List ℕ)) (s' : Setup) → header_line k s args ≡ Ok s' → Changes s s'
header_line-changes keyword.Mode s args s' is = mode_line-ok s args s' is
header_line-changes keyword.Cpus s args s' is = cpus_line-ok s args s' is
header_line-changes keyword.Sockets s args s' is = sockets_line-ok s args s' is
header_line-changes keyword.Threshold s args s' is = threshold_line-ok s args s' is
header_line-changes keyword.Spins s args s' is = spins_line-ok s args s' is
header_line-changes keyword.Lock s args s' is = lock_line-ok s args s' is
header_line-changes keyword.Prog s args s' is = program_line-ok s args s' is
header_line-changes keyword.Irq s args s' is = irq_line-ok s args s' is
header_line-changes keyword.Go s args s' is = subst (λ x. Changes s x) (no_words-ok args s s' is) nothing
header_line-changes _ s args s' is = cc
